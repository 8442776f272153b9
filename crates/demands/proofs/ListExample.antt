-- A list of calls that gives roots, so that demand 3 speaks of something: document 01's example is loaded twice. And a refused load, so that
-- demand 1 does.
use mathlib.Core.Path.{◌≡◌, refl, sym, ap, ◌∙◌}
use mathlib.Core.Bool.{Bool, ◌&&◌}
use mathlib.Core.List.{[], ◌∷◌}
use mathlib.Core.Option.{some-injective}
use Prim.Native.Nat.{◌<◌}
use native.Mathlib.Omega.{arith}
use lib.ListN.{length, get_elem?}
use lib.IntN.{ℤ, pos}
use Rattle.codes.specs.Limits.{limits}
use Rattle.codes.specs.Answer.{value}
use Rattle.store.specs.Store.{Store}
use Rattle.store.specs.Settings.{chosen}
use Rattle.header.specs.Header.{header}
use Rattle.store.specs.Empty.{empty}
use Rattle.calls.specs.Load.{load_of}
use Rattle.calls.specs.Calls.{load, evaluate_of}
use Rattle.calls.specs.Lists.{run_calls}
use Rattle.calls.specs.Roots.{roots_of, file_says, load_says, Gives, loaded, here, later, Root}
use Rattle.calls.specs.Outcome.{verdict_of}
use Rattle.evaluation.specs.SettingBytes.{byte_of}
use Rattle.demands.specs.Examples.{example_load, example_header, twice}
use Rattle.demands.proofs.Examples.{example-loads, example-roots, example-ids, example-says, example-crowded, again-loads}
use Rattle.calls.proofs.RootsAnswer.{roots-answer}
use Rattle.calls.proofs.Demand1.{demand-1}
use Rattle.calls.proofs.Demand3.{demand-3}
use Rattle.calls.proofs.Evaluating.{evaluates-as-given}

-- the file of the example says something of its first root
pub first_entry : 0 < length (roots_of example_load.file)
first_entry = rw example-ids (omega arith)

-- what a load of the example gives for it, in a store where it is accepted
module _ (σ : Store) (q : (load_of limits example_load σ).answer ≡ header example_header) where
  abbrev given-root : ℤ
  given-root = ((roots-answer limits example_load σ example_header q).root 0 first_entry).root

  gives-root : Gives limits (load example_load) σ given-root (load_says limits example_load σ 0)
  gives-root =
      loaded example_load σ example_header 0 given-root q first_entry ((roots-answer limits example_load σ example_header q).root 0 first_entry).there

-- the first root of the first load
first-root : Root limits 2 3 twice
unfolding run_calls
first-root = record {
  place = 0;
  call = load example_load;
  at = here;
  edge = given-root (empty 2 3) example-loads;
  meaning = load_says limits example_load (empty 2 3) 0;
  given = gives-root (empty 2 3) example-loads;
}

-- and of the second
again-root : Root limits 2 3 twice
unfolding run_calls
again-root = record {
  place = 2;
  call = load example_load;
  at = later (later here);
  edge = given-root (load_of limits example_load (empty 2 3)).after again-loads;
  meaning = load_says limits example_load (load_of limits example_load (empty 2 3)).after 0;
  given = gives-root (load_of limits example_load (empty 2 3)).after again-loads;
}

-- the first is 3
root-three : given-root (empty 2 3) example-loads ≡ pos 3
root-three =
    some-injective _ (pos 3)
    (sym ((roots-answer limits example_load (empty 2 3) example_header example-loads).root 0 first_entry).there ∙ ap (λ r. get_elem? r 0) example-roots)

-- they are one number, since the two readings have as many levels
pub same-root : given-root (load_of limits example_load (empty 2 3)).after again-loads ≡ pos 3
unfolding empty first-root again-root
same-root =
    let v : (load_of limits example_load (empty 2 3)).after.levels ≡ 2 =
    (roots-answer limits example_load (empty 2 3) example_header example-loads).grows.levels in
    (demand-3 limits 2 3 twice again-root first-root).1 (λ s l.
    let w = evaluates-as-given limits 2 3 twice first-root s l in
    (w.0, (ap (λ n. file_says limits example_load.file example_load.list n 0 (chosen s)) v ∙ w.1.0, w.1.0)))
    ∙ root-three

-- after all three calls evaluation still answers by the lines of the example: yes just where both levels are yes
pub evaluates-both : (a b : Bool) → evaluate_of limits (pos 3) (byte_of a ∷ byte_of b ∷ []) (run_calls limits (empty 2 3) twice) ≡ value (a && b)
unfolding empty first-root
evaluates-both a b =
    let w = evaluates-as-given limits 2 3 twice first-root (a ∷ b ∷ []) refl in
    let same : w.0 ≡ (a && b) = some-injective _ _ (sym w.1.0 ∙ example-says a b) in
    ap (λ r. evaluate_of limits r (byte_of a ∷ byte_of b ∷ []) (run_calls limits (empty 2 3) twice)) (sym root-three) ∙ w.1.1 ∙ ap value same

-- with a slot less than it needs the example leaves the store as it was, though its second line was made before its third found no room
pub crowded-unchanged : (load_of limits example_load (empty 2 2)).after ≡ empty 2 2
crowded-unchanged = (demand-1 limits (load example_load) (empty 2 2) 40 0 (ap (λ r. verdict_of r.answer) example-crowded)).0
