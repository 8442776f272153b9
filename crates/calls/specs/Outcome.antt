-- What a call leaves, for all calls alike: its verdict, the store, and what every list that it may write holds. Document 01, 'Answers, by
-- who can cause them': 'On any refusal outputs are all zeros and the store is unchanged .. Scratch ends as zeros.'
use Rattle.std.specs.Prelude.{ℕ, ◌≡◌, List, [], ◌∷◌, length, replicate, ℤ, pos}
use Rattle.codes.specs.Limits.{Limits}
use Rattle.codes.specs.Answer.{Read, value, refused}
use Rattle.store.specs.Store.{Store}
use Rattle.header.specs.Header as head
use Rattle.example_walk.specs.Example.{example_of, left_setting}
use Rattle.exported.specs.Export.{export_of}
use Rattle.tipping.specs.Tip.{tip_of}
use Rattle.calls.specs.Load.{Parts, parts_of, load_of}
use Rattle.joined.specs.Roots.{join_roots, opposite_root}
use Rattle.calls.specs.Calls.{Call, load, evaluate, example, tip, export, join, opposite, evaluate_of}

-- 'A refusal is a number and a line.'
pub data Verdict : Type 0 where
  accepted : Verdict
  refusal : ℕ → ℕ → Verdict

-- a verdict as C gets it, by number and line: zeros where nothing is refused
abbrev pub Tells : ℕ → ℕ → Verdict → Type 0
Tells n line accepted = (n ≡ 0) × (line ≡ 0)
Tells n line (refusal k at) = (n ≡ k) × (line ≡ at)

-- of a load
abbrev pub verdict_of : head.HeaderAnswer → Verdict
verdict_of (head.header h) = accepted
verdict_of (head.refusal n line) = refusal n line

-- of 'every call that reads no file': the line is 0
abbrev pub verdict_read : {A : Type 0} → Read A → Verdict
verdict_read (value a) = accepted
verdict_read (refused n) = refusal n 0

-- what a lent list holds: numbers or bytes, or edges
pub data LentPart : Type 0 where
  numbers : List ℕ → LentPart
  edges : List ℤ → LentPart

abbrev pub Zeros : LentPart → Type 0
Zeros (numbers l) = l ≡ replicate (length l) 0
Zeros (edges l) = l ≡ replicate (length l) (pos 0)

abbrev pub AllZeros : List LentPart → Type 0
AllZeros [] = Unit
AllZeros (p ∷ ps) = Zeros p × AllZeros ps

-- what a call leaves
pub record Outcome : Type 0 where
  pub verdict : Verdict
  pub after : Store
  pub outputs : List LentPart
  pub scratch : List LentPart

abbrev pub outcome : Verdict → Store → List LentPart → List LentPart → Outcome
outcome v σ outputs scratch = record { verdict = v; after = σ; outputs = outputs; scratch = scratch }

-- the lists of a load: nine of output, two of scratch
abbrev pub outputs_of : Parts → List LentPart
outputs_of p =
    numbers p.ids ∷ numbers p.order ∷ numbers p.permids ∷ numbers p.auxids ∷ numbers p.names ∷ numbers p.lens
    ∷ edges p.roots ∷ numbers p.rootnames ∷ numbers p.rootlens ∷ []

abbrev pub scratch_of : Parts → List LentPart
scratch_of p = edges p.edges ∷ numbers p.seats ∷ []

-- What a call leaves, as the calls promise it: of an export the marks, which are its scratch, as zeros.
abbrev pub leaves : Limits → Call → Store → Outcome
leaves m (load c) σ =
    let r = load_of m c σ in
    let lists = parts_of c.lent r in
    outcome (verdict_of r.answer) r.after (outputs_of lists) (scratch_of lists)
leaves m (evaluate e s) σ = outcome (verdict_read (evaluate_of m e s σ)) σ [] []
leaves m (example e wanted long) σ =
    let r = example_of m σ e wanted long in
    outcome (verdict_read r) σ (numbers (left_setting long r) ∷ []) []
leaves m (tip e s) σ = outcome (verdict_read (tip_of m σ e s)) σ [] []
leaves m (export x) σ =
    let r = export_of m x σ in
    outcome (verdict_read r.answer) σ (numbers r.out ∷ []) (numbers (replicate x.slots 0) ∷ numbers (replicate x.numbers 0) ∷ [])
leaves m (join o a b) σ =
    let r = join_roots m o σ a b in
    outcome (verdict_read r.answer) r.after [] []
leaves m (opposite a) σ = outcome (verdict_read (opposite_root m σ a)) σ [] []
