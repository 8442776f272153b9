-- What the call evaluate answers of the roots that a list of calls gave: at any later time, what they mean; of a root that was read, what the
-- lines of its file say.
use mathlib.Core.Path.{◌≡◌, sym, subst, ◌∙◌}
use mathlib.Core.Bool.{Bool}
use mathlib.Core.List.{List}
use mathlib.Core.Option.{Option, some}
use Prim.Native.Nat.{ℕ, suc, ◌≤◌}
use native.Mathlib.Omega.{arith}
use lib.ListN.{length}
use lib.Seq.{take_all}
use lib.IntN.{ℤ}
use borrow.Author.Tests.{le-leb}
use Rattle.codes.specs.Answer.{Read, value}
use Rattle.store.specs.Store.{Store}
use Rattle.codes.specs.Limits.{Limits}
use Rattle.store.specs.Rules.{Rules}
use Rattle.store.specs.Keeps.{rules-keeps}
use Rattle.store.specs.Meaning.{answer}
use Rattle.store.specs.Settings.{chosen}
use Rattle.evaluation.specs.Evaluation.{evaluation}
use Rattle.store.specs.Empty.{empty}
use Rattle.calls.specs.Calls.{Call, evaluate_of}
use Rattle.calls.specs.Lists.{run_calls}
use Rattle.calls.specs.Roots.{Meaning, Means, Root}
use Rattle.evaluation.specs.SettingBytes.{bytes_of}
use Rattle.calls.proofs.Growing.{at-below}
use Rattle.calls.proofs.Demand3.{after, levels-after, root-rules, root-means}
use Rattle.evaluation.proofs.SettingBytes.{bytes-setting, setting-chosen}

-- an evaluation answers what is meant: something is, and that is its answer
abbrev pub Answers : Option Bool → Read Bool → Type 0
Answers x r = (b : Bool) × ((x ≡ some b) × (r ≡ value b))

-- an edge of a store that keeps the rules answers what it means
means-evaluates : {m : Limits} (τ : Store) (e : ℤ) (x : Meaning) (s : List Bool) → Rules m τ → Means τ e x → length s ≡ τ.levels
    → Answers (x (chosen s)) (evaluate_of m e (bytes_of s) τ)
unfolding evaluation
means-evaluates {m} τ e x s R M q = (answer τ (chosen s) e, (M.agrees (chosen s), go))
  where
    go : evaluate_of m e (bytes_of s) τ ≡ value (answer τ (chosen s) e)
    go =
        let a = (bytes-setting τ s).1 q in
        rw (rules-keeps m τ R, le-leb 1 _ M.edge.some, le-leb _ τ.count M.edge.there, a, setting-chosen s)

module _ (m : Limits) (levels slots : ℕ) (cs : List Call) (a : Root m levels slots cs) (s : List Bool) (q : length s ≡ levels) where
  -- Evaluating a root after the call that gave it, or after any later one, gives what it means.
  pub evaluates-later : (k : ℕ) → a.place ≤ k
      → Answers (a.meaning (chosen s)) (evaluate_of m a.edge (bytes_of s) (after m levels slots cs k))
  evaluates-later k h =
      means-evaluates (after m levels slots cs k) a.edge a.meaning s (root-rules m levels slots cs a k h) (root-means m levels slots cs a k h)
      (q ∙ sym (levels-after m levels slots cs k))

  -- So does evaluating it after the whole list.
  pub evaluates-as-given : Answers (a.meaning (chosen s)) (evaluate_of m a.edge (bytes_of s) (run_calls m (empty levels slots) cs))
  evaluates-as-given =
      subst (λ (l : List Call). Answers (a.meaning (chosen s)) (evaluate_of m a.edge (bytes_of s) (run_calls m (empty levels slots) l)))
      (take_all (suc (length cs)) cs (omega arith))
      (evaluates-later (length cs) (omega (arith, at-below a.at)))
