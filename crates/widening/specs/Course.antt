-- The turn by its steps: what the copy adds to what was found before, and what is left of a list on a refusal.
use Rattle.std.specs.Prelude.{ℕ, cond, List, eqb, length, replicate}
use Rattle.codes.specs.Faults.{unless}
use Rattle.codes.specs.Limits.{limits}
use Rattle.store.specs.Store.{Store}
use Rattle.store.specs.Keeps.{keeps}

-- a refusal so far stays; else 3 where the copy breaks the rules
abbrev pub copy_fault : ℕ → Store → ℕ
copy_fault found σ = cond (eqb found 0) (unless (keeps limits σ) 3) found

-- a list as it was, or zeros on a refusal
abbrev pub kept_unless : {A : Type 0} → ℕ → A → List A → List A
kept_unless fault d l = cond (eqb fault 0) l (replicate (length l) d)
