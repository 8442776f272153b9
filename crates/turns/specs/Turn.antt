-- Roots from before the turn of a store, and from after it. Document 02, request 5: 'Roots taken before and after the turn compare as if read into the
-- wide store from its start.'
use Rattle.std.specs.Prelude.{ℕ, ◌≡◌, List, ℤ}
use Rattle.codes.specs.Limits.{limits}
use Rattle.widened.specs.OldLimits.{old_limits}
use Rattle.store.specs.Store.{Store}
use Rattle.store.specs.Empty.{empty}
use Rattle.store.specs.Meaning.{Setting}
use Rattle.widened.specs.Widen.{NewLengths, widen_of}
use Rattle.calls.specs.Calls.{Call}
use Rattle.calls.specs.Lists.{run_calls, before}
use Rattle.calls.specs.Roots.{Meaning, Gives, At, Root}
use Rattle.turns.specs.Wide.{accepted_of}

-- the old store: any list of calls under the old limits, from an empty one of so many levels and slots on
abbrev pub old_end : ℕ → ℕ → List Call → Store
old_end levels slots olds = run_calls old_limits (empty levels slots) olds

-- A root with its meaning: one that a call before the turn gave, or one that a call after it gave, on the new store as the turn left it.
pub data Either (levels slots : ℕ) (olds : List Call) (l : NewLengths) (news : List Call) : ℤ → Meaning → Type 0 where
  taken_before : (r : Root old_limits levels slots olds) → Either levels slots olds l news r.edge r.meaning
  taken_after : {c : Call} {e : ℤ} {x : Meaning} (k : ℕ) → At news k c → Gives limits c (before limits (widen_of l (old_end levels slots olds)) news k) e x
      → Either levels slots olds l news e x

-- the accepted calls of the list, as they would be made on the wide store from its start
abbrev pub from_start : ℕ → ℕ → List Call → List Call
from_start levels slots olds = accepted_of old_limits (empty levels slots) olds

-- a root of theirs, on an empty store under today's limits, with the same number and the same meaning
pub record SameRoot (levels slots : ℕ) (olds : List Call) (wide : ℕ) (r : Root old_limits levels slots olds) : Type 0 where
  pub root : Root limits levels wide (from_start levels slots olds)
  pub edge : root.edge ≡ r.edge
  pub meaning : (s : Setting) → root.meaning s ≡ r.meaning s
