-- The turned store, and every root from before the turn, as if read into the wide store from its start. Document 02, request 5: 'Roots taken before and
-- after the turn compare as if read into the wide store from its start.' The accepted calls on the old store, made under today's limits on an empty
-- store of the new slots, leave the turned store and give the same roots.
use mathlib.Core.Path.{◌≡◌, refl, sym, ◌∙◌}
use mathlib.Core.List.{List}
use Prim.Native.Nat.{ℕ, ◌≤◌}
use native.Mathlib.Omega.{arith}
use native.Mathlib.Nat.{le_refl, le_trans}
use lib.ListN.{length, length-replicate}
use Rattle.codes.specs.Limits.{Limits, limits}
use Rattle.codes.specs.Answer.{value}
use Rattle.store.specs.Store.{Store}
use Rattle.store.specs.Rules.{Rules}
use Rattle.store.specs.Empty.{empty}
use Rattle.store.proofs.Empty.{empty-rules}
use Rattle.calls.specs.Calls.{Call}
use Rattle.calls.specs.Lists.{run_calls}
use Rattle.calls.specs.Roots.{Root}
use Rattle.widened.specs.OldLimits.{old_limits, Wider}
use Rattle.widened.specs.Widen.{NewLengths, widened, widen_answer, widen_of}
use Rattle.widened.proofs.Old.{old-rules}
use Rattle.widened.proofs.Widened.{widened-long, widened-grows, widened-rules}
use Rattle.widened.proofs.Refusals.{widen-accepted, accepted-left}
use Rattle.turns.specs.Wide.{SameNodes, accepted_of}
use Rattle.turns.specs.Turn.{old_end, from_start, SameRoot}
use Rattle.widened.proofs.Old.{old-wider}
use Rattle.turns.proofs.Wider.{same-across}
use Rattle.turns.proofs.Running.{kept-start, run-same, GivenIn, given-same}

-- the turned store has the same nodes
pub widened_same : {m w : Limits} → Wider m w → (slots : ℕ) (σ : Store) → Rules m σ → σ.count ≤ slots → SameNodes m w σ (widened slots σ)
unfolding widened
widened_same W slots σ R h = record { rules = R; wide_rules = widened-rules slots σ R h W; count = refl; grows = widened-grows slots σ R h }

-- two empty stores, whose slots may differ
empty-long : (levels slots : ℕ) → length (empty levels slots).level ≡ slots
unfolding empty
empty-long levels slots = length-replicate slots 0

empty-same : {m w : Limits} → Wider m w → (levels slots wide : ℕ) → Rules m (empty levels slots) → 1 ≤ wide
    → SameNodes m w (empty levels slots) (empty levels wide)
unfolding empty
empty-same {m} {w} W levels slots wide R h =
    let z = (empty-rules m levels slots).0 R in
    record {
      rules = R;
      wide_rules = (empty-rules w levels wide).1 (h, le_trans z.1 W.levels, le_trans z.2 W.nodes);
      count = refl;
      grows = record {
        levels = refl;
        count = le_refl 1;
        level = λ n p k. absurd (omega arith);
        then = λ n p k. absurd (omega arith);
        els = λ n p k. absurd (omega arith);
      };
    }

-- Calls under limits m, whose end keeps the rules, and under limits w that allow more, in an empty store whose slots are enough for the nodes at the end.
module _ {m w : Limits} (W : Wider m w) (levels slots wide : ℕ) (cs : List Call) (R : Rules m (run_calls m (empty levels slots) cs))
    (h : (run_calls m (empty levels slots) cs).count ≤ wide) where
  start-same : SameNodes m w (empty levels slots) (empty levels wide)
  start-same = empty-same W levels slots wide (kept-start m (empty levels slots) cs R) (le_trans R.sizes.count_some h)

  slots-enough : (run_calls m (empty levels slots) cs).count ≤ length (empty levels wide).level
  slots-enough = omega (arith, empty-long levels wide, h)

  -- the accepted calls leave the turned store
  pub wide-store : run_calls w (empty levels wide) (accepted_of m (empty levels slots) cs) ≡ widened wide (run_calls m (empty levels slots) cs)
  wide-store =
      let T = run-same W cs (empty levels slots) (empty levels wide) start-same slots-enough in
      same-across T.nodes (widened_same W wide (run_calls m (empty levels slots) cs) R h)
      (T.long ∙ empty-long levels wide ∙ sym (widened-long wide (run_calls m (empty levels slots) cs) R.sizes h))

  -- and give every root
  pub wide-root : (r : Root m levels slots cs) → GivenIn w (empty levels wide) (accepted_of m (empty levels slots) cs) r.call r.edge r.meaning
  wide-root r = given-same W r.at (empty levels slots) (empty levels wide) start-same slots-enough r.given

-- The turn of an old store that was made by any list of calls.
module _ (levels slots : ℕ) (olds : List Call) (l : NewLengths) (q : widen_answer l (old_end levels slots olds) ≡ value tt) where
  -- what an accepted turn has shown
  pub turn-rules : Rules old_limits (old_end levels slots olds)
  turn-rules = (old-rules (old_end levels slots olds)).0 ((widen-accepted l (old_end levels slots olds)).0 q).1

  pub turn-slots : (old_end levels slots olds).count ≤ l.level
  turn-slots = ((widen-accepted l (old_end levels slots olds)).0 q).0.slots

  -- It is the store that the accepted calls leave, made on the wide store from its start,
  pub same_store : run_calls limits (empty levels l.level) (from_start levels slots olds) ≡ widen_of l (old_end levels slots olds)
  same_store = wide-store old-wider levels slots l.level olds turn-rules turn-slots ∙ sym (accepted-left l (old_end levels slots olds) q)

  -- which give every root of the old list by the same number and with the same meaning.
  pub same-root : (r : Root old_limits levels slots olds) → SameRoot levels slots olds l.level r
  same-root r =
      let G = wide-root old-wider levels slots l.level olds turn-rules turn-slots r in
      record {
        root = record { place = G.place; call = r.call; at = G.at; edge = r.edge; meaning = G.meaning; given = G.given };
        edge = refl;
        meaning = G.agrees;
      }
