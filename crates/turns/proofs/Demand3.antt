-- Demand 3 across the turn. Document 02, request 5: 'Roots taken before and after the turn compare as if read into the wide store from its start.' Of any
-- list of calls on an old store, a turn of it, and any list of calls on the new store: two roots are equal as signed numbers exactly where what they mean
-- answers alike at every setting. Nothing is asked of the turn: where it is refused the new store counts 0, breaks the rules, and gives no root.
use mathlib.Core.Path.{◌≡◌, refl, sym, subst, ◌∙◌}
use mathlib.Core.Logic.{◌↔◌}
use mathlib.Core.List.{List}
use Prim.Native.Nat.{ℕ, suc, ◌≤◌}
use native.Mathlib.Omega.{arith}
use lib.ListN.{length, take}
use lib.Seq.{take_all}
use lib.IntN.{ℤ}
use Rattle.codes.specs.Limits.{Limits, limits}
use Rattle.codes.specs.Answer.{Read, value, refused}
use Rattle.store.specs.Store.{Store}
use Rattle.store.specs.Rules.{Rules}
use Rattle.store.specs.Growth.{Grows}
use Rattle.store.specs.Empty.{empty}
use Rattle.calls.specs.Calls.{Call}
use Rattle.calls.specs.Lists.{run_calls, before}
use Rattle.calls.specs.Roots.{Meaning, Means, Gives, At, Root, Alike}
use Rattle.calls.proofs.Growing.{run-grows, run-rules, after-grows, at-below}
use Rattle.calls.proofs.Demand3.{gives-rules, gives-means, means-grown, one_store, root-means, demand-3}
use Rattle.widened.specs.OldLimits.{old_limits}
use Rattle.widened.specs.Widen.{NewLengths, zeroed, widen_answer, widen_of}
use Rattle.widened.proofs.Widened.{widened-grows, widened-rules}
use Rattle.widened.proofs.Refusals.{accepted-left, refused-left}
use Rattle.turns.specs.Turn.{old_end, Either, taken_before, taken_after}
use Rattle.widened.proofs.Old.{old-wider}
use Rattle.turns.proofs.Accepted.{accepted-rules, gives-accepted}
use Rattle.turns.proofs.Running.{broken-run}
use Rattle.turns.proofs.AsIfWide.{turn-rules, turn-slots}

-- a root means at the end of its list what it means when it is given
pub end-means : (m : Limits) (levels slots : ℕ) (cs : List Call) (r : Root m levels slots cs)
    → Means (run_calls m (empty levels slots) cs) r.edge r.meaning
end-means m levels slots cs r =
    subst (λ (l : List Call). Means (run_calls m (empty levels slots) l) r.edge r.meaning) (take_all (suc (length cs)) cs (omega arith))
    (root-means m levels slots cs r (length cs) (omega (arith, at-below r.at)))

-- the same of a list from any store on
pub later-means : (m : Limits) (σ : Store) (cs : List Call) {k : ℕ} {c : Call} {e : ℤ} {x : Meaning} → At cs k c → Gives m c (before m σ cs k) e x
    → Means (run_calls m σ cs) e x
later-means m σ cs {e = e} {x} p G =
    subst (λ (l : List Call). Means (run_calls m σ l) e x) (take_all (length cs) cs (omega arith))
    (means-grown (after-grows m σ p (length cs) (at-below p)) (gives-rules G) (gives-means G))

-- a store that counts no node breaks the rules
zeroed-broken : (l : NewLengths) (levels : ℕ) → Rules limits (zeroed l levels) → ⊥
unfolding zeroed
zeroed-broken l levels R = omega (arith, R.sizes.count_some)

module _ (levels slots : ℕ) (olds : List Call) (l : NewLengths) (news : List Call) where
  -- the new store as the turn left it, and as the calls after it left it
  abbrev turned : Store
  turned = widen_of l (old_end levels slots olds)

  abbrev end : Store
  end = run_calls limits turned news

  -- The turn is accepted: both kinds of roots have their meaning at the end.
  module _ (q : widen_answer l (old_end levels slots olds) ≡ value tt) where
    R : Rules old_limits (old_end levels slots olds)
    R = turn-rules levels slots olds l q

    h : (old_end levels slots olds).count ≤ l.level
    h = turn-slots levels slots olds l q

    turned-rules : Rules limits turned
    turned-rules =
        subst (Rules limits) (sym (accepted-left l (old_end levels slots olds) q)) (widened-rules l.level (old_end levels slots olds) R h old-wider)

    turned-grows : Grows (old_end levels slots olds) turned
    turned-grows =
        subst (Grows (old_end levels slots olds)) (sym (accepted-left l (old_end levels slots olds) q)) (widened-grows l.level (old_end levels slots olds) R h)

    end-levels : end.levels ≡ levels
    unfolding empty
    end-levels = (run-grows limits turned news).levels ∙ turned-grows.levels ∙ (run-grows old_limits (empty levels slots) olds).levels

    either-means : {a : ℤ} {x : Meaning} → Either levels slots olds l news a x → Means end a x
    either-means (taken_before r) =
        means-grown (run-grows limits turned news) turned-rules (means-grown turned-grows R (end-means old_limits levels slots olds r))
    either-means (taken_after k p G) = later-means limits turned news p G

    accepted-turn : {a b : ℤ} {x y : Meaning} → Either levels slots olds l news a x → Either levels slots olds l news b y → (a ≡ b) ↔ Alike levels x y
    accepted-turn {a} {b} {x} {y} u v = one_store levels a b x y end-levels (run-rules limits turned news turned-rules) (either-means u) (either-means v)

  -- The turn is refused: only calls before it give roots.
  module _ (n : ℕ) (q : widen_answer l (old_end levels slots olds) ≡ refused n) where
    turned-broken : Rules limits turned → ⊥
    turned-broken S =
        zeroed-broken l (old_end levels slots olds).levels (subst (Rules limits) (refused-left l (old_end levels slots olds) n q) S)

    no-root : {C : Type 0} {c : Call} {e : ℤ} {x : Meaning} (k : ℕ) → Gives limits c (before limits turned news k) e x → C
    no-root {c = c} k G =
        absurd (turned-broken (subst (Rules limits) (broken-run limits turned turned-broken (take k news))
        (accepted-rules limits c (before limits turned news k) (gives-accepted G))))

    refused-turn : {a b : ℤ} {x y : Meaning} → Either levels slots olds l news a x → Either levels slots olds l news b y → (a ≡ b) ↔ Alike levels x y
    refused-turn (taken_before r) (taken_before s) = demand-3 old_limits levels slots olds r s
    refused-turn (taken_before r) (taken_after k p G) = no-root k G
    refused-turn (taken_after k p G) v = no-root k G

-- Demand 3 across the turn. The calls before it, the lengths that it is lent and the calls after it are arbitrary; nothing is asked of any answer, beyond
-- that each root was given by a call that was accepted.
pub demand-3-turned : (levels slots : ℕ) (olds : List Call) (l : NewLengths) (news : List Call) {a b : ℤ} {x y : Meaning}
    → Either levels slots olds l news a x → Either levels slots olds l news b y → (a ≡ b) ↔ Alike levels x y
demand-3-turned levels slots olds l news {a} {b} {x} {y} u v = go (widen_answer l (old_end levels slots olds)) refl
  where
    go : (r : Read Unit) → widen_answer l (old_end levels slots olds) ≡ r → (a ≡ b) ↔ Alike levels x y
    go (value t) q = accepted-turn levels slots olds l news q u v
    go (refused n) q = refused-turn levels slots olds l news n q u v
