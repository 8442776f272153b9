-- `chain_alone` meets its contract: no node that was passed is like an older one.
use mathlib.Core.Path.{◌≡◌, ap, ◌∙◌}
use Prim.Native.Nat.{ℕ, ◌≤◌, ◌<◌}
use native.Mathlib.Omega.{arith}
use lib.Seq.{length_front}
use Rattle.store.specs.Held.{held}
use Rattle.store.specs.Store.{Store}
use Rattle.store.specs.Keeps.{says-no}
use Rattle.stretch.specs.Chained.{Copied}
use Rattle.stretch.specs.Little.{little_store}
use Rattle.stretch.specs.declared.LittleStore.{LittleStore}
use Rattle.stretch.proofs.Passed.{passed_here}
use Rattle.stretch.proofs.Stretched.{stretch-sound, stretch-passed, stretch-chained, stretch-lower}
use Rattle.stretches.proofs.chain_alone.Goals as goal
use Rattle.stretches.proofs.chain_alone.Goals.{After-up_to-nodes}

-- the stretch, in the store that it is read as
copied_as : (σ : Store) (n : ℕ) (ν : Store) (s : LittleStore) (last rest : ℕ) → ν ≡ little_store s last → Copied σ n (little_store s last) last rest
    → Copied σ n ν ν.count rest
copied_as σ n ν s last rest e K = rw e K

copied : (c : After-up_to-nodes)
    → Copied (held c.args.store.now) c.loop-at.at (held c.up_to-nodes.result) c.up_to-nodes.result.count c.copy_stretch-s.result.rest
copied c = copied_as _ _ _ _ _ _ c.up_to-nodes.ensures.reads c.copy_stretch-s.ensures.copied

two : (c : After-up_to-nodes) → 2 ≤ c.up_to-nodes.result.count
two c = rw (ap (λ (s : Store). s.count) c.up_to-nodes.ensures.reads) c.copy_stretch-s.ensures.le_last.0

pub stretch_alone-requires-clause-count_in_bounds :
    goal.stretch_alone-requires-clause-count_in_bounds
stretch_alone-requires-clause-count_in_bounds c =
    let n = ap (λ (s : Store). s.count) c.up_to-nodes.ensures.reads in
    let last = c.copy_stretch-s.ensures.le_last.1 in
    let l = c.up_to-nodes.ensures.slots in
    (omega (arith, l.0), (omega (arith, l.1.0), omega (arith, l.1.1)))

pub stretch_alone-requires-clause-chained : goal.stretch_alone-requires-clause-chained
stretch_alone-requires-clause-chained c =
    let d = (goal.at.stretch_alone-requires-clause-chained c).After-up_to-nodes in
    stretch-chained _ _ c.loop-at.invariant.passed.chained _ _ _ (copied d) (two d)

pub returns-then-not-stretch_alone : goal.returns-then-not-stretch_alone
returns-then-not-stretch_alone c =
    let d = (goal.at.returns-then-not-stretch_alone c).After-up_to-nodes in
    let on : 0 < c.loop-at.at = omega arith in
    says-no (λ A. c.stretch_alone.ensures.no c.if-not-stretch_alone.true
    (stretch-sound _ _ c.loop-at.invariant.passed.chained _ _ _ (copied d) (two d) (passed_here _ _ _ _ c.loop-at.invariant.passed on A)))

pub loop-at-smaller : goal.loop-at-smaller
loop-at-smaller c =
    let d = (goal.at.loop-at-smaller c).After-up_to-nodes in
    let on : 0 < c.loop-at.at = omega arith in
    omega (arith, stretch-lower _ _ c.loop-at.invariant.passed.chained _ _ _ (copied d) (two d) on)

pub loop-at-preserved : goal.loop-at-preserved
loop-at-preserved c =
    let d = (goal.at.loop-at-preserved c).After-up_to-nodes in
    let found = c.stretch_alone.ensures.yes c.if-not-stretch_alone.false in
    record {
      passed = stretch-passed _ _ c.loop-at.invariant.passed.chained _ _ _ (copied d) (two d) found.0 found.1 _ c.loop-at.invariant.passed (omega arith);
      long = length_front c.loop-at.index c.stretch_alone.new.index _ c.stretch_alone.auto.index ∙ c.loop-at.invariant.long;
    }
