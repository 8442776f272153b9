-- `distinct` meets its contract: the chains of the buckets below b are judged.
use mathlib.Core.Path.{◌∙◌}
use Prim.Native.Nat.{◌<◌}
use native.Mathlib.Omega.{arith}
use Rattle.store.specs.Keeps.{says-yes, says-no}
use Rattle.stretches.proofs.Heads.{buckets-more, buckets-all, head-newest, head-chained, all-chain}
use Rattle.stretches.proofs.distinct.Goals as goal

pub chain_alone-requires : goal.chain_alone-requires
chain_alone-requires c =
    let low : c.loop-n.n-index < 256 = omega arith in
    (head-chained _ c.requires.chains _ low c.requires.count_in_bounds, c.loop-n.invariant.long)

pub returns-then-not-chain_alone : goal.returns-then-not-chain_alone
returns-then-not-chain_alone c =
    let low : c.loop-n.n-index < 256 = omega arith in
    let n = head-newest _ c.requires.chains _ low in
    says-no (λ A. c.chain_alone.ensures.no c.if-not-chain_alone.true (all-chain _ _ n.high A))

pub loop-n-preserved : goal.loop-n-preserved
loop-n-preserved c =
    let low : c.loop-n.n-index < 256 = omega arith in
    let n = head-newest _ c.requires.chains _ low in
    record {
      alone = buckets-more _ _ c.loop-n.invariant.alone _ n (c.chain_alone.ensures.yes c.if-not-chain_alone.false);
      long = c.chain_alone.auto.index ∙ c.loop-n.invariant.long;
    }

pub returns : goal.returns
returns c =
    says-yes (buckets-all _ _ (omega arith) c.loop-n.invariant.alone)
