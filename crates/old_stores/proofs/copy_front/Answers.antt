-- `copy_front` meets its contract: the entries before i are copied, and those from i on are as they were.
use Rattle.std.proofs.Common.{arith, ◌+◌, ◌<◌, length, drop, ap, ◌∙◌, sym}
use Rattle.std.proofs.lemmas.List.{drop-set-lt, drop-drop}
use Rattle.std.proofs.lemmas.Option.{slice_get_within}
use Rattle.old_stores.proofs.Copying.{front_more}
use Rattle.old_stores.proofs.copy_front.Goals as goal

pub loop-i-preserved : goal.loop-i-preserved
loop-i-preserved g c =
    let h : c.loop-i.i < length c.loop-i.to = omega (arith, c.loop-i.auto.to) in (
      front_more g.B.From.from_gives c.args.from.now c.loop-i.to c.loop-i.i c.index-from-i.result c.from.result c.index-from-i.is h c.from.ensures c.loop-i.invariant.0,
      drop-set-lt (c.loop-i.i + 1) c.loop-i.to c.loop-i.i c.from.result (omega arith) ∙ sym (drop-drop 1 c.loop-i.i c.loop-i.to) ∙ ap (drop 1) c.loop-i.invariant.1
          ∙ drop-drop 1 c.loop-i.i c.args.to.now,
    )

pub returns-clause-front : goal.returns-clause-front
returns-clause-front g c k a b p q = c.loop-i.invariant.0 k a b (omega (arith, slice_get_within c.args.from.now k a p)) p q
