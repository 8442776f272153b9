-- `widen` meets its contract: the turned store, or zeros where it is refused.
use Rattle.std.proofs.Common.{ap, ◌∙◌, replicate}
use Rattle.store.specs.Held.{held_mut}
use Rattle.old_stores.specs.Promises.{held_old}
use Rattle.widened.specs.Widen.{zeroed}
use Rattle.widening.proofs.Turning.{answer-is, refused-left, turned-left}
use Rattle.widening.proofs.widen.Goals as goal
use Rattle.widening.proofs.widen.Goals.{then-refused, else-refused}

pub returns-clause-promise : goal.returns-clause-promise
returns-clause-promise c = record {
  answer = answer-is c.turn-turned.result c.turn-turned.ensures.fault;
  store = elim c.if-refused.branch [
    | then-refused w ↦
        rw w.new-is (w.clear.ensures.zeros ∙ ap (λ l. zeroed l c.args.old.now.levels) c.turn-turned.ensures.lengths
        ∙ refused-left (held_old c.args.old.now) (held_mut c.args.new.now) c.turn-turned.result (cc) c.turn-turned.ensures.fault)
    | else-refused w ↦
        rw w.new-is (turned-left (held_old c.args.old.now) (held_mut c.args.new.now) c.turn-turned.result _ (cc) c.turn-turned.ensures.fault c.turn-turned.ensures.store)
  ];
  work_left = (c.fill.ensures.after (λ y h. h)) ∙ ap (λ n. replicate n 0) c.turn-turned.auto.work;
}
