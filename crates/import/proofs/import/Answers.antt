-- `import` meets its contract: the lines are read and made, the end of the file judged, the roots put in place of their numbers, and what a
-- refused file has made is taken back.
use mathlib.Core.Path.{ap, ◌∙◌}
use lib.ListN.{replicate}
use Rattle.store.specs.Held.{held_mut}
use Rattle.import_steps.specs.Kinds.{of_setup}
use Rattle.imported.proofs.Settling.{front-edges, stay-settled, import-leaves}
use Rattle.import.proofs.import.Goals as goal

pub put_roots-requires : goal.put_roots-requires
put_roots-requires c =
    front-edges (of_setup c.args.setup c.args.list.now c.args.store.now.levels) (held_mut c.args.store.now) c.args.f.now c.args.from c.requires.rules
    c.requires.levels_fit _ _ c.import_lines-read.ensures.read.answer c.with_end-answer.ensures c.is_read-ok.ensures
    c.import_lines-read.ensures.read.laid

pub take_back-requires : goal.take_back-requires
take_back-requires c =
    let p = stay-settled (of_setup c.args.setup c.args.list.now c.args.store.now.levels) (held_mut c.args.store.now) c.args.f.now c.args.from
    c.requires.rules c.requires.levels_fit c.is_read-ok.result c.import_lines-read.ensures.read.store c.staying-to.ensures in
    record { rules = p.0; some = p.1.0; there = p.1.1 }

pub returns-clause-imported : goal.returns-clause-imported
returns-clause-imported c =
    let p = import-leaves (of_setup c.args.setup c.args.list.now c.args.store.now.levels) (held_mut c.args.store.now) c.args.f.now c.args.from
    c.requires.rules c.requires.levels_fit c.args.roots.now _ c.import_lines-read.ensures.read.answer c.import_lines-read.ensures.read.store
    c.import_lines-read.ensures.read.laid c.with_end-answer.ensures c.is_read-ok.ensures c.put_roots.ensures c.staying-to.ensures
    c.take_back.ensures.back.store (c.fill.ensures.after (λ y h. h)) c.import_lines-read.auto.edges (c.fill-2.ensures.after (λ y h. h))
    c.import_lines-read.auto.seats in
    record {
      answer = p.0;
      store = p.1.0;
      roots_left = p.1.1.0;
      edges_left = p.1.1.1.0;
      seats_left = p.1.1.1.1;
      work_left = (c.fill-3.ensures.after (λ y h. h)) ∙ ap (λ n. replicate n 0) c.import_lines-read.auto.work;
    }
