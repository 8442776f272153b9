-- `put_names` meets its contract.
use Rattle.export_names.specs.Names.{names_at}
use Rattle.heading.proofs.Writing.{words-start, words-as, writing-room, writing_more, writing-end}
use Rattle.heading.proofs.Places.{name-next, names-end}
use Rattle.head_names.proofs.put_names.Goals as goal

pub loop-i-init : goal.loop-i-init
loop-i-init c =
    let s = c in
    words-start s.args.out.now s.args.at (names_at s.args.bytes.now s.args.starts.now s.args.lens.now) s.requires.fits_out

pub put_name-next-requires-clause-fits_out : goal.put_name-next-requires-clause-fits_out
put_name-next-requires-clause-fits_out c =
    let s = c in
    writing-room (words-as (name-next s.requires.inside c.loop-i-test.true) c.loop-i.invariant)

pub loop-i-preserved : goal.loop-i-preserved
loop-i-preserved c =
    let s = c in
    writing_more (words-as (name-next s.requires.inside c.loop-i-test.true) c.loop-i.invariant)
    c.put_name-next.ensures

pub returns : goal.returns
returns c =
    let s = c in
    writing-end (words-as (names-end s.requires.inside c.loop-i-test.false) c.loop-i.invariant)
