-- `put_name` meets its contract: a space, and then the name at the entry's place.
use mathlib.Core.List.{[], ◌∷◌}
use native.Mathlib.Omega.{arith}
use lib.ListN.{get_or}
use Rattle.export_names.specs.Names.{names_at}
use Rattle.writers.proofs.Sets.{wrote_then}
use Rattle.heading.proofs.Places.{name-at}
use Rattle.head_names.proofs.put_name.Goals as goal

pub put_place-requires-clause-fits_out : goal.put_place-requires-clause-fits_out
put_place-requires-clause-fits_out c =
    let s = c in
    let p = s.requires.inside in
    rw (← (name-at s.args.bytes.now s.args.starts.now s.args.lens.now s.args.i p.0.even))
    (omega (arith, s.requires.fits_out, c.put_byte-next.ensures.next, c.put_byte-next.auto.out))

pub returns : goal.returns
returns c =
    let s = c in
    wrote_then s.args.out.now s.args.at (0x20 ∷ [])
    (get_or (names_at s.args.bytes.now s.args.starts.now s.args.lens.now) s.args.i [])
    c.put_byte-next.ensures
    (rw (name-at s.args.bytes.now s.args.starts.now s.args.lens.now s.args.i s.requires.inside.0.even)
    c.put_place.ensures)
