use lib.ListN.{length}
use Rattle.read_text.specs.Text.{start_of, len_of}
use Rattle.header_values.specs.Values.{spans}
use Rattle.header_lists.proofs.Naming.{filled-varnames, seated-known, seated-room, named}
use Rattle.header_lists.proofs.fill_names.Goals as goal

pub returns-then-names_in-ne0 : goal.returns-then-names_in-ne0
returns-then-names_in-ne0 c =
    record {
      names_left = filled-varnames _ _ start_of (length c.args.names.now) c.names_in.ensures.answer
          c.names_in.ensures.names_left c.if-names_in-ne0.true;
      lens_left = filled-varnames _ _ len_of (length c.args.lens.now) c.names_in.ensures.answer c.names_in.ensures.lens_left c.if-names_in-ne0.true;
    }

pub gather_names-requires-clause-table : goal.gather_names-requires-clause-table
gather_names-requires-clause-table c = (
  c.requires.table.0,
  seated-known _ _ _ _ c.seat_names-key.result c.seat_names-key.ensures.seated,
)

pub gather_names-requires-clause-names_room : goal.gather_names-requires-clause-names_room
gather_names-requires-clause-names_room c =
    seated-room _ _ _ _ c.seat_names-key.result c.seat_names-key.ensures.seated c.requires.lists_room _ _ c.seat_names-key.auto.seats c.seat_names-key.auto.free

pub returns : goal.returns
returns c =
    let v = c.names_in.ensures in
    let g = c.gather_names.ensures in
    let all = named c.args.f.now (spans c.args.starts.now c.args.ends.now) v.answer c.if-names_in-ne0.false
    (length c.args.names.now) (length c.args.lens.now) c.number_in-count.result v.names_left v.lens_left
    c.number_in-count.ensures c.requires.lists_room.lens_seats c.seat_names-key.result _ c.seat_names-key.ensures.seated g.names_left g.lens_left in
    record { names_left = all.0; lens_left = all.1 }
