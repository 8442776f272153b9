-- `write_names` meets its contract: nothing where there are no names, and otherwise `.varnames` in version 3.0 and two further lines.
use mathlib.Core.Path.{refl, sym, ◌∙◌}
use native.Mathlib.Omega.{arith}
use lib.ListN.{length}
use Rattle.export_names.specs.Names.{names_at}
use Rattle.heading.specs.Lines.{lines_text}
use Rattle.heading.specs.Heading.{named_lines}
use Rattle.heading.specs.Tables.{seated_levels, Inside}
use Rattle.heading.proofs.Writing.{Writing, writing_start, writing-room, writing_more, writing-end}
use Rattle.heading.proofs.Parts.{name_parts, name-parts, name-parts-none}
use Rattle.heading.proofs.Places.{list_inside}
use Rattle.heading.proofs.Variables.{ordered-seatable}
use Rattle.head_names.proofs.write_names.Goals.{Start, Else-lens-order}
use Rattle.head_names.proofs.write_names.Goals as goal

-- The names lie inside the lent bytes.
inside : (c : Start) → Inside c.args.bytes.now c.args.starts.now c.args.lens.now
inside c = list_inside (length c.args.order.now) c.args.bytes.now c.args.starts.now c.args.lens.now c.requires.names_do_fit

-- Where there is one for each variable, the lines are written in parts.
begun : (c : Else-lens-order) → Inside c.args.bytes.now c.args.starts.now c.args.lens.now
    → Writing c.args.out.now c.args.at
    (lines_text (named_lines c.args.version (seated_levels c.args.seats.now) c.args.order.now (names_at c.args.bytes.now c.args.starts.now c.args.lens.now)))
    c.args.out.now c.args.at
    (name_parts c.args.version (seated_levels c.args.seats.now) c.args.order.now (names_at c.args.bytes.now c.args.starts.now c.args.lens.now))
begun c i =
    writing_start _ _
    (name-parts c.args.version (seated_levels c.args.seats.now) c.args.order.now (names_at c.args.bytes.now c.args.starts.now c.args.lens.now)
    (i.many ∙ c.if-lens-order.false))
    c.requires.room

pub returns-then-lens-order : goal.returns-then-lens-order
returns-then-lens-order c =
    let i = inside (goal.at.returns-then-lens-order c).Start in
    rw (name-parts-none c.args.version (seated_levels c.args.seats.now) c.args.order.now (names_at c.args.bytes.now c.args.starts.now c.args.lens.now)
    (λ e. c.if-lens-order.true (sym i.many ∙ e)))
    (record { next = omega arith; bytes = refl })

pub write_varnames-supp_key-requires-clause-inside : goal.write_varnames-supp_key-requires-clause-inside
write_varnames-supp_key-requires-clause-inside c = inside (goal.at.write_varnames-supp_key-requires-clause-inside c).Start

pub write_varnames-supp_key-requires-clause-fits_out : goal.write_varnames-supp_key-requires-clause-fits_out
write_varnames-supp_key-requires-clause-fits_out c =
    let p = goal.at.write_varnames-supp_key-requires-clause-fits_out c in
    writing-room (begun p.Else-lens-order (inside p.Start))

pub put_bytes-supp_at-requires : goal.put_bytes-supp_at-requires
put_bytes-supp_at-requires c =
    let p = goal.at.put_bytes-supp_at-requires c in
    writing-room (writing_more (begun p.Else-lens-order (inside p.Start)) c.write_varnames-supp_key.ensures)

pub put_supp_names-ordered_key-requires : goal.put_supp_names-ordered_key-requires
put_supp_names-ordered_key-requires c =
    let p = goal.at.put_supp_names-ordered_key-requires c in
    let w = writing_more (begun p.Else-lens-order (inside p.Start)) c.write_varnames-supp_key.ensures in
    record {
      inside = inside p.Start;
      named = c.if-lens-order.false;
      seatable = ordered-seatable c.requires.ordered;
      room = writing-room (writing_more w c.put_bytes-supp_at.ensures);
    }

pub put_bytes-ordered_at-requires : goal.put_bytes-ordered_at-requires
put_bytes-ordered_at-requires c =
    let p = goal.at.put_bytes-ordered_at-requires c in
    let w = writing_more (begun p.Else-lens-order (inside p.Start)) c.write_varnames-supp_key.ensures in
    writing-room (writing_more (writing_more w c.put_bytes-supp_at.ensures) c.put_supp_names-ordered_key.ensures)

pub put_ordered_names-end-requires : goal.put_ordered_names-end-requires
put_ordered_names-end-requires c =
    let p = goal.at.put_ordered_names-end-requires c in
    let w = writing_more (begun p.Else-lens-order (inside p.Start)) c.write_varnames-supp_key.ensures in
    let v = writing_more (writing_more w c.put_bytes-supp_at.ensures) c.put_supp_names-ordered_key.ensures in
    let o = c.requires.ordered in
    record {
      inside = inside p.Start;
      named = c.if-lens-order.false;
      is_an_order = o.is_an_order;
      vars_there = o.vars_there;
      vars_long = o.vars_long;
      room = writing-room (writing_more v c.put_bytes-ordered_at.ensures);
    }

pub put_byte-requires : goal.put_byte-requires
put_byte-requires c =
    let p = goal.at.put_byte-requires c in
    let w = writing_more (begun p.Else-lens-order (inside p.Start)) c.write_varnames-supp_key.ensures in
    let v = writing_more (writing_more w c.put_bytes-supp_at.ensures) c.put_supp_names-ordered_key.ensures in
    omega (arith, writing-room (writing_more (writing_more v c.put_bytes-ordered_at.ensures) c.put_ordered_names-end.ensures))

pub returns : goal.returns
returns c =
    let p = goal.at.returns c in
    let w = writing_more (begun p.Else-lens-order (inside p.Start)) c.write_varnames-supp_key.ensures in
    let v = writing_more (writing_more w c.put_bytes-supp_at.ensures) c.put_supp_names-ordered_key.ensures in
    writing-end (writing_more (writing_more (writing_more v c.put_bytes-ordered_at.ensures) c.put_ordered_names-end.ensures) c.put_byte.ensures)
