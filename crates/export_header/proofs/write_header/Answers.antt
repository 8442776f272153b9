-- `write_header` meets its contract: the groups of lines one after another.
use mathlib.Core.Path.{sym}
use Rattle.read_text.specs.Text.{place}
use Rattle.writers.specs.Words.{spaced}
use Rattle.heading.specs.Heading.{Heading, head_text}
use Rattle.heading.specs.Tables.{lent, heading_by}
use Rattle.heading.proofs.Writing.{Writing, writing_start, writing-room, writing_more, writing-end}
use Rattle.heading.proofs.Parts.{head_parts, head-parts}
use Rattle.export_header.proofs.write_header.Goals.{Start}
use Rattle.export_header.proofs.write_header.Goals as goal

-- The header that is written.
abbrev heading : Start → Heading
heading c =
    heading_by c.args.version c.args.ascii
    (lent c.args.bytes.now c.args.starts.now c.args.lens.now c.args.rootstarts.now c.args.rootlens.now (place c.args.ddstart c.args.ddlen))
    c.args.nnodes c.args.order.now c.args.seats.now c.args.roots.now c.args.numbers.now

-- At first all its parts are left.
begun : (c : Start) → Writing c.args.out.now c.args.at (head_text (heading c)) c.args.out.now c.args.at (head_parts (heading c) c.args.nsuppvars)
begun c = writing_start _ _ (head-parts (heading c) (sym c.requires.counted)) c.requires.room

pub write_intro-counts_at-requires-clause-fits_out : goal.write_intro-counts_at-requires-clause-fits_out
write_intro-counts_at-requires-clause-fits_out c = writing-room (begun (goal.at.write_intro-counts_at-requires-clause-fits_out c).Start)

pub write_counts-names_at-requires : goal.write_counts-names_at-requires
write_counts-names_at-requires c = writing-room (writing_more (begun (goal.at.write_counts-names_at-requires c).Start) c.write_intro-counts_at.ensures)

pub write_names-ids_at-requires : goal.write_names-ids_at-requires
write_names-ids_at-requires c =
    let w = writing_more (begun (goal.at.write_names-ids_at-requires c).Start) c.write_intro-counts_at.ensures in
    record {
      names_do_fit = c.requires.names.names;
      ordered = c.requires.ordered;
      room = writing-room (writing_more w c.write_counts-names_at.ensures);
    }

pub write_ids-roots_at-requires-clause-fits_out : goal.write_ids-roots_at-requires-clause-fits_out
write_ids-roots_at-requires-clause-fits_out c =
    let w = writing_more (begun (goal.at.write_ids-roots_at-requires-clause-fits_out c).Start) c.write_intro-counts_at.ensures in
    writing-room (writing_more (writing_more w c.write_counts-names_at.ensures) c.write_names-ids_at.ensures)

pub write_roots-nodes_at-requires : goal.write_roots-nodes_at-requires
write_roots-nodes_at-requires c =
    let w = writing_more (begun (goal.at.write_roots-nodes_at-requires c).Start) c.write_intro-counts_at.ensures in
    let v = writing_more (writing_more w c.write_counts-names_at.ensures) c.write_names-ids_at.ensures in
    record {
      rooted = c.requires.rooted;
      names_do_fit = c.requires.names.rootnames;
      room = writing-room (writing_more v c.write_ids-roots_at.ensures);
    }

pub put_bytes-requires : goal.put_bytes-requires
unfolding spaced
put_bytes-requires c =
    let w = writing_more (begun (goal.at.put_bytes-requires c).Start) c.write_intro-counts_at.ensures in
    let v = writing_more (writing_more w c.write_counts-names_at.ensures) c.write_names-ids_at.ensures in
    writing-room (writing_more (writing_more v c.write_ids-roots_at.ensures) c.write_roots-nodes_at.ensures)

pub returns : goal.returns
unfolding spaced
returns c =
    let w = writing_more (begun (goal.at.returns c).Start) c.write_intro-counts_at.ensures in
    let v = writing_more (writing_more w c.write_counts-names_at.ensures) c.write_names-ids_at.ensures in
    writing-end (writing_more (writing_more (writing_more v c.write_ids-roots_at.ensures) c.write_roots-nodes_at.ensures) c.put_bytes.ensures)
