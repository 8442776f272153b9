-- `write_refusal` meets its contract: zeros, and the line's parts one after another over their front.
use mathlib.Core.Path.{◌≡◌, ◌∙◌}
use native.Mathlib.Omega.{arith}
use lib.ListN.{replicate}
use Rattle.heading.proofs.Writing.{Writing, writing-room, writing_more, writing-end}
use Rattle.recode_text.specs.Text.{refusal_text}
use Rattle.recode_text.proofs.RefusalLine.{refusal_parts, refusal-start, refusal-end}
use Rattle.recode_text.proofs.write_refusal.Goals.{After-fill}
use Rattle.recode_text.proofs.write_refusal.Goals as goal

-- All is zeros at first.
zeros : (c : After-fill) → c.fill.new.self ≡ replicate 64 0
zeros c = c.fill.ensures.after (λ y h. h) ∙ rw c.told-out

-- Then the parts of the line are left to write.
begun : (c : After-fill)
    → Writing c.fill.new.self 0 (refusal_text c.args.n c.args.line) c.fill.new.self 0 (refusal_parts c.args.n c.args.line)
begun c = refusal-start c.args.n c.args.line (zeros c)

pub put_decimal-word_at-requires : goal.put_decimal-word_at-requires
put_decimal-word_at-requires c = writing-room (writing_more (begun (goal.at.put_decimal-word_at-requires c).After-fill) c.put_bytes-number_at.ensures)

pub put_bytes-line_at-requires : goal.put_bytes-line_at-requires
put_bytes-line_at-requires c =
    let w = writing_more (begun (goal.at.put_bytes-line_at-requires c).After-fill) c.put_bytes-number_at.ensures in
    writing-room (writing_more w c.put_decimal-word_at.ensures)

pub put_decimal-end-requires : goal.put_decimal-end-requires
put_decimal-end-requires c =
    let w = writing_more (begun (goal.at.put_decimal-end-requires c).After-fill) c.put_bytes-number_at.ensures in
    writing-room (writing_more (writing_more w c.put_decimal-word_at.ensures) c.put_bytes-line_at.ensures)

pub put_byte-requires : goal.put_byte-requires
put_byte-requires c =
    let w = writing_more (begun (goal.at.put_byte-requires c).After-fill) c.put_bytes-number_at.ensures in
    let v = writing_more w c.put_decimal-word_at.ensures in
    omega (arith, writing-room (writing_more (writing_more v c.put_bytes-line_at.ensures) c.put_decimal-end.ensures))

pub returns : goal.returns
returns c =
    let p = (goal.at.returns c).After-fill in
    let w = writing_more (writing_more (begun p) c.put_bytes-number_at.ensures) c.put_decimal-word_at.ensures in
    let v = writing_more (writing_more w c.put_bytes-line_at.ensures) c.put_decimal-end.ensures in
    let r = refusal-end c.args.n c.args.line (zeros p) (writing-end (writing_more v c.put_byte.ensures)) in
    record { value = r.0; out_after = r.1 }
