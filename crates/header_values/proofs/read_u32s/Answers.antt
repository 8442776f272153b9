-- `read_u32s` meets its contract: the list is zeros, and cleared where the numbers are refused.
use mathlib.Core.Path.{refl, sym, ap, ◌∙◌}
use Rattle.header_values.specs.Values.{value_or, u32s_in}
use Rattle.header_values.proofs.Counted.{u32s-count}
use Rattle.header_values.proofs.Filled.{given-pad, emptied-pad}
use Rattle.header_values.proofs.read_u32s.Goals as goal

pub returns-in_default : goal.returns-in_default
unfolding u32s_in
returns-in_default c =
    let v = c.value_in.ensures.value in
    let e = rw v at c.in_default.ensures.result_value in
    record {
      answer = ap (value_or 0) e ∙ sym (u32s-count _ _ c.args.key);
      list = emptied-pad _ (λ es. es) _ c.requires.dst_value (rw v at c.parse_u32_list.ensures.dst_after) refl e (c.fill.ensures.after (λ y h. h));
    }

pub returns : goal.returns
unfolding u32s_in
returns c =
    let v = c.value_in.ensures.value in
    let e = rw v at c.in-Ok.ensures.result_value in
    record {
      answer = ap (value_or 0) e ∙ sym (u32s-count _ _ c.args.key);
      list = given-pad _ (λ es. es) _ c.requires.dst_value (rw v at c.parse_u32_list.ensures.dst_after) e;
    }
