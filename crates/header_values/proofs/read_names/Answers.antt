-- `read_names` meets its contract: both lists are zeros, and cleared where the names are refused.
use mathlib.Core.Path.{refl, sym, ap, ◌∙◌}
use mathlib.Core.List.{map}
use Rattle.read_text.specs.Text.{start_of, len_of}
use Rattle.header_values.specs.Values.{value_or, names_in}
use Rattle.header_values.proofs.Counted.{names-count}
use Rattle.header_values.proofs.Filled.{given-pad, emptied-pad}
use Rattle.header_values.proofs.read_names.Goals as goal

pub returns-in_default : goal.returns-in_default
unfolding names_in
returns-in_default c =
    let v = c.value_in-at.ensures in
    let p = c.parse_str_list.ensures in
    let e = rw (v.start, v.value) at c.in_default.ensures.result_value in
    record {
      answer = ap (value_or 0) e ∙ sym (names-count _ _ c.args.max c.args.key);
      names_left = emptied-pad _ (map start_of) _ c.requires.names_value (rw (v.start, v.value) at p.starts_after) refl e (c.fill.ensures.after (λ y h. h));
      lens_left = emptied-pad _ (map len_of) _ c.requires.lens_value (rw (v.start, v.value) at p.lens_after) refl e
          (c.fill-in_default.ensures.after (λ y h. h));
    }

pub returns : goal.returns
unfolding names_in
returns c =
    let v = c.value_in-at.ensures in
    let p = c.parse_str_list.ensures in
    let e = rw (v.start, v.value) at c.in-Ok.ensures.result_value in
    record {
      answer = ap (value_or 0) e ∙ sym (names-count _ _ c.args.max c.args.key);
      names_left = given-pad _ (map start_of) _ c.requires.names_value (rw (v.start, v.value) at p.starts_after) e;
      lens_left = given-pad _ (map len_of) _ c.requires.lens_value (rw (v.start, v.value) at p.lens_after) e;
    }
