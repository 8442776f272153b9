-- `names_over` meets its contract: the names that were read are the fronts of the lists.
use mathlib.Core.Path.{refl, sym, ap, ◌∙◌}
use mathlib.Core.List.{map}
use lib.ListN.{length-map}
use Rattle.read_text.specs.Text.{start_of, len_of}
use Rattle.header_values.specs.Values.{value_or, names_in}
use Rattle.header_values.proofs.Counted.{names-count}
use Rattle.header_values.proofs.Filled.{unwrapped, given-front}
use Rattle.header_values.proofs.names_over.Goals as goal

pub returns : goal.returns
unfolding names_in
returns c =
    let v = c.value_in-at.ensures in
    let p = c.parse_str_list.ensures in
    let e = rw (v.start, v.value) at p.result_value in
    let n = c.unwrap_or.ensures ∙ unwrapped c.parse_str_list.result ∙ ap (value_or 0) e ∙ sym (names-count _ _ c.args.max c.args.key) in
    record {
      answer = n;
      names_front = given-front (map start_of) refl (λ es. length-map es start_of) _ _ n (rw (v.start, v.value) at p.starts_after) c.requires.key_in_bounds;
      lens_front = given-front (map len_of) refl (λ es. length-map es len_of) _ _ n (rw (v.start, v.value) at p.lens_after) c.requires.key_in_bounds_2;
    }
