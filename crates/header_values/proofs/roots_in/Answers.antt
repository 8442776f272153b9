-- `roots_in` meets its contract: the roots lie over the front of the list, and the rest of it is as it was.
use mathlib.Core.Path.{refl, sym, ap, ◌∙◌}
use native.Mathlib.Omega.{arith}
use Rattle.header_values.specs.Values.{spans, value_or, roots_in, roots_read}
use Rattle.header_values.proofs.Counted.{roots-count, roots-most}
use Rattle.header_values.proofs.Filled.{unwrapped, given-front}
use Rattle.header_values.proofs.roots_in.Goals as goal

pub returns : goal.returns
unfolding roots_in roots_read
returns c =
    let t = spans c.args.starts.now c.args.ends.now in
    let v = c.value_in.ensures.value in
    let p = c.parse_edge_list.ensures in
    let n = c.unwrap_or.ensures ∙ unwrapped c.parse_edge_list.result ∙ ap (value_or 0) (rw v at p.result_value) ∙ sym (roots-count c.args.f.now t) in
    let d = rw v at p.dst_after in
    record { answer = n; front = given-front (λ es. es) refl (λ es. refl) _ _ n d (omega (arith, roots-most c.args.f.now t)); list = d }
