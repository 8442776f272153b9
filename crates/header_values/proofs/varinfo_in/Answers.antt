-- `varinfo_in` meets its contract: the value is told by its one digit.
use native.Mathlib.Omega.{arith}
use Rattle.header_values.specs.Values.{varinfo_in}
use Rattle.header_values.proofs.Single.{digit-said, other-said, empty-said, longer-said}
use Rattle.header_values.proofs.varinfo_in.Goals as goal

pub returns-in-48 : goal.returns-in-48
unfolding varinfo_in
returns-in-48 c =
    rw (← c.value_in.ensures.value) (digit-said 0 _ (omega arith) c.in-48.len_at_least c.in-48.len_below (omega arith))

pub returns-in-49 : goal.returns-in-49
unfolding varinfo_in
returns-in-49 c =
    rw (← c.value_in.ensures.value) (digit-said 1 _ (omega arith) c.in-49.len_at_least c.in-49.len_below (omega arith))

pub returns-in-50 : goal.returns-in-50
unfolding varinfo_in
returns-in-50 c =
    rw (← c.value_in.ensures.value) (digit-said 2 _ (omega arith) c.in-50.len_at_least c.in-50.len_below (omega arith))

pub returns-in-51 : goal.returns-in-51
unfolding varinfo_in
returns-in-51 c =
    rw (← c.value_in.ensures.value) (digit-said 3 _ (omega arith) c.in-51.len_at_least c.in-51.len_below (omega arith))

pub returns-in_default : goal.returns-in_default
unfolding varinfo_in
returns-in_default c =
    rw (← c.value_in.ensures.value) (empty-said _ c.in_default.len_below)

pub returns-in_default-2 : goal.returns-in_default-2
unfolding varinfo_in
returns-in_default-2 c =
    rw (← c.value_in.ensures.value)
    (other-said _ c.in_default.len_at_least c.in_default.len_below (λ e. omega arith) (λ e. omega arith) (λ e. omega arith) (λ e. omega arith))

pub returns-in_default-3 : goal.returns-in_default-3
unfolding varinfo_in
returns-in_default-3 c =
    rw (← c.value_in.ensures.value) (longer-said _ c.in_default.len_at_least)
