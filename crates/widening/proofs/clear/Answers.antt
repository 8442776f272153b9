-- `clear` meets its contract: each list is filled with zeros.
use Rattle.widened.specs.Widen.{zeroed}
use Rattle.widening.proofs.clear.Goals as goal

pub returns-clause-zeros : goal.returns-clause-zeros
unfolding zeroed
returns-clause-zeros c =
    rw (
      c.fill.ensures.after (λ y h. h),
      c.fill-2.ensures.after (λ y h. h),
      c.fill-3.ensures.after (λ y h. h),
      c.fill-4.ensures.after (λ y h. h),
      c.fill-5.ensures.after (λ y h. h),
    )
