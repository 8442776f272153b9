-- What today's limits hold to.
use native.Mathlib.Omega.{arith}
use Rattle.codes.specs.Limits.{limits, RoomForExports}

pub limits-exports : RoomForExports limits
limits-exports = record { few_levels = omega arith; few_digits = omega arith; input_long = omega arith }
