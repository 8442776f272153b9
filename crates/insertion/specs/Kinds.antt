-- What the answers stand for: for each case its value, or the number of document 01.
use Rattle.std.specs.Prelude.{ℤ, Option, Some, None}
use Rattle.codes.specs.Answer.{Read, value, refused}

-- 'a line needs a new node and every slot lent, or [the limit], is used'
abbrev pub of_making : Option ℤ → Read ℤ
of_making (Some a) = value a
of_making None = refused 40
