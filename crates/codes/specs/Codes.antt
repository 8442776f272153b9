-- The codes of a binary node line. Document 01, 'Node lines': 'Codes: 0 terminal (node 1), 1 absolute, 2 relative (that many before),
-- 3 one before.' A code is two bits.
use Rattle.std.specs.Prelude.{ℕ, ◌%◌, eqb, cond}
use Rattle.codes.specs.declared.Code.{Code}
use Rattle.codes.specs.declared.Code.TheVariants.{Terminal, AbsoluteID, RelativeID, Relative1}

-- the code in the lowest two bits of a number
unfoldable pub code_of : ℕ → Code
code_of n = cond (eqb (n % 4) 0) Terminal (cond (eqb (n % 4) 1) AbsoluteID (cond (eqb (n % 4) 2) RelativeID Relative1))
