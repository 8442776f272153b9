-- How many bytes an export must be lent. Document 01, 'Limits'.
use Rattle.std.specs.Prelude.{ℕ, ◌+◌, ◌*◌, List, [], ◌∷◌, cond, leb, Option, Some, None}

unfoldable pub sum : List ℕ → ℕ
sum [] = 0
sum (n ∷ ns) = n + sum ns

-- 'Export size: 256 + 32 × store count + 24 × levels + 16 × roots + 3 × variable name bytes + root name bytes + diagram name bytes, each name
-- counted by its own length even where lent places overlap.'
unfoldable pub export_size : ℕ → ℕ → ℕ → List ℕ → List ℕ → ℕ → ℕ
export_size count levels roots lens rootlens dd = 256 + 32 * count + 24 * levels + 16 * roots + 3 * sum lens + sum rootlens + dd

-- a number held to a limit: itself within it, and nothing where it is over
unfoldable pub limited : ℕ → ℕ → Option ℕ
limited max n = cond (leb n max) (Some n) None
