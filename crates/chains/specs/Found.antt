-- What a search for a node gives.
use Rattle.std.specs.Prelude.{ℕ, zero, suc, Option, None, Some}

-- the node of that number, or none where it is 0
unfoldable pub node_found : ℕ → Option ℕ
node_found zero = None
node_found (suc n) = Some (suc n)
