-- The number that digits stand for, highest first, in any base.
use Rattle.std.specs.Prelude.{ℕ, ◌+◌, ◌*◌, List, [], ◌∷◌}

-- above v, the number of the digits before these
unfoldable pub value_from : ℕ → ℕ → List ℕ → ℕ
value_from base v [] = v
value_from base v (d ∷ ds) = value_from base (v * base + d) ds

unfoldable pub value_of : ℕ → List ℕ → ℕ
value_of base ds = value_from base 0 ds
