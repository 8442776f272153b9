-- Laws of the number that digits stand for.
use mathlib.Core.Path.{◌≡◌, refl}
use mathlib.Core.List.{List, [], ◌∷◌, ◌++◌}
use Prim.Native.Nat.{ℕ, ◌+◌, ◌*◌, ◌≤◌}
use native.Mathlib.Omega.{arith}
use native.Mathlib.Nat.{le-mul_of_pos_right}
use Rattle.read_numbers.specs.Value.{value_from, value_of}

-- More digits do not make it less.
pub value_grows : (base v : ℕ) (ds : List ℕ) → 1 ≤ base → v ≤ value_from base v ds
unfolding value_from
value_grows base v [] h = omega arith
value_grows base v (d ∷ ds) h = omega (arith, le-mul_of_pos_right {m = base} v (omega arith), value_grows base (v * base + d) ds h)

-- Digits one part after another.
pub value-append : (base v : ℕ) (ds es : List ℕ) → value_from base v (ds ++ es) ≡ value_from base (value_from base v ds) es
unfolding value_from
value-append base v [] es = refl
value-append base v (d ∷ ds) es = value-append base (v * base + d) ds es

-- The last digit.
pub value-last : (base : ℕ) (ds : List ℕ) (d : ℕ) → value_of base (ds ++ (d ∷ [])) ≡ value_of base ds * base + d
unfolding value_from value_of
value-last base ds d = value-append base 0 ds (d ∷ [])
