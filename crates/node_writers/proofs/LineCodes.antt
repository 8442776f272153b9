-- The codes of a binary line: each test of the code gives a case of its definition.
use mathlib.Core.Path.{◌≡◌, refl}
use Prim.Native.Nat.{ℕ, zero, suc, ◌+◌, ◌-◌, ◌≤◌, ◌<◌}
use native.Mathlib.Omega.{arith}
use borrow.Author.Tests.{eq-eqb, ne_eqb, lt-ltb, le-ltb}
use Rattle.codes.specs.declared.Code.TheVariants.{Terminal, AbsoluteID, RelativeID, Relative1}
use Rattle.node_writers.specs.Encoded.{child_code, smaller, variable_code}

-- The code of a child: line 1, one before, or the smaller of its number and its distance.
module _ (n c : ℕ) where
  pub child-terminal : c ≡ 1 → child_code n c ≡ Terminal
  unfolding child_code
  child-terminal h = rw (eq-eqb c 1 h)

  module _ (some : c ≡ 1 → ⊥) (low : c < n) where
    pub child-before : n - c ≡ 1 → child_code n c ≡ Relative1
    unfolding child_code
    child-before h = rw (ne_eqb c 1 some, eq-eqb (c + 1) n (omega arith))

    module _ (far : n - c ≡ 1 → ⊥) where
      pub child-relative : n - c < c → child_code n c ≡ RelativeID
      unfolding child_code
      child-relative h = rw (ne_eqb c 1 some, ne_eqb (c + 1) n (λ e. far (omega arith)), lt-ltb (n - c) c h)

      pub child-absolute : c ≤ n - c → child_code n c ≡ AbsoluteID
      unfolding child_code
      child-absolute h = rw (ne_eqb c 1 some, ne_eqb (c + 1) n (λ e. far (omega arith)), le-ltb (n - c) c h)

-- The smaller of two seats: the other's, where one is a terminal's.
pub smaller-then : (t e : ℕ) → (t ≡ 0 → ⊥) → e ≡ 0 → smaller t e ≡ t
smaller-then zero e h z = absurd (h refl)
smaller-then (suc t) e h z = rw z

pub smaller-less : (t e : ℕ) → (t ≡ 0 → ⊥) → t < e → smaller t e ≡ t
smaller-less zero e h k = absurd (h refl)
smaller-less (suc t) zero h k = absurd (omega arith)
smaller-less (suc t) (suc e) h k = rw (lt-ltb t e (omega arith))

pub smaller-other : (t e : ℕ) → (e ≡ 0 → ⊥) → e ≤ t → smaller t e ≡ e
smaller-other t zero h k = absurd (h refl)
smaller-other zero (suc e) h k = refl
smaller-other (suc t) (suc e) h k = rw (le-ltb t e (omega arith))

-- The code of a variable at position p, by the distance d to the position that it may count down from.
pub variable-alone : (p seat : ℕ) → seat ≡ 0 → variable_code p seat ≡ AbsoluteID
unfolding variable_code
variable-alone p seat h = rw (h, variable_code)

module _ (p : ℕ) {d : ℕ} where
  pub variable-before : (seat : ℕ) → (seat ≡ 0 → ⊥) → d ≡ seat - 1 - p → d ≡ 1 → variable_code p seat ≡ Relative1
  unfolding variable_code
  variable-before zero some is h = absurd (some refl)
  variable-before (suc q) some is h = rw (eq-eqb (p + 1) q (omega arith))

  module _ (far : d ≡ 1 → ⊥) where
    other : (q : ℕ) → d ≡ suc q - 1 - p → p + 1 ≡ q → ⊥
    other q is e = far (omega arith)

    pub variable-relative : (seat : ℕ) → (seat ≡ 0 → ⊥) → d ≡ seat - 1 - p → d < p → variable_code p seat ≡ RelativeID
    unfolding variable_code
    variable-relative zero some is h = absurd (some refl)
    variable-relative (suc q) some is h = rw (ne_eqb (p + 1) q (other q is), lt-ltb (q - p) p (omega arith))

    pub variable-absolute : (seat : ℕ) → (seat ≡ 0 → ⊥) → d ≡ seat - 1 - p → p ≤ d → variable_code p seat ≡ AbsoluteID
    unfolding variable_code
    variable-absolute zero some is h = absurd (some refl)
    variable-absolute (suc q) some is h = rw (ne_eqb (p + 1) q (other q is), le-ltb (q - p) p (omega arith))
