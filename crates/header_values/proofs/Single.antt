-- What the value of `.varinfo` says.
use mathlib.Core.Path.{◌≡◌, refl, sym, ap, ◌∙◌}
use mathlib.Core.Bool.{and-false}
use mathlib.Core.List.{List, [], ◌∷◌}
use Prim.Native.Nat.{ℕ, zero, suc, ◌+◌, ◌≤◌, ◌<◌}
use native.Mathlib.Omega.{arith}
use lib.ListN.{length, get_or}
use lib.Dec.{eqb}
use borrow.Author.Tests.{ne_eqb}
use Rattle.read_text.specs.Alike.{alike}
use Rattle.header_values.specs.Values.{varinfo_of}

-- `.varinfo` is told by its value's one digit,
pub digit-is : (d : ℕ) → d ≤ 4 → varinfo_of ((0x30 + d) ∷ []) ≡ d
unfolding alike
digit-is zero h = refl
digit-is (suc zero) h = refl
digit-is (suc (suc zero)) h = refl
digit-is (suc (suc (suc zero))) h = refl
digit-is (suc (suc (suc (suc zero)))) h = refl
digit-is (suc (suc (suc (suc (suc n))))) h = absurd (omega arith)

pub digit-said : (d : ℕ) (s : List ℕ) → d ≤ 4 → 1 ≤ length s → length s < 2 → get_or s 0 0 ≡ 0x30 + d → d ≡ varinfo_of s
digit-said d [] h a b e = absurd (omega arith)
digit-said d (x ∷ []) h a b e = sym (ap (λ y. varinfo_of (y ∷ [])) e ∙ digit-is d h)
digit-said d (x ∷ y ∷ s) h a b e = absurd (omega arith)

-- and is 4 where that is no digit up to 3,
pub other-said : (s : List ℕ) → 1 ≤ length s → length s < 2 → (get_or s 0 0 ≡ 0x30 → ⊥) → (get_or s 0 0 ≡ 0x31 → ⊥) → (get_or s 0 0 ≡ 0x32 → ⊥)
    → (get_or s 0 0 ≡ 0x33 → ⊥) → 4 ≡ varinfo_of s
unfolding alike
other-said [] a b h0 h1 h2 h3 = absurd (omega arith)
other-said (x ∷ []) a b h0 h1 h2 h3 = rw (ne_eqb x 0x30 h0, ne_eqb x 0x31 h1, ne_eqb x 0x32 h2, ne_eqb x 0x33 h3)
other-said (x ∷ y ∷ s) a b h0 h1 h2 h3 = absurd (omega arith)

-- or where there is no byte, or more than one
pub empty-said : (s : List ℕ) → length s < 1 → 4 ≡ varinfo_of s
unfolding alike
empty-said [] h = refl
empty-said (x ∷ s) h = absurd (omega arith)

pub longer-said : (s : List ℕ) → 2 ≤ length s → 4 ≡ varinfo_of s
unfolding alike
longer-said [] h = absurd (omega arith)
longer-said (x ∷ []) h = absurd (omega arith)
longer-said (x ∷ y ∷ s) h = rw (and-false (eqb x 0x30), and-false (eqb x 0x31), and-false (eqb x 0x32), and-false (eqb x 0x33))
