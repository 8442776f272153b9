-- When two texts are the same, byte by byte.
use mathlib.Core.Path.{◌≡◌, refl, ap}
use mathlib.Core.List.{List, [], ◌∷◌}
use mathlib.Core.Bool.{Bool, true, false, ◌&&◌}
use Prim.Native.Nat.{ℕ, suc, ◌+◌, ◌≤◌, ◌<◌}
use native.Mathlib.Numerals.{add-one}
use native.Mathlib.Omega.{arith}
use lib.ListN.{length, get_or, drop, drop_of_length-le}
use lib.Seq.{drop-cons}
use lib.Dec.{eqb}
use lib.Pointwise.{pointwise}
use borrow.Author.Tests.{eqb-true, eq-eqb, ne_eqb}
use Rattle.read_text.specs.Alike.{alike}

-- the library's comparison of two lists of bytes
pub pointwise_alike : (a b : List ℕ) → pointwise eqb a b ≡ alike a b
unfolding alike
pointwise_alike [] [] = refl
pointwise_alike [] (y ∷ ys) = refl
pointwise_alike (x ∷ xs) [] = refl
pointwise_alike (x ∷ xs) (y ∷ ys) = rw (pointwise_alike xs ys)

-- a test and one that fails, together, fail
and-false : (t : Bool) → t && false ≡ false
and-false true = refl
and-false false = refl

-- texts of unlike lengths are unlike
pub alike-lengths : (a b : List ℕ) → (length a ≡ length b → ⊥) → alike a b ≡ false
unfolding alike
alike-lengths [] [] h = absurd (h refl)
alike-lengths [] (y ∷ ys) h = refl
alike-lengths (x ∷ xs) [] h = refl
alike-lengths (x ∷ xs) (y ∷ ys) h = rw (alike-lengths xs ys (λ e. h (ap suc e))) (and-false (eqb x y))

module _ (a b : List ℕ) (i : ℕ) where
  -- where the bytes at i are one, the rest decides
  pub alike-more : i < length a → i < length b → get_or a i 0 ≡ get_or b i 0 → alike (drop i a) (drop i b) ≡ alike (drop (i + 1) a) (drop (i + 1) b)
  unfolding alike
  alike-more h k e = rw (add-one, drop-cons a i 0, drop-cons b i 0, eq-eqb _ _ e)

  -- where they are two, the texts are unlike
  pub alike-not : i < length a → i < length b → (get_or a i 0 ≡ get_or b i 0 → ⊥) → alike (drop i a) (drop i b) ≡ false
  unfolding alike
  alike-not h k e = rw (drop-cons a i 0, drop-cons b i 0, ne_eqb _ _ e)

  -- where both end, they are the same
  pub alike_end : length a ≤ i → length b ≤ i → alike (drop i a) (drop i b) ≡ true
  unfolding alike
  alike_end h k = rw (drop_of_length-le a h, drop_of_length-le b k)

-- texts that are the same are one,
pub alike_is : (a b : List ℕ) → alike a b ≡ true → a ≡ b
unfolding alike
alike_is [] [] e = refl
alike_is [] (y ∷ ys) e = absurd (let z : ◌≡◌ {A = ℕ} 0 1 = cc in omega arith)
alike_is (x ∷ xs) [] e = absurd (let z : ◌≡◌ {A = ℕ} 0 1 = cc in omega arith)
alike_is (x ∷ xs) (y ∷ ys) e = of (eqb x y) refl (alike_is xs ys) e
  where
    of : (b : Bool) → eqb x y ≡ b → (alike xs ys ≡ true → xs ≡ ys) → b && alike xs ys ≡ true → x ∷ xs ≡ y ∷ ys
    of true q r k = cc (eqb-true x y q, r k)
    of false q r k = absurd (let z : ◌≡◌ {A = ℕ} 0 1 = cc in omega arith)

-- and a text is the same as itself
pub alike_self : (a : List ℕ) → alike a a ≡ true
unfolding alike
alike_self [] = refl
alike_self (x ∷ xs) = rw (eq-eqb x x refl) (alike_self xs)
