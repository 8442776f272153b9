-- The definition takes the first of all settings in their order; these laws say which that is.
use Prim.Native.Nat.{ℕ, zero, suc, ◌≤◌}
use mathlib.Core.Path.{◌≡◌, refl, ap, ◌∙◌}
use mathlib.Core.Bool.{Bool, true, false, cond}
use mathlib.Core.List.{List, [], ◌∷◌, ◌++◌, map}
use native.Mathlib.Omega.{arith}
use lib.ListN.{length}
use Rattle.codes.specs.Answer.{Read, value, refused}
use Rattle.example_walk.specs.Example.{settings, first_of}
use Rattle.example_walk.specs.First.{Before, here, later, IsFirst, NoneIs}

-- a setting that was found, with a level in front
abbrev led : Bool → Read (List Bool) → Read (List Bool)
led b (value s) = value (b ∷ s)
led b (refused n) = refused n

-- what was found, or else this
abbrev or_else : Read (List Bool) → Read (List Bool) → Read (List Bool)
or_else (value s) r = value s
or_else (refused n) r = r

module _ (p : List Bool → Bool) where
  first-append : (a b : List (List Bool)) → first_of p (a ++ b) ≡ or_else (first_of p a) (first_of p b)
  unfolding first_of
  first-append [] b = refl
  first-append (s ∷ a) b = of (p s) (first-append a b)
    where
      of : (c : Bool) → first_of p (a ++ b) ≡ or_else (first_of p a) (first_of p b)
          → cond c (value s) (first_of p (a ++ b)) ≡ or_else (cond c (value s) (first_of p a)) (first_of p b)
      of true h = refl
      of false h = h

  first-map : (c : Bool) (a : List (List Bool)) → first_of p (map (λ s. c ∷ s) a) ≡ led c (first_of (λ s. p (c ∷ s)) a)
  unfolding first_of
  first-map c [] = refl
  first-map c (s ∷ a) = of (p (c ∷ s)) (first-map c a)
    where
      of : (d : Bool) → first_of p (map (λ s. c ∷ s) a) ≡ led c (first_of (λ s. p (c ∷ s)) a)
          → cond d (value (c ∷ s)) (first_of p (map (λ s. c ∷ s) a)) ≡ led c (cond d (value s) (first_of (λ s. p (c ∷ s)) a))
      of true h = refl
      of false h = h

  -- one level more: no, and then yes
  first_more : (n : ℕ) → first_of p (settings (suc n))
      ≡ or_else (led false (first_of (λ s. p (false ∷ s)) (settings n))) (led true (first_of (λ s. p (true ∷ s)) (settings n)))
  unfolding settings
  first_more n = first-append (map (λ s. false ∷ s) (settings n)) (map (λ s. true ∷ s) (settings n))
      ∙ rw (first-map false (settings n), first-map true (settings n))

-- Where none has the property, none is found;
pub none_first : (p : List Bool → Bool) (n : ℕ) → NoneIs p n → first_of p (settings n) ≡ refused 41
unfolding settings first_of
none_first p zero h = rw (h [] refl)
none_first p (suc n) h =
    first_more p n
    ∙ rw (none_first (λ s. p (false ∷ s)) n (λ s l. h (false ∷ s) (ap suc l)), none_first (λ s. p (true ∷ s)) n (λ s l. h (true ∷ s) (ap suc l)))

-- and the first that has it is found.
pub is-first : (p : List Bool → Bool) (n : ℕ) (s : List Bool) → IsFirst p n s → first_of p (settings n) ≡ value s
unfolding settings first_of
is-first p zero [] f = rw f.holds
is-first p zero (b ∷ s) f = absurd (omega (arith, f.long))
is-first p (suc n) [] f = absurd (omega (arith, f.long))
is-first p (suc n) (false ∷ s) f =
    let g : IsFirst (λ t. p (false ∷ t)) n s =
    record { long = omega (arith, f.long); holds = f.holds; least = λ t l b. f.least (false ∷ t) (ap suc l) (later b) } in
    first_more p n ∙ rw (is-first (λ t. p (false ∷ t)) n s g)
is-first p (suc n) (true ∷ s) f =
    let g : IsFirst (λ t. p (true ∷ t)) n s =
    record { long = omega (arith, f.long); holds = f.holds; least = λ t l b. f.least (true ∷ t) (ap suc l) (later b) } in
    first_more p n
    ∙ rw (none_first (λ t. p (false ∷ t)) n (λ t l. f.least (false ∷ t) (ap suc l) here), is-first (λ t. p (true ∷ t)) n s g)

-- The other way: what is found is the first, and nothing is found only where none has the property.
pub data Finds (p : List Bool → Bool) (n : ℕ) : Read (List Bool) → Type 0 where
  found : {s : List Bool} → IsFirst p n s → Finds p n (value s)
  lacks : NoneIs p n → Finds p n (refused 41)

found-more : {p : List Bool → Bool} {n : ℕ} {a b : Read (List Bool)} → Finds (λ s. p (false ∷ s)) n a → Finds (λ s. p (true ∷ s)) n b
    → Finds p (suc n) (or_else (led false a) (led true b))
found-more {p} {n} (found {s = s} f) g = found (record { long = ap suc f.long; holds = f.holds; least = least })
  where
    least : (t : List Bool) → length t ≡ suc n → Before t (false ∷ s) → p t ≡ false
    least [] l b = elim b [ ]
    least (c ∷ t) l (later b) = f.least t (omega arith) b
found-more {p} {n} (lacks h) (found {s = s} f) = found (record { long = ap suc f.long; holds = f.holds; least = least })
  where
    least : (t : List Bool) → length t ≡ suc n → Before t (true ∷ s) → p t ≡ false
    least [] l b = elim b [ ]
    least (c ∷ t) l here = h t (omega arith)
    least (c ∷ t) l (later b) = f.least t (omega arith) b
found-more {p} {n} (lacks h) (lacks g) = lacks none
  where
    none : (s : List Bool) → length s ≡ suc n → p s ≡ false
    none [] l = absurd (omega arith)
    none (false ∷ s) l = h s (omega arith)
    none (true ∷ s) l = g s (omega arith)

before-some : {t s : List Bool} → Before t s → 1 ≤ length s
before-some here = omega arith
before-some (later b) = omega arith

found_none : (p : List Bool → Bool) (b : Bool) → p [] ≡ b → Finds p 0 (cond b (value []) (refused 41))
found_none p true e = found (record { long = refl; holds = e; least = λ t l b. absurd (omega (arith, before-some b)) })
found_none p false e = lacks none
  where
    none : (s : List Bool) → length s ≡ 0 → p s ≡ false
    none [] l = e
    none (b ∷ s) l = absurd (omega arith)

pub first_finds : (p : List Bool → Bool) (n : ℕ) → Finds p n (first_of p (settings n))
unfolding settings first_of
first_finds p zero = found_none p (p []) refl
first_finds p (suc n) = rw (first_more p n) (found-more (first_finds (λ s. p (false ∷ s)) n) (first_finds (λ s. p (true ∷ s)) n))

pub first-exact : (p : List Bool → Bool) (n : ℕ) {s : List Bool} → first_of p (settings n) ≡ value s → IsFirst p n s
first-exact p n e = of (rw e at (first_finds p n))
  where
    of : {s : List Bool} → Finds p n (value s) → IsFirst p n s
    of (found f) = f

pub none-exact : (p : List Bool → Bool) (n : ℕ) {k : ℕ} → first_of p (settings n) ≡ refused k → (k ≡ 41) × NoneIs p n
none-exact p n e = of (rw e at (first_finds p n))
  where
    of : {k : ℕ} → Finds p n (refused k) → (k ≡ 41) × NoneIs p n
    of (lacks h) = (refl, h)
