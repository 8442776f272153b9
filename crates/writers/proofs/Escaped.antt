-- Escaped bytes: what is written for each, and that it is read back.
use mathlib.Core.Path.{◌≡◌, refl, sym, ap, ◌∙◌}
use mathlib.Core.Bool.{Bool, true, false, cond}
use mathlib.Core.List.{List, [], ◌∷◌, ◌++◌}
use Prim.Native.Nat.{ℕ, ◌+◌, ◌≤◌}
use native.Mathlib.Omega.{arith}
use lib.ListN.{length, get_or, drop, length-append, length-drop}
use lib.Seq.{get_or-drop}
use lib.Dec.{eqb}
use borrow.Author.Tests.{eqb-true, eqb-false, ne_eqb}
use Rattle.codes.specs.Answer.{got}
use Rattle.read_binary.specs.Binary.{meant, byte_at}
use Rattle.read_binary.proofs.Decoded.{byte-plain, byte-escaped, meant-00, meant-0a, meant-0d, meant-1a}
use Rattle.writers.specs.Binary.{escaped}

-- What a byte is written as: a 00 and a code that stands for it, or the byte itself.
data Written (b : ℕ) : List ℕ → Type 0 where
  code : (x : ℕ) → ((next : ℕ) → meant x next ≡ got b next) → Written b (0x00 ∷ x ∷ [])
  plain : (b ≡ 0x00 → ⊥) → Written b (b ∷ [])

written : (b : ℕ) → Written b (escaped b)
unfolding escaped
written b = go (eqb b 0x00) refl (eqb b 0x0a) refl (eqb b 0x0d) refl (eqb b 0x1a) refl
  where
    go : (p : Bool) → eqb b 0x00 ≡ p → (q : Bool) → eqb b 0x0a ≡ q → (r : Bool) → eqb b 0x0d ≡ r → (s : Bool) → eqb b 0x1a ≡ s
        → Written b (cond p (0x00 ∷ 0x00 ∷ []) (cond q (0x00 ∷ 0x01 ∷ []) (cond r (0x00 ∷ 0x02 ∷ []) (cond s (0x00 ∷ 0x03 ∷ []) (b ∷ [])))))
    go true e q f r g s h = code 0x00 (λ next. meant-00 next refl ∙ rw (eqb-true b 0x00 e))
    go false e true f r g s h = code 0x01 (λ next. meant-0a next refl ∙ rw (eqb-true b 0x0a f))
    go false e false f true g s h = code 0x02 (λ next. meant-0d next refl ∙ rw (eqb-true b 0x0d g))
    go false e false f false g true h = code 0x03 (λ next. meant-1a next refl ∙ rw (eqb-true b 0x1a h))
    go false e false f false g false h = plain (eqb-false _ _ e)

-- Any byte but those four is written as it is.
pub escaped-plain : (b : ℕ) → (b ≡ 0x00 → ⊥) → (b ≡ 0x0a → ⊥) → (b ≡ 0x0d → ⊥) → (b ≡ 0x1a → ⊥) → escaped b ≡ b ∷ []
unfolding escaped
escaped-plain b p q r s = rw (ne_eqb b 0x00, ne_eqb b 0x0a, ne_eqb b 0x0d, ne_eqb b 0x1a)

-- It is one byte or two.
pub escaped-length : (b : ℕ) → (1 ≤ length (escaped b)) × (length (escaped b) ≤ 2)
escaped-length b = of (written b)
  where
    of : {w : List ℕ} → Written b w → (1 ≤ length w) × (length w ≤ 2)
    of (code x m) = omega arith
    of (plain n) = omega arith

pub escaped-short : (b : ℕ) → length (escaped b) ≤ 2
escaped-short b = (escaped-length b).1

-- Wherever it stands, it is read back.
module _ (f : List ℕ) (at : ℕ) where
  within : (w r : List ℕ) → drop at f ≡ w ++ r → 1 ≤ length w → at + length w ≤ length f
  within w r e h = omega (arith, sym (length-drop at f) ∙ ap length e ∙ length-append w r)

  stands : (i : ℕ) {w : List ℕ} → drop at f ≡ w → get_or f (at + i) 0 ≡ get_or w i 0
  stands i e = sym (get_or-drop at f i 0) ∙ rw e

  pub escaped-reads : (b : ℕ) (r : List ℕ) → drop at f ≡ escaped b ++ r → byte_at f at ≡ got b (at + length (escaped b))
  escaped-reads b r = of (written b)
    where
      here : {x : ℕ} {m : List ℕ} → drop at f ≡ x ∷ m → get_or f at 0 ≡ x
      here e = ap (λ (n : ℕ). get_or f n 0) (omega arith) ∙ stands 0 e

      of : {w : List ℕ} → Written b w → drop at f ≡ w ++ r → byte_at f at ≡ got b (at + length w)
      of (code x m) e =
          let l = within (0x00 ∷ x ∷ []) r e (omega arith) in
          byte-escaped f at (omega arith) (here e) (omega arith) (rw (stands 1 e) (m (at + 2)))
      of (plain n) e =
          let l = within (b ∷ []) r e (omega arith) in
          byte-plain f at (omega arith) (λ z. n (sym (here e) ∙ z)) ∙ rw (here e)
