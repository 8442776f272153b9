-- A list that is copied over the front of a lent one.
use mathlib.Core.Path.{◌≡◌, refl, sym, ap, ap₂, ◌∙◌}
use mathlib.Core.List.{List, [], ◌∷◌}
use Prim.Native.Nat.{ℕ, suc, ◌+◌, ◌≤◌, ◌<◌}
use native.Mathlib.Omega.{arith}
use native.Mathlib.Decide.{ℕ_discrete}
use Rattle.std.specs.Prelude.{Some, slice_get}
use lib.ListN.{length, get_or, set, drop}
use Rattle.std.proofs.lemmas.List.{get_or-set_same, get_or-set_other}
use Rattle.std.proofs.lemmas.Option.{get_or_from_slice_get, slice_get-get_or, slice_get_within}
use Rattle.codes.specs.Lent.{laid}

-- each of the first n entries is in a relation to its copy
abbrev pub Front : {A B : Type 0} → (A → B → Type 0) → List A → List B → ℕ → Type 0
Front R from to n = (k : ℕ) (a : _) (b : _) → k < n → slice_get from k ≡ Some a → slice_get to k ≡ Some b → R a b

-- one copy more
module _ {A B : Type 0} (R : A → B → Type 0) (from : List A) (to : List B) (i : ℕ) (x : A) (y : B) where
  pub front_more : x ≡ get_or from i x → i < length to → R x y → Front R from to i → Front R from (set to i y) (i + 1)
  front_more q l r f k a b h p s = go (ℕ_discrete k i)
    where
      go : Dec (k ≡ i) → R a b
      go (yes e) =
          let A : x ≡ a = q ∙ ap (λ (j : ℕ). get_or from j x) (sym e) ∙ get_or_from_slice_get from k a x p in
          let B : y ≡ b = sym (get_or-set_same to i y y l) ∙ ap (λ (j : ℕ). get_or (set to i y) j y) (sym e) ∙ get_or_from_slice_get (set to i y) k b y s in
          rw (A, B) at r
      go (no g) =
          let B : get_or to k b ≡ b = sym (get_or-set_other to i k y b g) ∙ get_or_from_slice_get (set to i y) k b b s in
          f k a b (omega arith) p (slice_get-get_or to k b (omega (arith, slice_get_within (set to i y) k b s)) ∙ ap Some B)

-- where the copies are the entries, they are laid over the front
pub front-laid : {A : Type 0} (from old to : List A) → length from ≤ length old → length to ≡ length old
    → ((k : ℕ) (a b : A) → slice_get from k ≡ Some a → slice_get to k ≡ Some b → b ≡ a) → drop (length from) to ≡ drop (length from) old → to ≡ laid from old
unfolding laid
front-laid [] old to h l f r = r
front-laid (a ∷ from) [] to h l f r = absurd (omega arith)
front-laid (a ∷ from) (o ∷ old) [] h l f r = absurd (omega arith)
front-laid (a ∷ from) (o ∷ old) (b ∷ to) h l f r =
    ap₂ ◌∷◌ (f 0 a b refl refl) (front-laid from old to (omega arith) (omega arith) (λ k. f (suc k)) r)

-- and where the list was filled with zeros, zeros follow
pub laid-filled : {A : Type 0} (from filled to : List A) {zeros : List A} → length from ≤ length filled → filled ≡ zeros → length to ≡ length filled
    → ((k : ℕ) (a b : A) → slice_get from k ≡ Some a → slice_get to k ≡ Some b → b ≡ a) → drop (length from) to ≡ drop (length from) filled
    → to ≡ laid from zeros
laid-filled from filled to h z l f r = front-laid from filled to h l f r ∙ ap (laid from) z
