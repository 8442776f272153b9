-- Laws of names that are alike, as a loop finds it out.
use mathlib.Core.Path.{◌≡◌, refl, sym, ◌∙◌}
use mathlib.Core.List.{List}
use mathlib.Core.Bool.{Bool, true, false, ◌&&◌}
use Prim.Native.Nat.{ℕ, suc, ◌+◌, ◌-◌, ◌≤◌, ◌<◌}
use native.Mathlib.Numerals.{add-one}
use native.Mathlib.Omega.{arith}
use borrow.Author.Tests.{eq-eqb, ne_eqb}
use lib.ListN.{length, get_or, drop, drop_of_length-le}
use lib.Seq.{drop-cons}
use Rattle.read_text.specs.Text.{place}
use Rattle.variable_names.specs.Names.{places, are_same_bytes, same_name, same_names, chosen_places}
use Rattle.variable_names.proofs.Placed.{get_d-places}

-- the first i bytes are the same, and the rest decides
pub record BytesLeft (f : List ℕ) (a b n i : ℕ) : Type 0 where
  pub within : i ≤ n
  pub rest : are_same_bytes f a b n ≡ are_same_bytes f (a + i) (b + i) (n - i)

-- at first all bytes decide
pub bytes-start : (f : List ℕ) (a b n : ℕ) → BytesLeft f a b n 0
bytes-start f a b n =
    let p : a + 0 ≡ a = omega arith in
    let q : b + 0 ≡ b = omega arith in
    let m : n - 0 ≡ n = omega arith in
    record { within = omega arith; rest = rw (p, q, m) }

module _ {f : List ℕ} {a b n i : ℕ} (l : BytesLeft f a b n i) where
  -- one byte more is the same
  pub bytes-more : i < n → get_or f (a + i) 0 ≡ get_or f (b + i) 0 → BytesLeft f a b n (i + 1)
  unfolding are_same_bytes
  bytes-more h e =
      let s : n - i ≡ suc (n - (i + 1)) = omega arith in
      let p : a + i + 1 ≡ a + (i + 1) = omega arith in
      let q : b + i + 1 ≡ b + (i + 1) = omega arith in
      record { within = omega arith; rest = l.rest ∙ rw (s, eq-eqb _ _ e, p, q) }

  -- a byte is another
  pub bytes-unlike : i < n → (get_or f (a + i) 0 ≡ get_or f (b + i) 0 → ⊥) → false ≡ are_same_bytes f a b n
  unfolding are_same_bytes
  bytes-unlike h e = let s : n - i ≡ suc (n - (i + 1)) = omega arith in sym (l.rest ∙ rw (s, ne_eqb _ _ e))

  -- all bytes are the same
  pub bytes-end : n ≤ i → true ≡ are_same_bytes f a b n
  unfolding are_same_bytes
  bytes-end h = let z : n - i ≡ 0 = omega arith in sym (l.rest ∙ rw z)

module _ (f : List ℕ) (a n b m : ℕ) where
  -- names of other lengths are unlike
  pub name-unlike : (n ≡ m → ⊥) → false ≡ same_name f (place a n) (place b m)
  unfolding same_name
  name-unlike e = rw (ne_eqb n m e)

  -- names of one length are alike if their bytes are the same
  pub name-alike : n ≡ m → are_same_bytes f a b n ≡ same_name f (place a n) (place b m)
  unfolding same_name
  name-alike e = rw (eq-eqb n m e)

-- the first i names are alike, and the rest decides; there is an index for each index, and a length for each start
pub record NamesLeft (f index starts lens index2 starts2 lens2 : List ℕ) (i : ℕ) : Type 0 where
  pub even : length index2 ≡ length index
  pub whole : length lens ≡ length starts
  pub whole2 : length lens2 ≡ length starts2
  pub within : i ≤ length index
  pub rest : same_names f (chosen_places index (places starts lens)) (chosen_places index2 (places starts2 lens2))
      ≡ same_names f (chosen_places (drop i index) (places starts lens)) (chosen_places (drop i index2) (places starts2 lens2))

-- at first all names decide
pub names-start : {f index starts lens index2 starts2 lens2 : List ℕ}
    → length index2 ≡ length index → length lens ≡ length starts → length lens2 ≡ length starts2
    → NamesLeft f index starts lens index2 starts2 lens2 0
names-start e w w2 = record { even = e; whole = w; whole2 = w2; within = omega arith; rest = refl }

module _ {f index starts lens index2 starts2 lens2 : List ℕ} {i : ℕ} (l : NamesLeft f index starts lens index2 starts2 lens2 i) where
  -- all names are alike
  pub names-end : length index ≤ i → true ≡ same_names f (chosen_places index (places starts lens)) (chosen_places index2 (places starts2 lens2))
  unfolding same_names chosen_places
  names-end h = sym (l.rest ∙ rw (drop_of_length-le index h))

  -- whether the names at i are alike, whose places are read one number at a time
  module _ (h : i < length index) {r : Bool} {a n b m : ℕ} (q : r ≡ same_name f (place a n) (place b m))
      (p : a ≡ get_or starts (get_or index i 0) 0) (p2 : n ≡ get_or lens (get_or index i 0) 0)
      (p3 : b ≡ get_or starts2 (get_or index2 i 0) 0) (p4 : m ≡ get_or lens2 (get_or index2 i 0) 0) where
    turned : same_names f (chosen_places (drop i index) (places starts lens)) (chosen_places (drop i index2) (places starts2 lens2))
        ≡ r && same_names f (chosen_places (drop (i + 1) index) (places starts lens)) (chosen_places (drop (i + 1) index2) (places starts2 lens2))
    unfolding same_names chosen_places
    turned =
        let h2 : i < length index2 = omega (arith, l.even) in
        rw (add-one i, drop-cons index i 0 h, drop-cons index2 i 0 h2)
        (rw (get_d-places starts lens _ l.whole, get_d-places starts2 lens2 _ l.whole2, q, p, p2, p3, p4))

    -- one name more is alike
    pub names_more : r ≡ true → NamesLeft f index starts lens index2 starts2 lens2 (i + 1)
    names_more t =
        record { even = l.even; whole = l.whole; whole2 = l.whole2; within = omega arith; rest = l.rest ∙ turned ∙ rw t }

    -- a name is unlike
    pub names-unlike : r ≡ false → false ≡ same_names f (chosen_places index (places starts lens)) (chosen_places index2 (places starts2 lens2))
    names-unlike t = sym (l.rest ∙ turned ∙ rw t)
