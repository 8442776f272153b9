-- The comparisons of `Names` say what they are for: they pass exactly names that are alike.
use mathlib.Core.Path.{◌≡◌, refl, ap}
use mathlib.Core.Logic.{◌↔◌}
use mathlib.Core.Bool.{true}
use mathlib.Core.List.{List, [], ◌∷◌}
use Prim.Native.Nat.{ℕ, zero, suc, ◌+◌, ◌<◌}
use native.Mathlib.Omega.{arith}
use lib.ListN.{length, get_or}
use lib.Dec.{eqb}
use borrow.Author.Tests.{eqb-true, eq-eqb}
use Rattle.codes.proofs.Bytes.{both}
use Rattle.read_text.specs.Text.{Place}
use Rattle.variable_names.specs.Names.{empty_name, LikeNames, are_same_bytes, same_name, same_names, chosen_places}

-- the k-th byte after the first is the next byte's k-th
one_on : (f : List ℕ) (a k : ℕ) → get_or f (a + suc k) 0 ≡ get_or f (a + 1 + k) 0
one_on f a k = let e : a + suc k ≡ a + 1 + k = omega arith in rw e

-- the byte at a is the first from there on
from-here : (f : List ℕ) (a : ℕ) → get_or f (a + 0) 0 ≡ get_or f a 0
from-here f a = let e : a + 0 ≡ a = omega arith in rw e

-- where the test of n bytes passes each of them is the same
bytes_same : (f : List ℕ) (a b n : ℕ) → are_same_bytes f a b n ≡ true → (k : ℕ) → k < n → get_or f (a + k) 0 ≡ get_or f (b + k) 0
unfolding are_same_bytes
bytes_same f a b zero s k h = absurd (omega arith)
bytes_same f a b (suc n) s zero h =
    rw (from-here f a, from-here f b) (eqb-true _ _ (both (eqb (get_or f a 0) (get_or f b 0)) (are_same_bytes f (a + 1) (b + 1) n) s).0)
bytes_same f a b (suc n) s (suc k) h =
    rw (one_on f a k, one_on f b k)
    (bytes_same f (a + 1) (b + 1) n (both (eqb (get_or f a 0) (get_or f b 0)) (are_same_bytes f (a + 1) (b + 1) n) s).1 k (omega arith))

-- where each of them is the same it passes
bytes-tested : (f : List ℕ) (a b n : ℕ) → ((k : ℕ) → k < n → get_or f (a + k) 0 ≡ get_or f (b + k) 0) → are_same_bytes f a b n ≡ true
unfolding are_same_bytes
bytes-tested f a b zero p = refl
bytes-tested f a b (suc n) p =
    let e = rw (from-here f a, from-here f b) at (p 0 (omega arith)) in
    rw (eq-eqb (get_or f a 0) (get_or f b 0) e)
    (bytes-tested f (a + 1) (b + 1) n (λ k h. rw (one_on f a k, one_on f b k) at (p (suc k) (omega arith))))

-- the comparison of two names passes exactly those that are alike
pub name-like : (f : List ℕ) (p q : Place) → (same_name f p q ≡ true) ↔ LikeNames f p q
unfolding same_name
name-like f p q = (
  λ s. let b = both (eqb p.len q.len) (are_same_bytes f p.start q.start p.len) s in
      record { same_length = eqb-true _ _ b.0; same_bytes = bytes_same f p.start q.start p.len b.1 },
  λ L. rw (eq-eqb p.len q.len L.same_length) (bytes-tested f p.start q.start p.len L.same_bytes),
)

-- at each position that both lists have, their names are alike
abbrev AlikeByEntry : List ℕ → List Place → List Place → Type 0
AlikeByEntry f ps qs = (i : ℕ) → i < length ps → i < length qs → LikeNames f (get_or ps i empty_name) (get_or qs i empty_name)

-- where the comparison of two lists passes they are alike, entry by entry
entries-like : (f : List ℕ) (ps qs : List Place) → same_names f ps qs ≡ true → AlikeByEntry f ps qs
unfolding same_names
entries-like f [] qs s i h k = absurd (omega arith)
entries-like f (p ∷ ps) [] s i h k = absurd (omega arith)
entries-like f (p ∷ ps) (q ∷ qs) s zero h k = (name-like f p q).0 (both (same_name f p q) (same_names f ps qs) s).0
entries-like f (p ∷ ps) (q ∷ qs) s (suc i) h k =
    entries-like f ps qs (both (same_name f p q) (same_names f ps qs) s).1 i (omega arith) (omega arith)

-- where they are alike it passes
entries-tested : (f : List ℕ) (ps qs : List Place) → AlikeByEntry f ps qs → same_names f ps qs ≡ true
unfolding same_names
entries-tested f [] qs A = refl
entries-tested f (p ∷ ps) [] A = refl
entries-tested f (p ∷ ps) (q ∷ qs) A =
    rw ((name-like f p q).1 (A 0 (omega arith) (omega arith)))
    (entries-tested f ps qs (λ i h k. A (suc i) (omega arith) (omega arith)))

-- the comparison of two lists of names passes exactly those that are alike, entry by entry, as far as both reach
pub names-like : (f : List ℕ) (ps qs : List Place)
    → (same_names f ps qs ≡ true) ↔ ((i : ℕ) → i < length ps → i < length qs → LikeNames f (get_or ps i empty_name) (get_or qs i empty_name))
names-like f ps qs = (entries-like f ps qs, entries-tested f ps qs)

-- as many names are chosen as there are positions
pub chosen-count : (is : List ℕ) (names : List Place) → length (chosen_places is names) ≡ length is
unfolding chosen_places
chosen-count [] names = refl
chosen-count (i ∷ is) names = ap suc (chosen-count is names)

-- the k-th of them is the name at the k-th position
pub chosen-entry : (is : List ℕ) (names : List Place) (k : ℕ) → k < length is
    → get_or (chosen_places is names) k empty_name ≡ get_or names (get_or is k 0) empty_name
unfolding chosen_places
chosen-entry [] names k h = absurd (omega arith)
chosen-entry (i ∷ is) names zero h = refl
chosen-entry (i ∷ is) names (suc k) h = chosen-entry is names k (omega arith)
