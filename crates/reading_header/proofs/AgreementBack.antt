-- The lists of names of an export agree: where they have the same names, a check finds no difference.
use mathlib.Core.Path.{◌≡◌, refl, sym, ap, ◌∙◌}
use mathlib.Core.Bool.{true, or-true}
use mathlib.Core.List.{List, [], ◌∷◌}
use Prim.Native.Nat.{ℕ, zero, suc, ◌+◌, ◌<◌}
use native.Mathlib.Omega.{arith}
use lib.Dec.{eqb}
use lib.ListN.{length, get_or, drop, length-map, get_or-map}
use lib.Seq.{get_or-take, get_or-drop}
use borrow.Author.Tests.{eq-eqb}
use Rattle.read_text.specs.Text.{Place}
use Rattle.variable_names.specs.Names.{empty_name, are_same_bytes, same_name, same_names}
use Rattle.variable_names.specs.Names as places
use Rattle.export_names.specs.Names.{name_at}
use Rattle.header_checks.specs.Names.{agree}
use Rattle.heading.specs.Heading.{chosen_names}
use Rattle.reading_header.specs.ValuesBack.{Named}

-- bytes that are the same, one by one
same_bytes : (f : List ℕ) (a b n : ℕ) → ((i : ℕ) → i < n → get_or f (a + i) 0 ≡ get_or f (b + i) 0) → are_same_bytes f a b n ≡ true
unfolding are_same_bytes
same_bytes f a b zero h = refl
same_bytes f a b (suc n) h =
    let p : a + 0 ≡ a = omega arith in
    let q : b + 0 ≡ b = omega arith in
    rw (eq-eqb (get_or f a 0) (get_or f b 0) (rw (p, q) at (h 0 (omega arith)))) (same_bytes f (a + 1) (b + 1) n next)
  where
    next : (i : ℕ) → i < n → get_or f (a + 1 + i) 0 ≡ get_or f (b + 1 + i) 0
    next i k =
        let p : a + 1 + i ≡ a + suc i = omega arith in
        let q : b + 1 + i ≡ b + suc i = omega arith in
        rw (p, q) (h (suc i) (omega arith))

-- Two places of one length with the same name are alike.
same-name : (f : List ℕ) (p q : Place) → name_at f p ≡ name_at f q → p.len ≡ q.len → same_name f p q ≡ true
unfolding same_name
same-name f p q e l = rw (eq-eqb p.len q.len l) (same_bytes f p.start q.start p.len bytes)
  where
    bytes : (i : ℕ) → i < p.len → get_or f (p.start + i) 0 ≡ get_or f (q.start + i) 0
    bytes i h =
        sym (get_or-take p.len (drop p.start f) i 0 h ∙ get_or-drop p.start f i 0)
        ∙ ap (λ w. get_or w i 0) e
        ∙ get_or-take q.len (drop q.start f) i 0 (omega arith) ∙ get_or-drop q.start f i 0

module _ {f : List ℕ} {ps : List Place} {names : List (List ℕ)} (n : Named f ps names) where
  -- the name at a position, and how many there are
  pub name-at : (i : ℕ) → name_at f (get_or ps i empty_name) ≡ get_or names i []
  name-at i = sym (get_or-map (name_at f) ps i empty_name) ∙ ap (λ l. get_or l i []) n.there

  pub names-count : length ps ≡ length names
  names-count = sym (length-map ps (name_at f)) ∙ ap length n.there

module _ {f : List ℕ} {ps qs : List Place} {names others : List (List ℕ)} (m : Named f ps names) (n : Named f qs others) where
  same-names : (is js : List ℕ) → chosen_names is names ≡ chosen_names js others → same_names f (places.chosen_places is ps) (places.chosen_places js qs) ≡ true
  unfolding same_names chosen_names places.chosen_places
  same-names [] js e = refl
  same-names (i ∷ is) [] e = refl
  same-names (i ∷ is) (j ∷ js) e =
      let h : get_or names i [] ≡ get_or others j [] = cc in
      let l : (get_or ps i empty_name).len ≡ (get_or qs j empty_name).len = m.long i ∙ ap length h ∙ sym (n.long j) in
      rw (same-name f (get_or ps i empty_name) (get_or qs j empty_name) (name-at m i ∙ h ∙ sym (name-at n j)) l) (same-names is js (cc))

  pub names-agree : (is js : List ℕ) → chosen_names is names ≡ chosen_names js others → agree f ps is qs js ≡ true
  unfolding agree
  names-agree is js e = rw (same-names is js e, or-true (eqb (length qs) 0)) (or-true (eqb (length ps) 0))
