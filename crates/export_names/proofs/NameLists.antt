-- Laws of lists of names, checked from the first name to the last.
use mathlib.Core.Path.{◌≡◌, refl, sym, ◌∙◌}
use mathlib.Core.Bool.{Bool, true, false, ◌&&◌, and-true, and-false}
use mathlib.Core.List.{List, [], ◌∷◌}
use Prim.Native.Nat.{ℕ, ◌+◌, ◌≤◌, ◌<◌}
use native.Mathlib.Numerals.{add-one}
use native.Mathlib.Omega.{arith}
use lib.ListN.{length, get_or, drop, drop_of_length-le}
use lib.Seq.{drop-cons}
use lib.Dec.{eqb}
use borrow.Author.Tests.{eqb-false, eq-eqb, ne_eqb}
use Rattle.read_text.specs.Text.{place}
use Rattle.variable_names.specs.Names.{places}
use Rattle.export_names.specs.Names.{counted, fit_place, fit_places, name_list_fits, fit_span}
use Rattle.export_names.proofs.NameReading.{place-unfit}

-- the first i names are fit, so that the rest decides
pub record Checked (d : Bool) (bytes starts lens : List ℕ) (i : ℕ) : Type 0 where
  pub even : length starts ≡ length lens
  pub rest : fit_places d bytes (places starts lens) ≡ fit_places d bytes (places (drop i starts) (drop i lens))

-- no name is checked yet
pub checked-start : {d : Bool} {bytes starts lens : List ℕ} → length starts ≡ length lens → Checked d bytes starts lens 0
checked-start e = record { even = e; rest = refl }

module _ {d : Bool} {bytes starts lens : List ℕ} {i : ℕ} (k : Checked d bytes starts lens i) where
  module _ (h : i < length lens) where
    -- the name at i decides, and then those after it
    turned : fit_places d bytes (places starts lens)
        ≡ (fit_place d bytes (place (get_or starts i 0) (get_or lens i 0)) && fit_places d bytes (places (drop (i + 1) starts) (drop (i + 1) lens)))
    unfolding places fit_places
    turned =
        let g : i < length starts = omega (arith, k.even) in
        k.rest ∙ rw (add-one i, drop-cons starts i 0 g, drop-cons lens i 0 h)

    -- one name more is fit
    pub checked-more : fit_place d bytes (place (get_or starts i 0) (get_or lens i 0)) ≡ true → Checked d bytes starts lens (i + 1)
    checked-more e = record { even = k.even; rest = turned ∙ rw e }

    -- a name is unfit
    pub checked-unfit : fit_place d bytes (place (get_or starts i 0) (get_or lens i 0)) ≡ false → false ≡ fit_places d bytes (places starts lens)
    checked-unfit e = sym (turned ∙ rw e)

    -- its place alone tells it
    pub checked-outside : false ≡ fit_span d (length bytes) (place (get_or starts i 0) (get_or lens i 0)) → false ≡ fit_places d bytes (places starts lens)
    checked-outside e = checked-unfit (place-unfit d bytes (get_or starts i 0) (get_or lens i 0) e)

  -- all names are fit
  pub checked-end : length lens ≤ i → true ≡ fit_places d bytes (places starts lens)
  unfolding places fit_places
  checked-end h =
      let g : length starts ≤ i = omega (arith, k.even) in
      sym (k.rest ∙ rw (drop_of_length-le starts g))

-- a list of one name
pub one_name : (d : Bool) (bytes : List ℕ) (s n : ℕ) → fit_places d bytes (places (s ∷ []) (n ∷ [])) ≡ fit_place d bytes (place s n)
unfolding places fit_places
one_name d bytes s n = and-true (fit_place d bytes (place s n))

module _ (want : ℕ) (bytes starts lens : List ℕ) where
  -- starts and lengths aren't equally many
  pub list-uneven : (length starts ≡ length lens → ⊥) → false ≡ name_list_fits want bytes starts lens
  unfolding name_list_fits counted
  list-uneven h = rw (ne_eqb (length starts) (length lens) h)

  -- there are some names, and not as many as wanted
  pub list-uncounted : (length lens ≡ 0 → ⊥) → (length lens ≡ want → ⊥) → false ≡ name_list_fits want bytes starts lens
  unfolding name_list_fits counted
  list-uncounted z h = rw (ne_eqb (length lens) 0 z, ne_eqb (length lens) want h, and-false (eqb (length starts) (length lens)))

  -- there are none, or as many as wanted: the names decide
  pub list_counted : length starts ≡ length lens → ((length lens ≡ 0 → ⊥) → length lens ≡ want)
      → fit_places false bytes (places starts lens) ≡ name_list_fits want bytes starts lens
  unfolding name_list_fits counted
  list_counted e h = go (eqb (length lens) 0) refl
    where
      go : (b : Bool) → eqb (length lens) 0 ≡ b → fit_places false bytes (places starts lens) ≡ name_list_fits want bytes starts lens
      go true q = rw (eq-eqb (length starts) (length lens) e, q)
      go false q = rw (eq-eqb (length starts) (length lens) e, q, eq-eqb (length lens) want (h (eqb-false (length lens) 0 q)))
