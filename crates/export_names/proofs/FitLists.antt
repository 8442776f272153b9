-- What a list of names that fits holds, for those who write its names.
use mathlib.Core.Path.{◌≡◌, refl, ap, ◌∙◌}
use mathlib.Core.Bool.{Bool, true, false, ◌||◌}
use mathlib.Core.Logic.{◌⊎◌, inl, inr}
use mathlib.Core.List.{List, [], ◌∷◌, map}
use Prim.Native.Nat.{ℕ, suc, ◌+◌}
use native.Mathlib.Nat.{suc_inj}
use native.Mathlib.Omega.{arith}
use lib.ListN.{length, length-map}
use lib.Dec.{eqb}
use borrow.Author.Tests.{leb-true, eqb-true}
use Rattle.codes.proofs.Bytes.{both}
use Rattle.read_lines.specs.Each.{Each, none, each}
use Rattle.read_text.specs.Text.{Place, place}
use Rattle.variable_names.specs.Names.{places}
use Rattle.export_names.specs.Names.{counted, inside, name_at, fit_name, fit_place, fit_places, name_list_fits, names_at}
use Rattle.export_size.specs.Size.{sum}
use Rattle.export_names.proofs.NameReading.{length-name}

-- there are as many places as lengths, where starts and lengths are equally many
length-places : (ss ns : List ℕ) → length ss ≡ length ns → length (places ss ns) ≡ length ns
unfolding places
length-places [] [] e = refl
length-places [] (n ∷ ns) e = absurd (omega arith)
length-places (s ∷ ss) [] e = absurd (omega arith)
length-places (s ∷ ss) (n ∷ ns) e = ap suc (length-places ss ns (suc_inj e))

module _ (d : Bool) (bytes : List ℕ) where
  -- the name at a fit place is fit
  pub place-fit : (p : Place) → fit_place d bytes p ≡ true → fit_name d (name_at bytes p) ≡ true
  place-fit p h = (both (inside bytes p) (fit_name d (name_at bytes p)) h).1

  -- and is as long as the place says
  pub place-length : (s n : ℕ) → fit_place d bytes (place s n) ≡ true → length (name_at bytes (place s n)) ≡ n
  place-length s n h =
      length-name bytes s n (leb-true (s + n) (length bytes) (both (inside bytes (place s n)) (fit_name d (name_at bytes (place s n))) h).0)

  -- each name at fit places is fit
  places-fit : (ps : List Place) → fit_places d bytes ps ≡ true → Each (λ name. fit_name d name ≡ true) (map (name_at bytes) ps)
  unfolding fit_places
  places-fit [] h = none
  places-fit (p ∷ ps) h = let q = both (fit_place d bytes p) (fit_places d bytes ps) h in each (place-fit p q.0) (places-fit ps q.1)

  -- together they are as long as the places say
  places-sum : (ss ns : List ℕ) → length ss ≡ length ns → fit_places d bytes (places ss ns) ≡ true
      → sum (map length (map (name_at bytes) (places ss ns))) ≡ sum ns
  unfolding fit_places places sum
  places-sum [] [] e h = refl
  places-sum [] (n ∷ ns) e h = absurd (omega arith)
  places-sum (s ∷ ss) [] e h = absurd (omega arith)
  places-sum (s ∷ ss) (n ∷ ns) e h =
      let q = both (fit_place d bytes (place s n)) (fit_places d bytes (places ss ns)) h in
      rw (place-length s n q.0, places-sum ss ns (suc_inj e) q.1)

module _ (want : ℕ) (bytes starts lens : List ℕ) (h : name_list_fits want bytes starts lens ≡ true) where
  -- the tests of a list
  record Fits : Type 0 where
    even : length starts ≡ length lens
    count : (eqb (length lens) 0 || eqb (length lens) want) ≡ true
    names : fit_places false bytes (places starts lens) ≡ true

  fits : Fits
  unfolding name_list_fits counted
  fits =
      let p = both (counted want starts lens) (fit_places false bytes (places starts lens)) h in
      let q = both (eqb (length starts) (length lens)) (eqb (length lens) 0 || eqb (length lens) want) p.0 in
      record { even = eqb-true (length starts) (length lens) q.0; count = q.1; names = p.1 }

  -- there is a name for each length
  pub list_length : length (names_at bytes starts lens) ≡ length lens
  unfolding names_at
  list_length = length-map (places starts lens) (name_at bytes) ∙ length-places starts lens fits.even

  -- there are none, or as many as wanted
  pub list_count : (length (names_at bytes starts lens) ≡ 0) ⊎ (length (names_at bytes starts lens) ≡ want)
  list_count = rw list_length (go (eqb (length lens) 0) refl fits.count)
    where
      go : (b : Bool) → eqb (length lens) 0 ≡ b → (b || eqb (length lens) want) ≡ true → (length lens ≡ 0) ⊎ (length lens ≡ want)
      go true e k = inl (eqb-true (length lens) 0 e)
      go false e k = inr (eqb-true (length lens) want k)

  -- each is fit
  pub list-names : Each (λ name. fit_name false name ≡ true) (names_at bytes starts lens)
  unfolding names_at
  list-names = places-fit false bytes (places starts lens) fits.names

  -- 'each name counted by its own length': together they have as many bytes as the lengths say
  pub list-sum : sum (map length (names_at bytes starts lens)) ≡ sum lens
  unfolding names_at
  list-sum = places-sum false bytes starts lens fits.even fits.names
