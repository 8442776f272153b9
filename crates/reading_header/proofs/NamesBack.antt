-- Lists of names, read back: each name where it stands in the file.
use mathlib.Core.Path.{◌≡◌, refl, sym, ap, ◌∙◌}
use mathlib.Core.Bool.{true, false}
use mathlib.Core.List.{List, [], ◌∷◌, ◌++◌, map}
use Prim.Native.Nat.{ℕ, ◌+◌}
use native.Mathlib.Omega.{arith}
use lib.ListN.{length, get_or, take, drop, length-map, get_or-map}
use Rattle.codes.specs.Answer.{value}
use Rattle.read_lines.specs.Each.{Each, none, each}
use Rattle.read_text.specs.Text.{is_utf8, place, len_of, name_of, name_list}
use Rattle.read_lists.specs.Lists.{listed}
use Rattle.read_lists.specs.Judged.{Reads}
use Rattle.read_lists.specs.Judged
use Rattle.read_text.proofs.NameLists.{name-good}
use Rattle.header_faults.specs.Judge.{name_list_fault}
use Rattle.writers.specs.Words.{spaced}
use Rattle.export_names.specs.Names.{name_at}
use Rattle.export_names.proofs.FitNames.{fit-utf8}
use Rattle.reading_header.specs.Joined.{joined}
use Rattle.reading_header.specs.Standing.{words_at, places_at}
use Rattle.reading_header.specs.HeadWords.{FewNames}
use Rattle.reading_header.proofs.Standing.{Has, has_part, has-less, has-front, has-next}
use Rattle.reading_header.proofs.Elements.{each-by}
use Rattle.reading_header.proofs.Plain.{name-plain}
use Rattle.reading_header.proofs.WordsBack.{judge-back}

-- Places are as long as their names, and as many.
places-lengths : (at : ℕ) (ws : List (List ℕ)) → map len_of (places_at at ws) ≡ map length ws
unfolding places_at
places-lengths at [] = refl
places-lengths at (w ∷ ws) = rw (places-lengths (at + length w + 1) ws)

module _ (at : ℕ) (ws : List (List ℕ)) where
  pub name-length : (i : ℕ) → (get_or (places_at at ws) i (place 0 0)).len ≡ length (get_or ws i [])
  name-length i =
      sym (get_or-map len_of (places_at at ws) i (place 0 0)) ∙ ap (λ l. get_or l i 0) (places-lengths at ws) ∙ get_or-map length ws i []

  places_count : length (places_at at ws) ≡ length ws
  places_count = sym (length-map (places_at at ws) len_of) ∙ ap length (places-lengths at ws) ∙ length-map ws length

-- each word is read as its place
names-read : {ws : List (List ℕ)} (at : ℕ) → Each (λ w. is_utf8 w ≡ true) ws → Reads name_of (words_at at ws) (places_at at ws)
unfolding words_at places_at
names-read at none = Judged.none
names-read at (each {a = w} u k) = Judged.more (name-good at w u) (names-read (at + length w + 1) k)

module _ {max : ℕ} (at : ℕ) {ws : List (List ℕ)} (n : FewNames max ws) where
  -- A list of names is read as their places,
  pub names-back : name_list max at (joined ws) ≡ listed (value (length ws)) (places_at at ws)
  unfolding name_list
  names-back =
      let c = places_count at ws in
      judge-back at (each-by name-plain n.fit) name_of max (names-read at (each-by (fit-utf8 false) n.fit)) (omega (arith, n.few)) ∙ rw c

  -- with no fault.
  pub names-faultless : name_list_fault max at (joined ws) ≡ 0
  unfolding name_list_fault
  names-faultless = rw names-back

module _ (f : List ℕ) where
  -- the words after the first
  has_words : (at : ℕ) (w : List ℕ) (ws : List (List ℕ)) → Has f at (w ++ spaced ws) → Has f (at + length w + 1) (joined ws)
  unfolding joined spaced
  has_words at w [] h = record { rest = drop (at + length w + 1) f; is = refl }
  has_words at w (v ∷ ws) h = has-next w 0x20 (v ++ spaced ws) h

  names_stand : (at : ℕ) (ws : List (List ℕ)) → Has f at (joined ws) → map (name_at f) (places_at at ws) ≡ ws
  unfolding joined places_at
  names_stand at [] h = refl
  names_stand at (w ∷ ws) h = rw (has-front (has-less w (spaced ws) h), names_stand (at + length w + 1) ws (has_words at w ws h))

-- The value's bytes are those of the file from its start on.
module _ (f : List ℕ) (n at : ℕ) (ws : List (List ℕ)) (there : take n (drop at f) ≡ joined ws) where
  -- Then each place holds its name,
  pub names-there : map (name_at f) (places_at at ws) ≡ ws
  names-there = names_stand f at ws (has_part f n at there)
