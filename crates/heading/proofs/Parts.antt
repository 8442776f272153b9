-- The lines of a header as the parts that they are written in.
use mathlib.Core.Path.{◌≡◌, refl, sym, ap, ◌∙◌}
use mathlib.Core.List.{List, [], ◌∷◌, ◌++◌, map, flatten, append-nil, append_assoc}
use mathlib.Core.Bool.{Bool}
use Prim.Native.Nat.{ℕ, ◌≤◌}
use native.Mathlib.Omega.{arith}
use lib.ListN.{length}
use lib.IntN.{ℤ}
use borrow.Author.Tests.{eq-eqb, ne_eqb}
use Rattle.codes.specs.declared.DDDMPVersion.{DDDMPVersion}
use Rattle.header_keys.specs.declared.Key.TheVariants.{Ver, Mode, Varinfo, Dd, Nnodes, Nvars, Nsuppvars, Nroots, Rootids, Rootnames, Suppvarnames, Orderedvarnames, Ids, Permids, Nodes}
use Rattle.writers.specs.Decimal.{decimal, edge_text}
use Rattle.writers.specs.Words.{spaced}
use Rattle.heading.specs.Lines.{HeaderLine, line, key_text, keyed_text, line_text, lines_text}
use Rattle.heading.specs.Heading.{Heading, version_text, mode_text, unless_empty, varname_lines, named_lines, intro_lines, count_lines, ids_from, permids_of, variables_from, chosen_names, id_lines, root_lines, head_lines, head_text}

-- the bytes of lines are those of the first and then those of the others
lines-append : (ls ms : List HeaderLine) → lines_text (ls ++ ms) ≡ lines_text ls ++ lines_text ms
unfolding lines_text
lines-append [] ms = refl
lines-append (l ∷ ls) ms = ap (λ t. line_text l ++ t) (lines-append ls ms) ∙ sym (append_assoc (line_text l) (lines_text ls) (lines_text ms))

-- one line
pub one_line : (l : HeaderLine) → lines_text (l ∷ []) ≡ line_text l
unfolding lines_text
one_line l = append-nil (line_text l)

-- a line that is left out where there is nothing
pub unless-some : {A : Type 0} (xs : List A) (l : HeaderLine) → 1 ≤ length xs → lines_text (unless_empty xs l) ≡ line_text l
unless-some [] l h = absurd (omega arith)
unless-some (x ∷ xs) l h = one_line l

pub unless-none : {A : Type 0} (xs : List A) (l : HeaderLine) → length xs ≡ 0 → lines_text (unless_empty xs l) ≡ []
unfolding lines_text
unless-none [] l h = refl
unless-none (x ∷ xs) l h = absurd (omega arith)

-- a line of one word: its key, the word and the line's end
abbrev pub word_parts : List ℕ → List ℕ → List (List ℕ)
word_parts key w = key ∷ (0x20 ∷ w) ∷ (0x0a ∷ []) ∷ []

pub word-parts : (key w : List ℕ) → keyed_text key (w ∷ []) ≡ flatten (word_parts key w)
unfolding spaced flatten
word-parts key w = simp append-nil

-- a line of any words
abbrev pub words_parts : List ℕ → List (List ℕ) → List (List ℕ)
words_parts key ws = key ∷ spaced ws ∷ (0x0a ∷ []) ∷ []

pub words-parts : (key : List ℕ) (ws : List (List ℕ)) → keyed_text key ws ≡ flatten (words_parts key ws)
unfolding flatten
words-parts key ws = refl

-- two lines, of which the first's end is written with the second's key
abbrev two_parts : List ℕ → List (List ℕ) → List ℕ → List (List ℕ) → List (List ℕ)
two_parts key ws key' ws' = key ∷ spaced ws ∷ (0x0a ∷ key') ∷ spaced ws' ∷ (0x0a ∷ []) ∷ []

two-parts : (key : List ℕ) (ws : List (List ℕ)) (key' : List ℕ) (ws' : List (List ℕ))
    → keyed_text key ws ++ (keyed_text key' ws' ++ []) ≡ flatten (two_parts key ws key' ws')
unfolding flatten
two-parts key ws key' ws' = simp (append_assoc, append-nil)

-- the diagram's name, that isn't empty
abbrev pub diagram_parts : List ℕ → List (List ℕ)
diagram_parts name = (0x2e ∷ 0x64 ∷ 0x64 ∷ 0x20 ∷ []) ∷ name ∷ (0x0a ∷ []) ∷ []

pub diagram-parts : (name : List ℕ) → 1 ≤ length name → lines_text (unless_empty name (line Dd (name ∷ []))) ≡ flatten (diagram_parts name)
unfolding spaced flatten
diagram-parts name h = unless-some name (line Dd (name ∷ [])) h ∙ simp append-nil

-- the version, the mode, the kind of extra words and the diagram's name
abbrev pub intro_parts : DDDMPVersion → Bool → List ℕ → List (List ℕ)
intro_parts version ascii dd =
    line_text (line Ver (version_text version ∷ [])) ∷ line_text (line Mode (mode_text ascii ∷ [])) ∷ line_text (line Varinfo ((0x34 ∷ []) ∷ []))
    ∷ lines_text (unless_empty dd (line Dd (dd ∷ []))) ∷ []

pub intro-parts : (version : DDDMPVersion) (ascii : Bool) (dd : List ℕ) → lines_text (intro_lines version ascii dd) ≡ flatten (intro_parts version ascii dd)
unfolding lines_text intro_lines flatten
intro-parts version ascii dd = simp append-nil

-- the counts
abbrev pub count_parts : ℕ → ℕ → ℕ → List (List ℕ)
count_parts nnodes nvars nsuppvars =
    line_text (line Nnodes (decimal nnodes ∷ [])) ∷ line_text (line Nvars (decimal nvars ∷ [])) ∷ line_text (line Nsuppvars (decimal nsuppvars ∷ [])) ∷ []

pub count-parts : (nnodes nvars nsuppvars : ℕ) → lines_text (count_lines nnodes nvars nsuppvars) ≡ flatten (count_parts nnodes nvars nsuppvars)
unfolding lines_text count_lines flatten
count-parts nnodes nvars nsuppvars = refl

-- the support variables and their levels
abbrev pub id_parts : List ℕ → List ℕ → List (List ℕ)
id_parts support order = two_parts (key_text Ids) (map decimal (ids_from support 0 order)) (key_text Permids) (map decimal (permids_of support order))

pub id-parts : (support order : List ℕ) → lines_text (id_lines support order) ≡ flatten (id_parts support order)
unfolding lines_text id_lines
id-parts support order = two-parts (key_text Ids) (map decimal (ids_from support 0 order)) (key_text Permids) (map decimal (permids_of support order))

-- the names of the variables
abbrev pub name_parts : DDDMPVersion → List ℕ → List ℕ → List (List ℕ) → List (List ℕ)
name_parts version support order names =
    lines_text (varname_lines version names)
    ∷ two_parts (key_text Suppvarnames) (chosen_names (ids_from support 0 order) names) (key_text Orderedvarnames) (chosen_names (variables_from (length order) 0 order) names)

module _ (version : DDDMPVersion) (support order : List ℕ) (names : List (List ℕ)) where
  pub name-parts : length names ≡ length order → lines_text (named_lines version support order names) ≡ flatten (name_parts version support order names)
  unfolding lines_text named_lines flatten
  name-parts e =
      rw (eq-eqb (length names) (length order) e)
      (lines-append (varname_lines version names) _
      ∙ ap (λ t. lines_text (varname_lines version names) ++ t)
      (two-parts (key_text Suppvarnames) (chosen_names (ids_from support 0 order) names) (key_text Orderedvarnames) (chosen_names (variables_from (length order) 0 order) names)))

  -- there are no names for some variables
  pub name-parts-none : (length names ≡ length order → ⊥) → lines_text (named_lines version support order names) ≡ []
  unfolding lines_text named_lines
  name-parts-none h = rw (ne_eqb (length names) (length order) h)

-- the roots, n of them
abbrev pub root_parts : ℕ → List ℤ → List (List ℕ) → List (List ℕ)
root_parts n rootids rootnames =
    line_text (line Nroots (decimal n ∷ [])) ∷ key_text Rootids ∷ spaced (map edge_text rootids) ∷ (0x0a ∷ [])
    ∷ lines_text (unless_empty rootnames (line Rootnames rootnames)) ∷ []

pub root-parts : {n : ℕ} (rootids : List ℤ) (rootnames : List (List ℕ)) → length rootids ≡ n
    → lines_text (root_lines rootids rootnames) ≡ flatten (root_parts n rootids rootnames)
unfolding lines_text root_lines flatten
root-parts rootids rootnames e = simp (append_assoc, append-nil) (rw e)

-- the whole header, with n variables in the support
abbrev pub head_parts : Heading → ℕ → List (List ℕ)
head_parts h n =
    lines_text (intro_lines h.version h.ascii h.dd) ∷ lines_text (count_lines h.nnodes (length h.order) n)
    ∷ lines_text (named_lines h.version h.support h.order h.names) ∷ lines_text (id_lines h.support h.order)
    ∷ lines_text (root_lines h.rootids h.rootnames) ∷ line_text (line Nodes []) ∷ []

pub head-parts : {n : ℕ} (h : Heading) → length h.support ≡ n → head_text h ≡ flatten (head_parts h n)
unfolding head_text head_lines flatten
head-parts h e = simp (lines-append, one_line, append-nil) (rw e)
