-- How long a header is at most: its share of the export size.
use mathlib.Core.Path.{◌≡◌, refl, ap, ◌∙◌}
use mathlib.Core.Bool.{Bool, true, false, cond}
use mathlib.Core.List.{List, [], ◌∷◌, ◌++◌, map, flatten}
use Prim.Native.Nat.{ℕ, suc, ◌+◌, ◌*◌, ◌^◌, ◌≤◌, ◌<◌}
use native.Mathlib.Omega.{arith}
use native.Mathlib.Decide.{ℕ_discrete}
use lib.ListN.{length, get_or, length-append}
use lib.IntN.{ℤ, pos, nat_abs}
use Rattle.codes.specs.Limits.{var_limit, root_limit}
use Rattle.codes.specs.declared.DDDMPVersion.{DDDMPVersion}
use Rattle.codes.specs.declared.DDDMPVersion.TheVariants.{V2_0, V3_0}
use Rattle.header_keys.specs.declared.Key.TheVariants.{Ver, Mode, Varinfo, Dd, Nnodes, Nvars, Nsuppvars, Nroots, Rootnames, Varnames}
use Rattle.reached.specs.Meet.{is_in}
use Rattle.variable_order.specs.Order.{is_order}
use Rattle.export_size.specs.Size.{sum}
use Rattle.variable_order.proofs.Permutation.{order_below}
use Rattle.writers.specs.Decimal.{decimal, edge_text}
use Rattle.writers.specs.Words.{spaced}
use Rattle.writers.proofs.Decimal.{decimal-short, edge-short}
use Rattle.heading.specs.Lines.{line, key_text, keyed_text, lines_text}
use Rattle.heading.specs.Heading.{Heading, ids_from, permids_of, version_text, mode_text, unless_empty, varname_lines, named_lines, intro_lines, count_lines, id_lines, root_lines, head_text}
use Rattle.heading.specs.Small.{SmallHeading}
use Rattle.heading.proofs.Parts.{intro-parts, count-parts, id-parts, name-parts, name-parts-none, root-parts, head-parts, one_line}
use Rattle.heading.proofs.ChosenNames.{spaced-length, spaced-total, ids-names, variables-names}

-- a text is as long as its parts together
flat-length : (parts : List (List ℕ)) → length (flatten parts) ≡ sum (map length parts)
unfolding flatten sum
flat-length [] = refl
flat-length (u ∷ us) = length-append u (flatten us) ∙ ap (λ n. length u + n) (flat-length us)

parts-length : {t : List ℕ} (parts : List (List ℕ)) → t ≡ flatten parts → length t ≡ sum (map length parts)
parts-length parts e = ap length e ∙ flat-length parts

-- a line of words: its key, the words and the line's end
line-length : (key : List ℕ) (ws : List (List ℕ)) → length (keyed_text key ws) ≡ length key + (length (spaced ws) + 1)
line-length key ws = length-append key (spaced ws ++ (0x0a ∷ [])) ∙ ap (λ n. length key + n) (length-append (spaced ws) (0x0a ∷ []))

-- a line of one word
word-length : (key w : List ℕ) → length (keyed_text key (w ∷ [])) ≡ length key + (length w + 2)
unfolding spaced
word-length key w = line-length key (w ∷ []) ∙ omega (arith, spaced-length w [])

-- the support variables, below 4,096 each
ids_short : (support order : List ℕ) (v : ℕ) → v + length order ≤ var_limit → length (spaced (map decimal (ids_from support v order))) ≤ 5 * length order
unfolding ids_from spaced
ids_short support [] v h = omega arith
ids_short support (l ∷ order) v h = go (is_in l support) (ids_short support order (v + 1) (omega arith))
  where
    go : (b : Bool) → length (spaced (map decimal (ids_from support (v + 1) order))) ≤ 5 * length order
        → length (spaced (map decimal (cond b (v ∷ ids_from support (v + 1) order) (ids_from support (v + 1) order)))) ≤ 5 * suc (length order)
    go true k = omega (arith, spaced-length (decimal v) (map decimal (ids_from support (v + 1) order)), decimal-short v 4 (omega arith) (omega arith))
    go false k = omega arith

-- their levels
levels-short : (support order : List ℕ) → ((v : ℕ) → v < length order → get_or order v 0 < var_limit)
    → length (spaced (map decimal (permids_of support order))) ≤ 5 * length order
unfolding permids_of spaced
levels-short support [] f = omega arith
levels-short support (l ∷ order) f = go (is_in l support) (levels-short support order (λ v h. f (suc v) (omega arith)))
  where
    go : (b : Bool) → length (spaced (map decimal (permids_of support order))) ≤ 5 * length order
        → length (spaced (map decimal (cond b (l ∷ permids_of support order) (permids_of support order)))) ≤ 5 * suc (length order)
    go true k = omega (arith, spaced-length (decimal l) (map decimal (permids_of support order)), decimal-short l 4 (omega (arith, f 0 (omega arith))) (omega arith))
    go false k = omega arith

-- the roots, of at most seven digits each
roots-short : (es : List ℤ) → ((i : ℕ) → i < length es → nat_abs (get_or es i (pos 0)) < 10 ^ 7) → length (spaced (map edge_text es)) ≤ 9 * length es
unfolding spaced
roots-short [] f = omega arith
roots-short (e ∷ es) f =
    omega (arith, roots-short es (λ i h. f (suc i) (omega arith)), spaced-length (edge_text e) (map edge_text es), edge-short 7 e (omega (arith, f 0 (omega arith))) (omega arith))

-- The groups of lines.
version-length : (version : DDDMPVersion) → length (version_text version) ≡ 9
version-length V2_0 = refl
version-length V3_0 = refl

mode-length : (ascii : Bool) → length (mode_text ascii) ≡ 1
mode-length true = refl
mode-length false = refl

diagram-short : (dd : List ℕ) → length (lines_text (unless_empty dd (line Dd (dd ∷ [])))) ≤ 5 + length dd
unfolding lines_text
diagram-short [] = omega arith
diagram-short (b ∷ dd) = omega (arith, ap length (one_line (line Dd ((b ∷ dd) ∷ []))), word-length (key_text Dd) (b ∷ dd))

intro-short : (version : DDDMPVersion) (ascii : Bool) (dd : List ℕ) → length (lines_text (intro_lines version ascii dd)) ≤ 39 + length dd
unfolding sum
intro-short version ascii dd =
    omega (
      arith,
      parts-length _ (intro-parts version ascii dd),
      word-length (key_text Ver) (version_text version),
      version-length version,
      word-length (key_text Mode) (mode_text ascii),
      mode-length ascii,
      word-length (key_text Varinfo) (0x34 ∷ []),
      diagram-short dd,
    )

counts-short : (nnodes nvars nsuppvars : ℕ) → nnodes < 10 ^ 7 → nvars ≤ var_limit → nsuppvars ≤ var_limit
    → length (lines_text (count_lines nnodes nvars nsuppvars)) ≤ 44
unfolding sum
counts-short nnodes nvars nsuppvars h k l =
    omega (
      arith,
      parts-length _ (count-parts nnodes nvars nsuppvars),
      word-length (key_text Nnodes) (decimal nnodes),
      decimal-short nnodes 7 (omega arith) (omega arith),
      word-length (key_text Nvars) (decimal nvars),
      decimal-short nvars 4 (omega arith) (omega arith),
      word-length (key_text Nsuppvars) (decimal nsuppvars),
      decimal-short nsuppvars 4 (omega arith) (omega arith),
    )

varnames-short : (version : DDDMPVersion) (names : List (List ℕ))
    → length (lines_text (varname_lines version names)) ≤ 10 + (length names + sum (map length names))
unfolding lines_text
varnames-short V2_0 names = omega arith
varnames-short V3_0 names = omega (arith, ap length (one_line (line Varnames names)), line-length (key_text Varnames) names, spaced-total names)

rootnames-short : (names : List (List ℕ)) → length (lines_text (unless_empty names (line Rootnames names))) ≤ 11 + (length names + sum (map length names))
unfolding lines_text
rootnames-short [] = omega arith
rootnames-short (n ∷ names) =
    omega (arith, ap length (one_line (line Rootnames (n ∷ names))), line-length (key_text Rootnames) (n ∷ names), spaced-total (n ∷ names))

-- the names of the variables: of all where version 3.0 has them, of the support, and of all again
names-short : (version : DDDMPVersion) (support order : List ℕ) (names : List (List ℕ)) → is_order (length order) order ≡ true
    → length (lines_text (named_lines version support order names)) ≤ 41 + (3 * length order + 3 * sum (map length names))
unfolding sum
names-short version support order names p = go (ℕ_discrete (length names) (length order))
  where
    go : Dec (length names ≡ length order) → length (lines_text (named_lines version support order names)) ≤ 41 + (3 * length order + 3 * sum (map length names))
    go (yes e) =
        omega (
          arith,
          parts-length _ (name-parts version support order names e),
          varnames-short version names,
          ids-names support order names 0,
          variables-names order p (length order) 0 names (omega arith),
        )
    go (no e) = omega (arith, ap length (name-parts-none version support order names e))

id-lines-short : (support order : List ℕ) → is_order (length order) order ≡ true → length order ≤ var_limit
    → length (lines_text (id_lines support order)) ≤ 14 + 10 * length order
unfolding sum
id-lines-short support order p h =
    omega (
      arith,
      parts-length _ (id-parts support order),
      ids_short support order 0 (omega arith),
      levels-short support order (λ v k. omega (arith, order_below (length order) order p v k)),
    )

root-lines-short : (rootids : List ℤ) (rootnames : List (List ℕ)) → length rootids ≤ root_limit
    → ((i : ℕ) → i < length rootids → nat_abs (get_or rootids i (pos 0)) < 10 ^ 7)
    → length (lines_text (root_lines rootids rootnames)) ≤ 33 + (9 * length rootids + (length rootnames + sum (map length rootnames)))
unfolding sum
root-lines-short rootids rootnames h f =
    omega (
      arith,
      parts-length _ (root-parts rootids rootnames refl),
      word-length (key_text Nroots) (decimal (length rootids)),
      decimal-short (length rootids) 4 (omega arith) (omega arith),
      roots-short rootids f,
      rootnames-short rootnames,
    )

-- a header within the limits: 'Export size: 256 + .. 24 × levels + 16 × roots + 3 × variable name bytes + root name bytes + diagram name bytes',
-- of whose 256 the end of the file takes 5
pub head-short : (h : Heading) → SmallHeading h
    → length (head_text h)
    ≤ 251 + 24 * length h.order + 16 * length h.rootids + 3 * sum (map length h.names) + sum (map length h.rootnames) + length h.dd
unfolding sum spaced
head-short h s =
    omega (
      arith,
      parts-length _ (head-parts h refl),
      intro-short h.version h.ascii h.dd,
      counts-short h.nnodes (length h.order) (length h.support) s.few_nodes s.few_variables (omega (arith, s.few_variables, s.few_support)),
      names-short h.version h.support h.order h.names s.order,
      id-lines-short h.support h.order s.order s.few_variables,
      root-lines-short h.rootids h.rootnames s.few_roots s.root_low,
      s.few_rootnames,
    )
