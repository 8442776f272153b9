-- The lines of a header, one by one.
use mathlib.Core.Path.{◌≡◌}
use mathlib.Core.Bool.{Bool, true, false, cond}
use mathlib.Core.List.{List, [], ◌∷◌, ◌++◌, map, append_assoc}
use Prim.Native.Nat.{ℕ}
use lib.ListN.{length}
use lib.IntN.{ℤ}
use Rattle.codes.specs.declared.DDDMPVersion.{DDDMPVersion}
use Rattle.codes.specs.declared.DDDMPVersion.TheVariants.{V2_0, V3_0}
use Rattle.read_lines.specs.Each.{Each, none, each}
use Rattle.header_keys.specs.declared.Key.TheVariants.{Ver, Mode, Varinfo, Dd, Nnodes, Nvars, Nsuppvars, Nroots, Varnames, Suppvarnames, Orderedvarnames, Ids, Permids, Rootids, Rootnames}
use Rattle.writers.specs.Decimal.{decimal, edge_text}
use Rattle.heading.specs.Lines.{HeaderLine, line}
use Rattle.heading.specs.Heading.{Heading, ids_from, permids_of, version_text, mode_text, unless_empty, varname_lines, named_lines, intro_lines, count_lines, id_lines, root_lines, head_lines}
use Rattle.reading_header.specs.Joined.{Plain}
use Rattle.reading_header.specs.HeadWords.{ids_of, levels_of, all_names, supp_names, ordered_names, named, varname_words, suppvarname_words, orderedvarname_words}
use Rattle.reading_header.proofs.Elements.{each_append}
use Rattle.reading_header.proofs.LinesBack.{closing}

-- What holds of each line of a group that there may be holds of its lines: the intro's, the counts', the names', the ids' and the roots'.
module _ {P : HeaderLine → Type 0} where
  each-unless : {A : Type 0} (s : List A) (l : HeaderLine) → P l → Each P (unless_empty s l)
  each-unless [] l p = none
  each-unless (a ∷ s) l p = each p none

  pub each-intro : (v : DDDMPVersion) (ascii : Bool) (dd : List ℕ)
      → P (line Ver (version_text v ∷ [])) → P (line Mode (mode_text ascii ∷ [])) → P (line Varinfo ((0x34 ∷ []) ∷ [])) → P (line Dd (dd ∷ []))
      → Each P (intro_lines v ascii dd)
  unfolding intro_lines
  each-intro v ascii dd p q r s = each p (each q (each r (each-unless dd _ s)))

  pub each-count : (nnodes nvars nsuppvars : ℕ) → P (line Nnodes (decimal nnodes ∷ [])) → P (line Nvars (decimal nvars ∷ []))
      → P (line Nsuppvars (decimal nsuppvars ∷ [])) → Each P (count_lines nnodes nvars nsuppvars)
  unfolding count_lines
  each-count nnodes nvars nsuppvars p q r = each p (each q (each r none))

  pub each-name : (h : Heading) → P (line Varnames (varname_words h)) → P (line Suppvarnames (suppvarname_words h))
      → P (line Orderedvarnames (orderedvarname_words h)) → Each P (named_lines h.version h.support h.order h.names)
  unfolding named_lines varname_words suppvarname_words orderedvarname_words
  each-name h = by (named h) h.version
    where
      by : (b : Bool) (v : DDDMPVersion) → P (line Varnames (cond b (all_names v h.names) [])) → P (line Suppvarnames (cond b (supp_names h) []))
          → P (line Orderedvarnames (cond b (ordered_names h) []))
          → Each P (cond b (varname_lines v h.names ++ (line Suppvarnames (supp_names h) ∷ line Orderedvarnames (ordered_names h) ∷ [])) [])
      by true V2_0 p q r = each q (each r none)
      by true V3_0 p q r = each p (each q (each r none))
      by false v p q r = none

  pub each-id : (support order : List ℕ) → P (line Ids (map decimal (ids_from support 0 order)))
      → P (line Permids (map decimal (permids_of support order))) → Each P (id_lines support order)
  unfolding id_lines
  each-id support order p q = each p (each q none)

  pub each-root : (rootids : List ℤ) (rootnames : List (List ℕ)) → P (line Nroots (decimal (length rootids) ∷ []))
      → P (line Rootids (map edge_text rootids)) → P (line Rootnames rootnames) → Each P (root_lines rootids rootnames)
  unfolding root_lines
  each-root rootids rootnames p q r = each p (each q (each-unless rootnames _ r))

-- the lines before `.nodes`, group by group
abbrev pub groups_of : Heading → List (List HeaderLine)
groups_of h =
    intro_lines h.version h.ascii h.dd
    ∷ count_lines h.nnodes (length h.order) (length h.support)
    ∷ named_lines h.version h.support h.order h.names
    ∷ id_lines h.support h.order
    ∷ root_lines h.rootids h.rootnames
    ∷ []

unfoldable pub together : List (List HeaderLine) → List HeaderLine
together [] = []
together (g ∷ gs) = g ++ together gs

-- The lines of a header are those, and `.nodes`.
pub head-lines : (h : Heading) → head_lines h ≡ together (groups_of h) ++ closing
unfolding head_lines together
head-lines h = simp append_assoc

-- a property of each line that there may be; of the diagram's it is asked apart
pub record EachLine (P : HeaderLine → Type 0) (h : Heading) : Type 0 where
  pub ver : P (line Ver (version_text h.version ∷ []))
  pub mode : P (line Mode (mode_text h.ascii ∷ []))
  pub varinfo : P (line Varinfo ((0x34 ∷ []) ∷ []))
  pub nnodes : P (line Nnodes (decimal h.nnodes ∷ []))
  pub nvars : P (line Nvars (decimal (length h.order) ∷ []))
  pub nsuppvars : P (line Nsuppvars (decimal (length h.support) ∷ []))
  pub varnames : P (line Varnames (varname_words h))
  pub suppvarnames : P (line Suppvarnames (suppvarname_words h))
  pub orderedvarnames : P (line Orderedvarnames (orderedvarname_words h))
  pub ids : P (line Ids (map decimal (ids_of h)))
  pub permids : P (line Permids (map decimal (levels_of h)))
  pub nroots : P (line Nroots (decimal (length h.rootids) ∷ []))
  pub rootids : P (line Rootids (map edge_text h.rootids))
  pub rootnames : P (line Rootnames h.rootnames)

-- a line of plain words
abbrev pub PlainLine : HeaderLine → Type 0
PlainLine l = Each Plain l.words

-- What holds of each holds of the lines before `.nodes`.
pub each-early : {P : HeaderLine → Type 0} {h : Heading} → EachLine P h → P (line Dd (h.dd ∷ [])) → Each P (together (groups_of h))
unfolding together
each-early {h = h} e dd =
    each_append (each-intro h.version h.ascii h.dd e.ver e.mode e.varinfo dd)
    (each_append (each-count h.nnodes (length h.order) (length h.support) e.nnodes e.nvars e.nsuppvars)
    (each_append (each-name h e.varnames e.suppvarnames e.orderedvarnames)
    (each_append (each-id h.support h.order e.ids e.permids)
    (each_append (each-root h.rootids h.rootnames e.nroots e.rootids e.rootnames) none))))
