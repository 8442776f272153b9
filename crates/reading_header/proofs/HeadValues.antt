-- The last value of each key among the lines of a header.
use mathlib.Core.Path.{◌≡◌, refl, ap, ◌∙◌}
use mathlib.Core.Bool.{Bool, true, false, cond}
use mathlib.Core.List.{List, [], ◌∷◌, ◌++◌, map}
use Prim.Native.Nat.{ℕ, zero, suc, ◌+◌, ◌<◌}
use native.Mathlib.Omega.{arith}
use lib.Dec.{eqb}
use lib.ListN.{length, get_or}
use borrow.Author.Tests.{ne_eqb}
use Rattle.codes.specs.declared.DDDMPVersion.{DDDMPVersion}
use Rattle.codes.specs.declared.DDDMPVersion.TheVariants.{V2_0, V3_0}
use Rattle.read_lines.specs.Each.{Each, none, each}
use Rattle.header_keys.specs.declared.Key.{Key}
use Rattle.header_keys.specs.declared.Key.TheVariants.{Mode, Varinfo, Dd, Nnodes, Nvars, Nsuppvars, Nroots, Varnames, Suppvarnames, Orderedvarnames, Ids, Permids, Auxids, Rootids, Rootnames}
use Rattle.header_keys.specs.Keys.{slot_of}
use Rattle.header_values.specs.Values.{KnownKey}
use Rattle.writers.specs.Decimal.{decimal, edge_text}
use Rattle.heading.specs.Lines.{HeaderLine, line}
use Rattle.heading.specs.Heading.{Heading, mode_text, unless_empty, varname_lines, named_lines, intro_lines, count_lines, id_lines, root_lines}
use Rattle.reading_header.specs.Joined.{Plain, joined, without_front, without_back, trimmed}
use Rattle.reading_header.specs.Spans.{last_line_value}
use Rattle.reading_header.specs.HeadWords.{ids_of, levels_of, all_names, supp_names, ordered_names, named, varname_words, suppvarname_words, orderedvarname_words}
use Rattle.reading_header.proofs.WordsBack.{joined-one}
use Rattle.reading_header.proofs.LineValues.{value-single, value-joined}
use Rattle.reading_header.proofs.TableBack.{value-append}
use Rattle.reading_header.proofs.HeadLines.{PlainLine, EachLine, groups_of, together, each-intro, each-count, each-name, each-id, each-root}

-- The keys stand in groups: those of the intro, the counts, the names, the ids and the roots; here by a key's entry in a table.
abbrev group_at : ℕ → ℕ
group_at slot = get_or (0 ∷ 0 ∷ 0 ∷ 0 ∷ 1 ∷ 1 ∷ 1 ∷ 4 ∷ 5 ∷ 2 ∷ 2 ∷ 2 ∷ 3 ∷ 3 ∷ 5 ∷ 4 ∷ 4 ∷ []) slot 5

abbrev group_of : Key → ℕ
group_of k = group_at (slot_of k)

abbrev Grouped : ℕ → List HeaderLine → Type 0
Grouped n ls = Each (λ l. group_of l.key ≡ n) ls

-- groups from the n-th on
data Groups : ℕ → List (List HeaderLine) → Type 0 where
  last : {n : ℕ} → Groups n []
  next : {n : ℕ} {g : List HeaderLine} {gs : List (List HeaderLine)} → Grouped n g → Groups (suc n) gs → Groups n (g ∷ gs)

groups-numbered : (h : Heading) → Groups 0 (groups_of h)
groups-numbered h =
    next (each-intro h.version h.ascii h.dd refl refl refl refl)
    (next (each-count h.nnodes (length h.order) (length h.support) refl refl refl)
    (next (each-name h refl refl refl)
    (next (each-id h.support h.order refl refl)
    (next (each-root h.rootids h.rootnames refl refl refl) last))))

-- A group that isn't a key's says nothing of it, so that its value is found in its own.
module _ (k : Key) where
  skipped : (n : ℕ) {ls : List HeaderLine} (v : List ℕ) → Grouped n ls → (group_of k ≡ n → ⊥) → last_line_value v k ls ≡ v
  unfolding last_line_value
  skipped n v none h = refl
  skipped n v (each {a = l} g gs) h = rw (ne_eqb (slot_of k) (slot_of l.key) (λ e. h (ap group_at e ∙ g))) (skipped n v gs h)

  all-skipped : {n : ℕ} {gs : List (List HeaderLine)} (v : List ℕ) → Groups n gs → group_of k < n → last_line_value v k (together gs) ≡ v
  unfolding together last_line_value
  all-skipped v last h = refl
  all-skipped {n} v (next {g = g} {gs = gs} p ps) h =
      value-append k v g (together gs) ∙ rw (skipped n v p (λ e. omega arith)) (all-skipped v ps (omega arith))

  in_group : {n : ℕ} {gs : List (List HeaderLine)} (i : ℕ) (v : List ℕ) → Groups n gs → group_of k ≡ n + i
      → last_line_value v k (together gs) ≡ last_line_value v k (get_or gs i [])
  unfolding together last_line_value
  in_group i v last e = refl
  in_group zero v (next {g = g} {gs = gs} p ps) e = value-append k v g (together gs) ∙ all-skipped (last_line_value v k g) ps (omega arith)
  in_group {n} (suc i) v (next {g = g} {gs = gs} p ps) e =
      value-append k v g (together gs) ∙ rw (skipped n v p (λ q. omega arith)) (in_group i v ps (omega arith))

-- What a header says for each key, nothing where it has no line.
pub record HeadValues (h : Heading) (said : Key → List ℕ) : Type 0 where
  pub mode : said Mode ≡ mode_text h.ascii
  pub varinfo : said Varinfo ≡ 0x34 ∷ []
  pub dd : said Dd ≡ trimmed h.dd
  pub nnodes : said Nnodes ≡ joined (decimal h.nnodes ∷ [])
  pub nvars : said Nvars ≡ joined (decimal (length h.order) ∷ [])
  pub nsuppvars : said Nsuppvars ≡ joined (decimal (length h.support) ∷ [])
  pub varnames : said Varnames ≡ joined (varname_words h)
  pub suppvarnames : said Suppvarnames ≡ joined (suppvarname_words h)
  pub orderedvarnames : said Orderedvarnames ≡ joined (orderedvarname_words h)
  pub ids : said Ids ≡ joined (map decimal (ids_of h))
  pub permids : said Permids ≡ joined (map decimal (levels_of h))
  pub auxids : said Auxids ≡ []
  pub nroots : said Nroots ≡ joined (decimal (length h.rootids) ∷ [])
  pub rootids : said Rootids ≡ joined (map edge_text h.rootids)
  pub rootnames : said Rootnames ≡ joined h.rootnames

-- a line that may be left out says nothing of another key
unless-other : {A : Type 0} (k : Key) (l : HeaderLine) (v : List ℕ) (s : List A) → eqb (slot_of k) (slot_of l.key) ≡ false
    → last_line_value v k (unless_empty s l) ≡ v
unfolding last_line_value
unless-other k l v [] e = refl
unless-other k l v (a ∷ s) e = rw e

module _ (h : Heading) (p : EachLine PlainLine h) (said : Key → List ℕ)
    (look : (k : Key) → KnownKey k → said k ≡ last_line_value [] k (together (groups_of h))) where
  -- by the key's group
  found : (k : Key) → KnownKey k → said k ≡ last_line_value [] k (get_or (groups_of h) (group_of k) [])
  found k n = look k n ∙ in_group k (group_of k) [] (groups-numbered h) (omega arith)

  -- the diagram's name, if there is one
  dd-found : said Dd ≡ trimmed h.dd
  unfolding intro_lines last_line_value trimmed without_front without_back
  dd-found = found Dd (omega arith) ∙ by h.dd
    where
      by : (dd : List ℕ) → last_line_value [] Dd (intro_lines h.version h.ascii dd) ≡ trimmed dd
      by [] = refl
      by (b ∷ dd) = value-single Dd (b ∷ dd)

  -- names, if there are such
  rootnames-found : said Rootnames ≡ joined h.rootnames
  unfolding root_lines last_line_value joined
  rootnames-found = found Rootnames (omega arith) ∙ by h.rootnames p.rootnames
    where
      by : (names : List (List ℕ)) → Each Plain names → last_line_value [] Rootnames (root_lines h.rootids names) ≡ joined names
      by [] k = refl
      by (w ∷ names) k = value-joined (line Rootnames (w ∷ names)) k

  -- the names of variables
  names-found : (said Varnames ≡ joined (varname_words h)) × (said Suppvarnames ≡ joined (suppvarname_words h))
      × (said Orderedvarnames ≡ joined (orderedvarname_words h))
  unfolding named_lines varname_words suppvarname_words orderedvarname_words last_line_value joined
  names-found =
      let q = by (named h) h.version p.varnames p.suppvarnames p.orderedvarnames in
      (found Varnames (omega arith) ∙ q.0, found Suppvarnames (omega arith) ∙ q.1, found Orderedvarnames (omega arith) ∙ q.2)
    where
      by : (b : Bool) (v : DDDMPVersion)
          → Each Plain (cond b (all_names v h.names) []) → Each Plain (cond b (supp_names h) []) → Each Plain (cond b (ordered_names h) [])
          → let ls = cond b (varname_lines v h.names ++ (line Suppvarnames (supp_names h) ∷ line Orderedvarnames (ordered_names h) ∷ [])) [] in
          (last_line_value [] Varnames ls ≡ joined (cond b (all_names v h.names) []))
          × (last_line_value [] Suppvarnames ls ≡ joined (cond b (supp_names h) []))
          × (last_line_value [] Orderedvarnames ls ≡ joined (cond b (ordered_names h) []))
      by true V2_0 v s o = (refl, value-joined _ s, value-joined _ o)
      by true V3_0 v s o = (value-joined _ v, value-joined _ s, value-joined _ o)
      by false version v s o = (refl, refl, refl)

  -- A reader who finds the last value of each key finds what the header says.
  pub head-values : HeadValues h said
  unfolding intro_lines count_lines id_lines root_lines last_line_value
  head-values = record {
    mode = found Mode (omega arith) ∙ unless-other Mode _ _ h.dd refl ∙ value-joined _ p.mode ∙ joined-one _;
    varinfo = found Varinfo (omega arith) ∙ unless-other Varinfo _ _ h.dd refl ∙ value-joined _ p.varinfo ∙ joined-one _;
    dd = dd-found;
    nnodes = found Nnodes (omega arith) ∙ value-joined _ p.nnodes;
    nvars = found Nvars (omega arith) ∙ value-joined _ p.nvars;
    nsuppvars = found Nsuppvars (omega arith) ∙ value-joined _ p.nsuppvars;
    varnames = names-found.0;
    suppvarnames = names-found.1;
    orderedvarnames = names-found.2;
    ids = found Ids (omega arith) ∙ value-joined _ p.ids;
    permids = found Permids (omega arith) ∙ value-joined _ p.permids;
    auxids = found Auxids (omega arith);
    nroots = found Nroots (omega arith) ∙ unless-other Nroots _ _ h.rootnames refl ∙ value-joined _ p.nroots;
    rootids = found Rootids (omega arith) ∙ unless-other Rootids _ _ h.rootnames refl ∙ value-joined _ p.rootids;
    rootnames = rootnames-found;
  }
