-- The load inside `recode`, into an empty store at the levels of the file's own header: it is refused neither 2 nor 3, and what it leaves is
-- refused neither 3 nor 4 nor 6 by the export.
use mathlib.Core.Path.{◌≡◌, refl, sym, ap, ◌∙◌}
use mathlib.Core.Logic.{◌⊎◌, inl, inr, ⊎_elim}
use mathlib.Core.Bool.{Bool, true, false, ◌&&◌}
use mathlib.Core.List.{List, [], ◌∷◌}
use Prim.Native.Nat.{ℕ, zero, suc, ◌≤◌, ◌<◌}
use native.Mathlib.Omega.{arith}
use lib.Dec.{leb}
use lib.ListN.{length, get_or, take, length-take}
use lib.Seq.{get_or-take}
use lib.IntN.{ℤ, pos, nat_abs}
use borrow.Author.Tests.{le-leb, eq-eqb}
use Rattle.codes.specs.Limits.{limits, var_limit, root_limit}
use Rattle.codes.specs.Faults.{first_fault, unless}
use Rattle.support.proofs.SupportAllowed.{permids-allowed}
use Rattle.header_checks.proofs.WholeRules.{whole-rules}
use Rattle.store.specs.Store.{Store}
use Rattle.store.specs.Rules.{Rules}
use Rattle.store.specs.Keeps.{rules-keeps}
use Rattle.store.specs.Growth.{EdgeOf}
use Rattle.store.specs.Empty.{empty}
use Rattle.store.proofs.Empty.{empty-keeps}
use Rattle.header.specs.Header.{Header, header, refusal, table_of, at_least, load_header, length_fault}
use Rattle.level_list.specs.List.{list_fits}
use Rattle.level_list.proofs.LevelLists.{list-allowed, list-levels}
use Rattle.variable_order.specs.Order.{is_order}
use Rattle.imported.specs.Import as nodes
use Rattle.imported.specs.Refused.{NodesRefused, crowded, early, text, binary, unended}
use Rattle.imported.proofs.SaysAs.{get_d-there}
use Rattle.imported.proofs.NodesRefused.{refused-nodes}
use Rattle.heading.specs.Tables.{Lent}
use Rattle.exported.specs.Export.{all_roots, roots_fit, long_enough, names_fit, export_fault}
use Rattle.calls.specs.Load.{Load, Loaded, variable_lists, root_lists, scratch_fault, list_fault, before_nodes, header_of, nodes_of}
use Rattle.calls.specs.Load.{with_nodes, with_list, with_header, load_of}
use Rattle.calls.specs.Roots.{roots_of, Gains}
use Rattle.calls.proofs.HeaderStands.{no_header, one-header, answer-sound, length-left}
use Rattle.calls.proofs.Accepted.{answered-passes}
use Rattle.calls.proofs.RootsAnswer.{roots-answer}
use Rattle.recode_levels.specs.Levels.{level_list, variable_levels}
use Rattle.recode_levels.proofs.RecodeLevels.{list-ascending, permids-list-allowed, levels-by-permid, levels-permute}
use Rattle.recoding.specs.Recode.{slots_lent, long_lists, head_read, load_at}
use Rattle.recoding.proofs.Said.{Says, header-says, load-says}

-- an empty store has the levels that it is given
empty-levels : (levels slots : ℕ) → (empty levels slots).levels ≡ levels
unfolding empty
empty-levels levels slots = refl

-- of scratch and a level list that fits, scratch may be refused
scratch-left : (b : Bool) (k : ℕ) → first_fault (unless b 1 ∷ unless true 2 ∷ []) ≡ suc k → suc k ≡ 1
unfolding first_fault
scratch-left true k e = absurd (omega arith)
scratch-left false k e = sym e

-- of an export's checks, lent parts and names may be refused
parts-left : (a b : Bool) (k : ℕ) → first_fault (unless a 1 ∷ unless true 3 ∷ unless true 4 ∷ unless true 6 ∷ unless b 5 ∷ []) ≡ suc k
    → (suc k ≡ 1) ⊎ (suc k ≡ 5)
unfolding first_fault
parts-left true true k e = absurd (omega arith)
parts-left true false k e = inr (sym e)
parts-left false b k e = inl (sym e)

-- roots that are edges of a store pass
roots-pass : (σ : Store) (l : List ℤ) → ((i : ℕ) → i < length l → EdgeOf σ (get_or l i (pos 0))) → all_roots σ.count l ≡ true
unfolding all_roots
roots-pass σ [] p = refl
roots-pass σ (r ∷ l) p =
    let e = p 0 (omega arith) in
    rw (le-leb 1 (nat_abs r) e.some, le-leb (nat_abs r) σ.count e.there) (roots-pass σ l (λ i h. p (suc i) (omega arith)))

-- nodes are refused with numbers from 14 on
nodes-from : {u : nodes.Setup} {σ : Store} {f : List ℕ} {at k line : ℕ} → NodesRefused limits u σ f at k line → 14 ≤ k
nodes-from (crowded x) = omega arith
nodes-from (early r a e) = omega arith
nodes-from (text r a e t z i l) = ⊎_elim (λ w. omega (arith, w.0)) (λ w. omega (arith, w.0)) t
nodes-from (binary r a e t) = ⊎_elim (λ w. omega arith) (λ w. omega (arith, w.0)) t
nodes-from (unended r e z) = omega arith

module _ (f : List ℕ) (h : Header) (read : (head_read limits f).answer ≡ header h) where
  -- the level list, the load and the store that it starts from
  abbrev list : List ℕ
  list = level_list h.nvars (head_read limits f).permids

  abbrev c : Load
  c = load_at f list

  abbrev σ : Store
  σ = empty h.nvars slots_lent

  -- what the header says
  says : Says h (head_read limits f).ids (head_read limits f).permids
  unfolding head_read
  says = header-says (length_fault limits (length f)) f h read

  -- the store keeps the rules
  store-rules : Rules limits σ
  store-rules = (empty-keeps h.nvars slots_lent).1 (omega arith, says.judged.few)

  -- the lists are long enough
  lists-long : (at_least var_limit (variable_lists long_lists) ≡ true) × (at_least root_limit (root_lists long_lists) ≡ true)
  unfolding at_least
  lists-long = (refl, refl)

  -- so the load reads the same header
  same_head : header_of limits c σ ≡ head_read limits f
  unfolding header_of head_read
  same_head = ap (λ n. load_header limits n f) (length-left limits c σ lists-long.0 lists-long.1 (rules-keeps limits σ store-rules))

  -- the level list fits
  list-fits : list_fits h.nsuppvars σ.levels list ≡ true
  list-fits =
      let l = list-ascending h.nvars (head_read limits f).permids says.permids_are in
      rw (empty-levels h.nvars slots_lent)
      ((list-allowed h.nsuppvars h.nvars list).1
      (l.as_many ∙ says.permids_counted, permids-list-allowed h.nvars (head_read limits f).permids says.permids_are))

  -- after the header only scratch may be refused
  between-one : (k : ℕ) → before_nodes c σ h ≡ suc k → suc k ≡ 1
  unfolding before_nodes scratch_fault list_fault
  between-one k e = scratch-left (leb h.nnodes slots_lent && leb h.nnodes slots_lent) k (rw list-fits at e)

  -- A refusal of the load is 1, for scratch, or one of the nodes.
  pub load-refuses : (n line : ℕ) → (load_of limits c σ).answer ≡ refusal n line → (n ≡ 1) ⊎ (10 ≤ n)
  unfolding load_of
  load-refuses n line q =
      list-refuses (before_nodes c σ h) refl (sym (ap (λ a. (with_header limits c σ a).answer) (ap (λ r. r.answer) same_head ∙ read)) ∙ q)
    where
      nodes-refuse : (a : nodes.NodesAnswer) → (nodes_of limits c σ h).answer ≡ a
          → (with_nodes limits c σ h (nodes_of limits c σ h) a).answer ≡ refusal n line
          → (n ≡ 1) ⊎ (10 ≤ n)
      nodes-refuse (nodes.nodes at) e q = no_header (sym q)
      nodes-refuse (nodes.refusal k at) e q =
          let s : k ≡ n = cc in
          let w = (refused-nodes _ σ f h.next _ store-rules (list-levels _ _ list list-fits) k at).0 e in
          inr (omega (arith, nodes-from w))

      list-refuses : (k : ℕ) → before_nodes c σ h ≡ k → (with_list limits c σ h k).answer ≡ refusal n line → (n ≡ 1) ⊎ (10 ≤ n)
      list-refuses zero e q = nodes-refuse (nodes_of limits c σ h).answer refl q
      list-refuses (suc k) e q = let s : suc k ≡ n = cc in inl (sym s ∙ between-one k e)

  -- an accepted load
  module _ (g : Header) (q : (load_of limits c σ).answer ≡ header g) where
    -- what it leaves
    abbrev r : Loaded
    r = load_of limits c σ

    abbrev roots : List ℤ
    roots = take g.nroots r.roots

    abbrev order : List ℕ
    order = variable_levels g.nvars r.ids r.permids

    -- its header is the one that was read first
    same-header : g ≡ h
    same-header = one-header (sym (answered-passes limits c σ g q).header_read ∙ ap (λ r. r.answer) same_head ∙ read)

    gains : Gains limits c σ r
    gains = roots-answer limits c σ g q

    -- there are as many roots as `.rootids` has
    roots_counted : length (roots_of f) ≡ g.nroots
    unfolding head_read
    roots_counted =
        let s = (answer-sound limits (length_fault limits (length f)) f h read).1 in
        ((whole-rules limits f (table_of f)).0 s.whole).roots_counted ∙ ap (λ x. x.nroots) (sym s.is ∙ sym same-header)

    -- they are edges of the store
    root-edge : (i : ℕ) → i < length roots → EdgeOf r.after (get_or roots i (pos 0))
    root-edge i k =
        let l = length-take g.nroots r.roots in
        let m : i < g.nroots = omega arith in
        let given = gains.root i (omega (arith, roots_counted)) in
        let there = get_d-there r.roots i (pos 0) (omega arith) in
        let s : given.root ≡ get_or r.roots i (pos 0) = cc given.there in
        rw (get_or-take g.nroots r.roots i (pos 0) m, ← s) given.means.edge

    -- and few enough
    roots_do_fit : roots_fit r.after.count roots ≡ true
    unfolding roots_fit
    roots_do_fit =
        let l = length-take g.nroots r.roots in
        let few = (load-says c σ g q).few_roots in
        rw (le-leb (length roots) root_limit (omega arith)) (roots-pass r.after _ root-edge)

    -- the variables' levels are a permutation of the store's levels
    order-permutes : is_order r.after.levels order ≡ true
    unfolding is_order
    order-permutes =
        let s = load-says c σ g q in
        let e = s.ids_counted ∙ sym s.permids_counted in
        let l = levels-by-permid g.nvars r.ids r.permids s.ids_are s.permids_are e in
        let v : r.after.levels ≡ g.nvars = gains.grows.levels ∙ empty-levels h.nvars slots_lent ∙ ap (λ x. x.nvars) (sym same-header) in
        rw (v, eq-eqb _ _ l.as_many)
        ((permids-allowed g.nvars _).1 (levels-permute g.nvars r.ids r.permids s.ids_are s.permids_are e l))

    -- An export of what was loaded is refused with 1 or 5.
    pub export-refuses : (p : Lent) (slots numbers out k : ℕ)
        → export_fault limits r.after roots order p slots numbers out ≡ suc k → (suc k ≡ 1) ⊎ (suc k ≡ 5)
    unfolding export_fault
    export-refuses p slots numbers out k e =
        let τ = r.after in
        parts-left (long_enough τ roots p slots numbers out) (names_fit τ roots p) k
        (rw (rules-keeps limits τ gains.rules, roots_do_fit, order-permutes) at e)
