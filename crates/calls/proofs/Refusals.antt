-- A load is refused with a number and a line exactly where the rule of that refusal is broken, and none before it.
use mathlib.Core.Path.{◌≡◌, refl, sym, ap, subst, ◌∙◌}
use mathlib.Core.Logic.{◌↔◌}
use mathlib.Core.Bool.{Bool, true, false, ◌&&◌}
use mathlib.Core.List.{List, [], ◌∷◌}
use Prim.Native.Nat.{ℕ, zero, suc, ◌≤◌}
use native.Mathlib.Omega.{arith}
use lib.Dec.{leb, ltb}
use lib.ListN.{length}
use borrow.Author.Tests.{leb-true, le-leb, ltb-true, ltb-false, lt-ltb, le-ltb}
use Rattle.codes.specs.Limits.{Limits, var_limit, root_limit}
use Rattle.codes.specs.Faults.{first_fault, when, unless}
use Rattle.codes.proofs.Bytes.{both}
use Rattle.header_lines.specs.Sweep.{SweepEnd, at_nodes, refused_at, lines_of, end_of}
use Rattle.header_lines.specs.SoundLines.{SoundLines, RefusedLines}
use Rattle.header_lines.proofs.HeaderEnd.{sound-lines, refused-lines}
use Rattle.header_checks.specs.Whole.{whole_fault}
use Rattle.header_checks.proofs.WholeRules.{whole-rules}
use Rattle.store.specs.Store.{Store}
use Rattle.store.specs.Keeps.{keeps, keeps-true, rules-keeps}
use Rattle.header.specs.Header as head
use Rattle.header.specs.Header.{Header, HeaderAnswer, header, refusal, header_in, table_of, settled, judged_header, read_of, after, at_least}
use Rattle.header.proofs.Lengths.{lengths-enough}
use Rattle.header.proofs.HeaderSays.{header-said, one-said}
use Rattle.level_list.specs.List.{list_fits}
use Rattle.level_list.proofs.LevelLists.{list-levels, list-allowed}
use Rattle.imported.specs.Import as nodes
use Rattle.imported.specs.Refused.{NodesRefused}
use Rattle.imported.proofs.NodesRefused.{refused-nodes}
use Rattle.calls.specs.Load.{Load, variable_lists, root_lists, before_header, header_of, scratch_fault, list_fault, before_nodes, setup_of, nodes_of, with_nodes, with_list, with_header, load_of}
use Rattle.calls.specs.Refusals.{LongLists, Opened, HeaderRead, LongScratch, ListAllowed, LoadRefused, lists_short, store_broken, input_long, line_refused, whole_refused, scratch_short, list_refused, nodes_refused}
use Rattle.calls.proofs.HeaderStands.{no_header, same-refusal, answer-stands, stands-answer, lists-answer}
use Rattle.calls.proofs.Passes.{none_between}

-- a test fails where what it tests doesn't hold
fails-unless : (b : Bool) {P : Type 0} → (b ≡ true → P) → (P → ⊥) → b ≡ false
fails-unless true f h = absurd (h (f refl))
fails-unless false f h = refl

-- and what it tests doesn't hold where it fails
unless-fails-so : (b : Bool) {P : Type 0} → (P → b ≡ true) → b ≡ false → P → ⊥
unless-fails-so b f h p = let q = f p in let z : ◌≡◌ {A = Bool} true false = sym q ∙ h in apart z
  where
    apart : ◌≡◌ {A = Bool} true false → ⊥
    apart z = let y : ◌≡◌ {A = ℕ} 0 1 = cc in omega arith

module _ (m : Limits) (c : Load) (σ : Store) where
  abbrev f : List ℕ
  f = c.file

  -- the tests of the lent lists
  abbrev lists-test : Bool
  lists-test = at_least var_limit (variable_lists c.lent) && at_least root_limit (root_lists c.lent)

  lists-long : lists-test ≡ true → LongLists c.lent
  lists-long q =
      let w = both (at_least var_limit (variable_lists c.lent)) (at_least root_limit (root_lists c.lent)) q in
      record { variables = (lengths-enough var_limit _).0 w.0; roots = (lengths-enough root_limit _).0 w.1 }

  long-lists : LongLists c.lent → lists-test ≡ true
  long-lists L = rw ((lengths-enough var_limit (variable_lists c.lent)).1 L.variables) ((lengths-enough root_limit (root_lists c.lent)).1 L.roots)

  -- what is refused before the header, by its three tests
  abbrev opening : Bool → Bool → ℕ → ℕ
  opening lists kept n = first_fault (unless lists 1 ∷ unless kept 3 ∷ when (ltb m.input n) 19 ∷ [])

  opening-is : before_header m c σ ≡ opening lists-test (keeps m σ) (length f)
  unfolding before_header head.lists_fault head.length_fault
  opening-is = refl

  -- nothing is
  opened-none : Opened m c σ → before_header m c σ ≡ 0
  unfolding first_fault
  opened-none O = opening-is ∙ rw (long-lists O.lists, rules-keeps m σ O.rules, le-ltb m.input (length f) O.short)

  -- what it means that nothing is, or something
  abbrev Opens : ℕ → Type 0
  Opens zero = Opened m c σ
  Opens (suc k) = LoadRefused m c σ (suc k) 0

  opens : Opens (before_header m c σ)
  unfolding first_fault
  opens = subst Opens (sym opening-is) (go lists-test (keeps m σ) (ltb m.input (length f)) refl refl refl)
    where
      go : (l k b : Bool) → lists-test ≡ l → keeps m σ ≡ k → ltb m.input (length f) ≡ b
          → Opens (first_fault (unless l 1 ∷ unless k 3 ∷ when b 19 ∷ []))
      go false k b p q r = lists_short (unless-fails-so lists-test long-lists p)
      go true false b p q r = store_broken (lists-long p) (unless-fails-so (keeps m σ) (rules-keeps m σ) q)
      go true true true p q r = input_long (lists-long p) (keeps-true m σ q) (ltb-true m.input (length f) r)
      go true true false p q r =
          record { lists = lists-long p; rules = keeps-true m σ q; short = ltb-false m.input (length f) r }

  -- a header that is the answer was read by the rules
  header_read : (h : Header) → (header_of m c σ).answer ≡ header h → HeaderRead m c σ h
  header_read h q =
      let S = answer-stands m c σ h q in
      let sound = (sound-lines f (lines_of f) _ _).0 S.sound.ends in
      let read : HeaderRead m c σ (header_in f (table_of f) S.sound.next S.sound.lines) = record {
        opened = record {
          lists = record { variables = (lengths-enough var_limit _).0 S.vars_long; roots = (lengths-enough root_limit _).0 S.roots_long };
          rules = keeps-true m σ S.kept;
          short = S.short;
        };
        sound = sound;
        whole = (whole-rules m f (table_of f)).0 S.sound.whole;
        said = header-said f _ _ sound;
      } in
      subst (HeaderRead m c σ) (sym S.sound.is) read

  -- and one that was read so is the answer
  read-header : (h : Header) → HeaderRead m c σ h → (header_of m c σ).answer ≡ header h
  read-header h H =
      stands-answer m c σ h (record {
        vars_long = (lengths-enough var_limit _).1 H.opened.lists.variables;
        roots_long = (lengths-enough root_limit _).1 H.opened.lists.roots;
        kept = rules-keeps m σ H.opened.rules;
        short = H.opened.short;
        sound = record {
          next = h.next;
          lines = h.lines;
          ends = (sound-lines f (lines_of f) h.next h.lines).1 H.sound;
          whole = (whole-rules m f (table_of f)).1 H.whole;
          is = one-said f h.next h.lines H.sound h H.said;
        };
      })

  -- the answer of the header alone
  head-answer : (header_of m c σ).answer ≡ after m (before_header m c σ) f
  unfolding header_of head.load_header
  head-answer = lists-answer f (after m (before_header m c σ) f)

  -- a refusal of the header is the load's
  refused-head : {n line : ℕ} → (header_of m c σ).answer ≡ refusal n line → (load_of m c σ).answer ≡ refusal n line
  unfolding load_of
  refused-head q = ap (λ a. (with_header m c σ a).answer) q

  -- a header leaves it to scratch, level list and nodes
  after-head : {h : Header} → (header_of m c σ).answer ≡ header h → (load_of m c σ).answer ≡ (with_list m c σ h (before_nodes c σ h)).answer
  unfolding load_of
  after-head q = ap (λ a. (with_header m c σ a).answer) q

  -- Of the lines and of the header as a whole,
  module _ (O : Opened m c σ) where
    lines-refuse : {n line : ℕ} → RefusedLines f (lines_of f) n line → (load_of m c σ).answer ≡ refusal n line
    unfolding read_of
    lines-refuse {n} {line} w =
        refused-head (head-answer ∙ ap (λ k. after m k f) (opened-none O) ∙ ap (judged_header m f) ((refused-lines f (lines_of f) n line).1 w))

    whole-refuses : {n next lines : ℕ} → SoundLines f (lines_of f) next lines → whole_fault m f (table_of f) ≡ n → 1 ≤ n
        → (load_of m c σ).answer ≡ refusal n 0
    unfolding read_of
    whole-refuses {n} {next} {lines} w q k =
        refused-head
        (head-answer ∙ ap (λ k. after m k f) (opened-none O)
        ∙ ap (judged_header m f) ((sound-lines f (lines_of f) next lines).1 w) ∙ ap (settled f (table_of f) next lines) q ∙ some-fault n k)
      where
        some-fault : (n : ℕ) → 1 ≤ n → settled f (table_of f) next lines n ≡ refusal n 0
        some-fault zero k = absurd (omega arith)
        some-fault (suc n) k = refl

    -- what they are refused for
    whole-why : (next lines k n line : ℕ) → end_of f (lines_of f) ≡ at_nodes next lines → whole_fault m f (table_of f) ≡ k
        → settled f (table_of f) next lines k ≡ refusal n line → LoadRefused m c σ n line
    whole-why next lines zero n line e q r = no_header (sym r)
    whole-why next lines (suc k) n line e q r =
        let s = same-refusal r in
        rw (sym s.0, sym s.1) (whole_refused O ((sound-lines f (lines_of f) next lines).0 e) q (omega arith))

    end-why : (a : SweepEnd) (n line : ℕ) → end_of f (lines_of f) ≡ a → judged_header m f a ≡ refusal n line → LoadRefused m c σ n line
    end-why (at_nodes next lines) n line e r = whole-why next lines (whole_fault m f (table_of f)) n line e refl r
    end-why (refused_at k at) n line e r =
        let s = same-refusal r in
        rw (sym s.0, sym s.1) (line_refused O ((refused-lines f (lines_of f) k at).0 e))

  head-why : (n line : ℕ) → (header_of m c σ).answer ≡ refusal n line → LoadRefused m c σ n line
  unfolding read_of
  head-why n line q = go (before_header m c σ) opens (sym head-answer ∙ q)
    where
      go : (k : ℕ) → Opens k → after m k f ≡ refusal n line → LoadRefused m c σ n line
      go zero O r = end-why O (end_of f (lines_of f)) n line refl r
      go (suc k) w r = let s = same-refusal r in rw (sym s.0, sym s.1) w

  -- Of scratch, level list and nodes, after a header that was read.
  module _ (h : Header) (H : HeaderRead m c σ h) where
    abbrev scratch-test : Bool
    scratch-test = leb h.nnodes c.lent.edges && leb h.nnodes c.lent.seats

    abbrev list-test : Bool
    list-test = list_fits h.nsuppvars σ.levels c.list

    long-scratch : LongScratch c h → scratch-test ≡ true
    long-scratch L = rw (le-leb h.nnodes c.lent.edges L.edges) (le-leb h.nnodes c.lent.seats L.seats)

    scratch-long : scratch-test ≡ true → LongScratch c h
    scratch-long q =
        let w = both (leb h.nnodes c.lent.edges) (leb h.nnodes c.lent.seats) q in
        record { edges = leb-true _ _ w.0; seats = leb-true _ _ w.1 }

    allowed-list : ListAllowed c σ h → list-test ≡ true
    allowed-list L = (list-allowed h.nsuppvars σ.levels c.list).1 (L.counted, L.levels)

    list-is-allowed : list-test ≡ true → ListAllowed c σ h
    list-is-allowed q = let w = (list-allowed h.nsuppvars σ.levels c.list).0 q in record { counted = w.0; levels = w.1 }

    between_is : before_nodes c σ h ≡ first_fault (unless scratch-test 1 ∷ unless list-test 2 ∷ [])
    unfolding before_nodes scratch_fault list_fault
    between_is = refl

    -- what the nodes are refused with
    nodes-why : (n line : ℕ) → LongScratch c h → ListAllowed c σ h → (a : nodes.NodesAnswer) → (nodes_of m c σ h).answer ≡ a
        → (with_nodes m c σ h (nodes_of m c σ h) a).answer ≡ refusal n line → LoadRefused m c σ n line
    nodes-why n line S L (nodes.nodes at) e q = no_header (sym q)
    nodes-why n line S L (nodes.refusal k at) e q =
        let s = same-refusal q in
        let R = H.opened.rules in
        let W = list-levels _ _ c.list (allowed-list L) in
        rw (sym s.0, sym s.1)
        (nodes_refused H S L ((refused-nodes (setup_of c σ.levels h) σ f h.next _ R W k at).0 e))

    nodes-refuse : {n line : ℕ} → LongScratch c h → ListAllowed c σ h → NodesRefused m (setup_of c σ.levels h) σ f h.next n line
        → (load_of m c σ).answer ≡ refusal n line
    nodes-refuse {n} {line} S L w =
        let R = H.opened.rules in
        let W = list-levels _ _ c.list (allowed-list L) in
        after-head (read-header h H)
        ∙ ap (λ k. (with_list m c σ h k).answer) (none_between c σ h S.edges S.seats (allowed-list L))
        ∙ ap (λ a. (with_nodes m c σ h (nodes_of m c σ h) a).answer) ((refused-nodes (setup_of c σ.levels h) σ f h.next _ R W n line).1 w)

    -- what is refused after the header
    list-why : (n line : ℕ) → (with_list m c σ h (before_nodes c σ h)).answer ≡ refusal n line → LoadRefused m c σ n line
    unfolding first_fault
    list-why n line q = go scratch-test list-test refl refl (subst (λ (k : ℕ). (with_list m c σ h k).answer ≡ refusal n line) between_is q)
      where
        go : (s l : Bool) → scratch-test ≡ s → list-test ≡ l
            → (with_list m c σ h (first_fault (unless s 1 ∷ unless l 2 ∷ []))).answer ≡ refusal n line → LoadRefused m c σ n line
        go false l x y q = let s = same-refusal q in rw (sym s.0, sym s.1) (scratch_short H (unless-fails-so scratch-test long-scratch x))
        go true false x y q =
            let s = same-refusal q in
            rw (sym s.0, sym s.1) (list_refused H (scratch-long x) (unless-fails-so list-test allowed-list y))
        go true true x y q = nodes-why n line (scratch-long x) (list-is-allowed y) (nodes_of m c σ h).answer refl q

    scratch-refuses : (LongScratch c h → ⊥) → (load_of m c σ).answer ≡ refusal 1 0
    unfolding first_fault
    scratch-refuses w =
        let q : before_nodes c σ h ≡ 1 = between_is ∙ rw (fails-unless scratch-test scratch-long w) in
        after-head (read-header h H) ∙ ap (λ k. (with_list m c σ h k).answer) q

    list-refuses : LongScratch c h → (ListAllowed c σ h → ⊥) → (load_of m c σ).answer ≡ refusal 2 0
    unfolding first_fault
    list-refuses S w =
        let q : before_nodes c σ h ≡ 2 = between_is ∙ rw (long-scratch S, fails-unless list-test list-is-allowed w) in
        after-head (read-header h H) ∙ ap (λ k. (with_list m c σ h k).answer) q

  -- a refusal found before the header
  found-refuses : {k : ℕ} → before_header m c σ ≡ suc k → (load_of m c σ).answer ≡ refusal (suc k) 0
  found-refuses q = refused-head (head-answer ∙ ap (λ n. after m n f) q)

  -- what a load is refused for
  load-why : (n line : ℕ) → (load_of m c σ).answer ≡ refusal n line → LoadRefused m c σ n line
  load-why n line q = go (header_of m c σ).answer refl
    where
      go : (a : HeaderAnswer) → (header_of m c σ).answer ≡ a → LoadRefused m c σ n line
      go (header h) e = list-why h (header_read h e) n line (sym (after-head e) ∙ q)
      go (refusal k at) e = let s = same-refusal (sym (refused-head e) ∙ q) in rw (sym s.0, sym s.1) (head-why k at e)

  -- and that it is refused so
  why-load : {n line : ℕ} → LoadRefused m c σ n line → (load_of m c σ).answer ≡ refusal n line
  unfolding first_fault
  why-load (lists_short w) = found-refuses (opening-is ∙ rw (fails-unless lists-test lists-long w))
  why-load (store_broken L w) = found-refuses (opening-is ∙ rw (long-lists L, fails-unless (keeps m σ) (keeps-true m σ) w))
  why-load (input_long L R w) = found-refuses (opening-is ∙ rw (long-lists L, rules-keeps m σ R, lt-ltb m.input (length f) w))
  why-load (line_refused O w) = lines-refuse O w
  why-load (whole_refused O s q k) = whole-refuses O s q k
  why-load (scratch_short {h} H w) = scratch-refuses h H w
  why-load (list_refused {h} H S w) = list-refuses h H S w
  why-load (nodes_refused {h} H S L w) = nodes-refuse h H S L w

  -- A load is refused with a number, at a line, exactly so.
  pub refused-exactly : (n line : ℕ) → ((load_of m c σ).answer ≡ refusal n line) ↔ LoadRefused m c σ n line
  refused-exactly n line = (load-why n line, λ w. why-load w)
