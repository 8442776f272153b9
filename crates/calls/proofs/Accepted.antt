-- Demand 2, first part: a load is accepted exactly where document 01's conditions hold. Each condition is that of one stage.
use mathlib.Core.Path.{◌≡◌, refl, sym, ap, subst, ◌∙◌}
use mathlib.Core.List.{List}
use mathlib.Core.Bool.{true}
use mathlib.Core.Logic.{◌↔◌}
use Prim.Native.Nat.{ℕ}
use Rattle.store.specs.Store.{Store}
use Rattle.store.specs.Rules.{Rules}
use Rattle.store.specs.Keeps.{keeps-true, rules-keeps}
use Rattle.codes.specs.Limits.{Limits, var_limit, root_limit}
use Rattle.header_lines.specs.Sweep.{lines_of}
use Rattle.header_lines.proofs.HeaderEnd.{sound-lines}
use Rattle.header_values.specs.Values.{nsuppvars_in}
use Rattle.header_checks.proofs.WholeRules.{whole-rules}
use Rattle.header.specs.Header as head
use Rattle.header.specs.Header.{Header, HeaderAnswer, header, refusal, header_in, table_of, lists_in, lists_by}
use Rattle.header.specs.HeaderSaid.{HeaderSaid}
use Rattle.header.proofs.Lengths.{lengths-enough}
use Rattle.header.proofs.HeaderSays.{header-said, lists-said, one-said}
use Rattle.imported.specs.Build.{LevelsOf}
use Rattle.imported.specs.Import.{nodes}
use Rattle.imported.specs.Acceptance as accept
use Rattle.level_list.specs.List.{list_fits}
use Rattle.level_list.proofs.LevelLists.{list-levels, list-allowed}
use Rattle.imported.proofs.Acceptance as import-accepted
use Rattle.calls.specs.Load.{Load, variable_lists, root_lists, setup_of, before_header, header_of, nodes_of, load_of}
use Rattle.calls.specs.Acceptance.{Accepts, LoadedLists}
use Rattle.calls.proofs.HeaderStands.{Sound, Stands, no_header, one-header, answer-stands, stands-answer}
use Rattle.calls.proofs.Passes.{between_none, none_between, Passes, load-passes, passes-load}

-- the header, by what the file says
abbrev said : Load → ℕ → ℕ → Header
said c next lines = header_in c.file (table_of c.file) next lines

module _ (m : Limits) (c : Load) (σ : Store) where
  -- the store of a header that stands keeps the rules
  pub stands-rules : (h : Header) → Stands m c σ h → Rules m σ
  stands-rules h s = keeps-true m σ s.kept

  -- the nodes are read exactly where they are accepted
  nodes-accept : (h : Header) → Rules m σ → LevelsOf σ c.list
      → ((at : ℕ) × ((nodes_of m c σ h).answer ≡ nodes at)) ↔ accept.NodesAccepted m (setup_of c σ.levels h) σ c.file h.next
  nodes-accept h R W = import-accepted.accepted (setup_of c σ.levels h) σ c.file h.next _ R W

  -- the header that an accepted file says
  abbrev pub said_by : Accepts m c σ → Header
  said_by A = said c A.next A.lines

  -- it is sound
  pub sound-of : (A : Accepts m c σ) → Sound m c.file (said_by A)
  sound-of A = record {
    next = A.next;
    lines = A.lines;
    ends = (sound-lines c.file (lines_of c.file) A.next A.lines).1 A.header_lines;
    whole = (whole-rules m c.file (table_of c.file)).1 A.whole;
    is = refl;
  }

  -- its level list fits
  pub list-fits : (A : Accepts m c σ) → list_fits (nsuppvars_in c.file (table_of c.file)) σ.levels c.list ≡ true
  list-fits A = (list-allowed _ _ c.list).1 (A.levels_counted, A.levels_allowed)

  -- where all stages pass the conditions hold
  passes-accepts : (h : Header) → Passes m c σ h → Accepts m c σ
  passes-accepts h p =
      let S = answer-stands m c σ h p.header_read in
      go S (subst (Passes m c σ) S.sound.is p)
    where
      go : (S : Stands m c σ h) → Passes m c σ (said c S.sound.next S.sound.lines) → Accepts m c σ
      go S p =
          let R = stands-rules h S in
          let b = between_none c σ _ p.unrefused in
          record {
            variables_long = (lengths-enough var_limit (variable_lists c.lent)).0 S.vars_long;
            roots_long = (lengths-enough root_limit (root_lists c.lent)).0 S.roots_long;
            rules = R;
            short = S.short;
            next = S.sound.next;
            lines = S.sound.lines;
            header_lines = (sound-lines c.file (lines_of c.file) _ _).0 S.sound.ends;
            whole = (whole-rules m c.file (table_of c.file)).0 S.sound.whole;
            edges_long = b.0;
            seats_long = b.1.0;
            levels_counted = ((list-allowed _ _ c.list).0 b.1.1).0;
            levels_allowed = ((list-allowed _ _ c.list).0 b.1.1).1;
            node_lines = (nodes-accept (said c S.sound.next S.sound.lines) R (list-levels _ _ c.list b.1.1)).0 (p.at, p.nodes_read);
          }

  -- and the other way
  pub accepts-passes : (A : Accepts m c σ) → Passes m c σ (said_by A)
  accepts-passes A =
      let w = (nodes-accept (said_by A) A.rules (list-levels _ _ c.list (list-fits A))).1 A.node_lines in
      record {
        header_read = stands-answer m c σ (said_by A) (record {
          vars_long = (lengths-enough var_limit (variable_lists c.lent)).1 A.variables_long;
          roots_long = (lengths-enough root_limit (root_lists c.lent)).1 A.roots_long;
          kept = rules-keeps m σ A.rules;
          short = A.short;
          sound = sound-of A;
        });
        unrefused = none_between c σ (said_by A) A.edges_long A.seats_long (list-fits A);
        at = w.0;
        nodes_read = w.1;
      }

  -- where the conditions hold the answer is the header that the file says
  pub accepted-header : (A : Accepts m c σ) → (load_of m c σ).answer ≡ header (said_by A)
  accepted-header A = ap (λ r. r.answer) (passes-load m c σ (said_by A) (accepts-passes A))

  -- and there it is what the file's lines say
  said-header : (A : Accepts m c σ) → HeaderSaid c.file (said_by A)
  said-header A = header-said c.file A.next A.lines A.header_lines

  -- where the answer is a header the conditions hold
  pub answered : (h : Header) → (load_of m c σ).answer ≡ header h → Accepts m c σ
  answered h q = let w = load-passes m c σ h q in passes-accepts w.0 w.1

  -- then all stages pass with it
  pub answered-passes : (h : Header) → (load_of m c σ).answer ≡ header h → Passes m c σ h
  answered-passes h q = let A = answered h q in subst (Passes m c σ) (one-header (sym (accepted-header A) ∙ q)) (accepts-passes A)

  -- A load is accepted with a header exactly where the file's lines say this header and the conditions hold.
  pub accepted : (h : Header) → ((load_of m c σ).answer ≡ header h) ↔ (HeaderSaid c.file h × Accepts m c σ)
  accepted h = (
    λ q. let A = answered h q in (subst (HeaderSaid c.file) (one-header (sym (accepted-header A) ∙ q)) (said-header A), A),
    λ w. let A = w.1 in accepted-header A ∙ ap header (sym (one-said c.file A.next A.lines A.header_lines h w.0)),
  )

  -- where the header of a load is read its lists are those of the file
  lists-by : (f : List ℕ) (a : HeaderAnswer) (h : Header) → (lists_by f a).answer ≡ header h → lists_by f a ≡ lists_in f (table_of f) a
  lists-by f (header g) h q = refl
  lists-by f (refusal n line) h q = no_header q

  -- The lists of an accepted load are what the file's lines say.
  pub accepted-lists : (h : Header) → (load_of m c σ).answer ≡ header h → LoadedLists c.file h (load_of m c σ)
  unfolding header_of head.load_header
  accepted-lists h q =
      let A = answered h q in
      let p = accepts-passes A in
      let e = one-header (sym (accepted-header A) ∙ q) in
      let a = head.after m (before_header m c σ) c.file in
      let l = lists-by c.file a (said_by A) p.header_read in
      subst (λ (g : Header). LoadedLists c.file g (load_of m c σ)) e
      (rw (passes-load m c σ (said_by A) p, l) (lists-said c.file A.next A.lines A.header_lines A.whole a))
