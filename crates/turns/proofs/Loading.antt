-- Loads under limits that allow more, in a store with the same nodes: where the first load is accepted, and the nodes that it leaves have a slot each in
-- the other store, the other gives the same header, lists and roots, and both stores have the same nodes again. Document 02, request 5: 'as if read into
-- the wide store from its start'.
use mathlib.Core.Path.{◌≡◌, refl, sym, ap, ap₂, subst, ◌∙◌}
use mathlib.Core.Bool.{true}
use mathlib.Core.List.{List}
use Prim.Native.Nat.{ℕ, ◌≤◌}
use native.Mathlib.Nat.{le_trans}
use lib.ListN.{length, replicate}
use lib.IntN.{ℤ, pos}
use Rattle.codes.specs.Limits.{Limits}
use Rattle.codes.specs.Lent.{laid}
use Rattle.header_lines.specs.Sweep.{Span}
use Rattle.header_checks.specs.WholeRules.{WholeRules}
use Rattle.header_checks.proofs.WholeRules.{whole-rules}
use Rattle.header.specs.Header as head
use Rattle.header.specs.Header.{Header, HeaderLoaded, header, table_of, lists_by}
use Rattle.level_list.specs.List.{list_fits}
use Rattle.store.specs.Store.{Store}
use Rattle.store.specs.Keeps.{rules-keeps}
use Rattle.store.proofs.Room.{Beside}
use Rattle.imported.specs.Import as nodes
use Rattle.imported.specs.Import.{Setup, lines_in, built_from, lines_answer, edges_of, roots_by, Imported, imported_by, import_of}
use Rattle.imported.proofs.Settling.{answer-all, all-answer}
use Rattle.calls.specs.Load.{Load, Loaded, setup_of, before_nodes, before_header, header_of, nodes_of, load_of}
use Rattle.calls.proofs.HeaderStands.{Sound, lists-answer, answer-stands, stands-answer}
use Rattle.calls.proofs.Passes.{Passes, between_none, none_between, passes-load}
use Rattle.calls.proofs.Accepted.{answered-passes}
use Rattle.widened.specs.OldLimits.{Wider}
use Rattle.turns.specs.Wide.{SameNodes}
use Rattle.turns.proofs.Wider.{same_beside}
use Rattle.turns.proofs.Making.{build-same}

-- the header as a whole: only the limit of `.nnodes` is a limit that may rise
whole-wider : {m w : Limits} {f : List ℕ} {t : List Span} → Wider m w → WholeRules m f t → WholeRules w f t
whole-wider W R = record {
  few_vars = R.few_vars;
  few_nodes = le_trans R.few_nodes W.nodes;
  few_support = R.few_support;
  ids_counted = R.ids_counted;
  permids_counted = R.permids_counted;
  auxids_counted = R.auxids_counted;
  ids = R.ids;
  permids = R.permids;
  ordered_counted = R.ordered_counted;
  supp_counted = R.supp_counted;
  varnames_counted = R.varnames_counted;
  varnames_ordered = R.varnames_ordered;
  varnames_supp = R.varnames_supp;
  ordered_supp = R.ordered_supp;
  roots_counted = R.roots_counted;
  roots = R.roots;
  rootnames_counted = R.rootnames_counted;
}

pub sound-wider : {m w : Limits} {f : List ℕ} {h : Header} → Wider m w → Sound m f h → Sound w f h
sound-wider {m} {w} {f} W s = record {
  next = s.next;
  lines = s.lines;
  ends = s.ends;
  whole = (whole-rules w f (table_of f)).1 (whole-wider W ((whole-rules m f (table_of f)).0 s.whole));
  is = s.is;
}

-- what a header leaves is told by its answer
header-left : (m : Limits) (c : Load) (σ : Store) (h : Header) → (header_of m c σ).answer ≡ header h → header_of m c σ ≡ lists_by c.file (header h)
unfolding header_of head.load_header
header-left m c σ h q =
    let a = head.after m (before_header m c σ) c.file in
    ap (lists_by c.file) (sym (lists-answer c.file a) ∙ q)

-- what reading the nodes leaves, where they are read
import-left : (m : Limits) (u : Setup) (σ : Store) (f : List ℕ) (at : ℕ) (ids : List ℤ) (next : ℕ) → (import_of m u σ f at ids).answer ≡ nodes.nodes next
    → import_of m u σ f at ids ≡ imported_by ids σ (built_from m u σ f at) (nodes.nodes next)
unfolding import_of
import-left m u σ f at ids next q = ap (imported_by ids σ (built_from m u σ f at)) q

-- what it leaves in the second store
record SameImport (m w : Limits) (τ : Store) (next : ℕ) (r s : Imported) : Type 0 where
  answer : s.answer ≡ nodes.nodes next
  roots : s.roots ≡ r.roots
  long : length s.after.level ≡ length τ.level
  beside : Beside m w 0 r.after s.after

module _ {m w : Limits} (W : Wider m w) where
  import-same : (u : Setup) (σ τ : Store) (f : List ℕ) (at : ℕ) (ids : List ℤ) (next : ℕ) → Beside m w 0 σ τ
      → (import_of m u σ f at ids).answer ≡ nodes.nodes next → (import_of m u σ f at ids).after.count ≤ length τ.level
      → SameImport m w τ next (import_of m u σ f at ids) (import_of w u τ f at ids)
  unfolding import_of lines_answer
  import-same u σ τ f at ids next B q h =
      let A = answer-all u f (lines_in u f at).end (built_from m u σ f at).answer next q in
      let k = import-left m u σ f at ids next q in
      let i : (built_from m u σ f at).after.count ≤ length τ.level = subst (λ (r : Imported). r.after.count ≤ length τ.level) k h in
      let T = build-same W u.list σ τ (lines_in u f at).lines B A.edges A.made i in
      let p = all-answer u f (lines_in u f at).end (built_from w u τ f at).answer next
      (record { edges = A.edges; made = T.answer; lines = A.lines; end = A.end }) in
      rw (k, import-left w u τ f at ids next p) (record {
        answer = refl;
        roots = ap (λ x. roots_by true (edges_of x) ids) (T.answer ∙ sym A.made);
        long = T.long;
        beside = T.beside;
      })

-- what a load leaves in its lists, with another store
abbrev pub on_store : Loaded → Store → Loaded
on_store r υ = record {
  answer = r.answer;
  after = υ;
  roots = r.roots;
  ids = r.ids;
  order = r.order;
  permids = r.permids;
  auxids = r.auxids;
  names = r.names;
  rootnames = r.rootnames;
}

-- What a load leaves in the second store: the same answer and lists, and the same nodes.
pub record SameLoad (m w : Limits) (c : Load) (σ τ : Store) : Type 0 where
  pub lists : load_of w c τ ≡ on_store (load_of m c σ) (load_of w c τ).after
  pub long : length (load_of w c τ).after.level ≡ length τ.level
  pub beside : Beside m w 0 (load_of m c σ).after (load_of w c τ).after

module _ {m w : Limits} (W : Wider m w) (c : Load) {σ τ : Store} (S : SameNodes m w σ τ) (h : Header) (p : Passes m c σ h) where
  -- the same header
  header-wide : (header_of w c τ).answer ≡ header h
  header-wide =
      let s = answer-stands m c σ h p.header_read in
      stands-answer w c τ h (record {
        vars_long = s.vars_long;
        roots_long = s.roots_long;
        kept = rules-keeps w τ S.wide_rules;
        short = le_trans s.short W.input;
        sound = sound-wider W s.sound;
      })

  header-same : header_of w c τ ≡ header_of m c σ
  header-same = header-left w c τ h header-wide ∙ sym (header-left m c σ h p.header_read)

  -- scratch and level list
  between-same : before_nodes c τ h ≡ 0
  between-same =
      let b = between_none c σ h p.unrefused in
      none_between c τ h b.0 b.1.0 (subst (λ (l : ℕ). list_fits h.nsuppvars l c.list ≡ true) (sym S.grows.levels) b.1.1)

  -- the nodes, by the levels and the roots of the first load
  nodes-wide : nodes_of w c τ h
      ≡ import_of w (setup_of c σ.levels h) τ c.file h.next (laid (header_of m c σ).roots (replicate c.lent.roots (pos 0)))
  nodes-wide = ap₂ (λ (l : ℕ) (r : HeaderLoaded). import_of w (setup_of c l h) τ c.file h.next (laid r.roots (replicate c.lent.roots (pos 0))))
      S.grows.levels header-same

  module _ (k : (load_of m c σ).after.count ≤ length τ.level) where
    nodes-same : SameImport m w τ p.at (nodes_of m c σ h) (nodes_of w c τ h)
    nodes-same =
        let i : (nodes_of m c σ h).after.count ≤ length τ.level = subst (λ (r : Loaded). r.after.count ≤ length τ.level) (passes-load m c σ h p) k in
        subst (SameImport m w τ p.at (nodes_of m c σ h)) (sym nodes-wide)
        (import-same W (setup_of c σ.levels h) σ τ c.file h.next _ p.at (same_beside S) p.nodes_read i)

    passes-wide : Passes w c τ h
    passes-wide = record { header_read = header-wide; unrefused = between-same; at = p.at; nodes_read = nodes-same.answer }

    load-wide : load_of w c τ ≡ on_store (load_of m c σ) (nodes_of w c τ h).after
    load-wide =
        passes-load w c τ h passes-wide
        ∙ ap₂ (λ (l : HeaderLoaded) (r : List ℤ). record {
          answer = header h;
          after = (nodes_of w c τ h).after;
          roots = r;
          ids = l.ids;
          order = l.order;
          permids = l.permids;
          auxids = l.auxids;
          names = l.names;
          rootnames = l.rootnames;
        }) header-same nodes-same.roots
        ∙ sym (ap (λ (r : Loaded). on_store r (nodes_of w c τ h).after) (passes-load m c σ h p))

    passed-same : SameLoad m w c σ τ
    passed-same =
        let e : (load_of w c τ).after ≡ (nodes_of w c τ h).after = ap (λ (r : Loaded). r.after) load-wide in
        let d : (load_of m c σ).after ≡ (nodes_of m c σ h).after = ap (λ (r : Loaded). r.after) (passes-load m c σ h p) in
        record {
          lists = load-wide ∙ ap (on_store (load_of m c σ)) (sym e);
          long = ap (λ (υ : Store). length υ.level) e ∙ nodes-same.long;
          beside = subst (λ (υ : Store). Beside m w 0 υ (load_of w c τ).after) (sym d)
              (subst (λ (υ : Store). Beside m w 0 (nodes_of m c σ h).after υ) (sym e) nodes-same.beside);
        }

-- A load that is accepted is accepted with the same answer, lists and roots.
pub load_same : {m w : Limits} → Wider m w → (c : Load) {σ τ : Store} → SameNodes m w σ τ → (h : Header) → (load_of m c σ).answer ≡ header h
    → (load_of m c σ).after.count ≤ length τ.level → SameLoad m w c σ τ
load_same {m} W c {σ} S h q k = passed-same W c S h (answered-passes m c σ h q) k
