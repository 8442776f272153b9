-- The stages of a load, in their order: header; scratch and level list; nodes. One of them refuses, and the load is that refusal; or all
-- pass, and the load is what they leave.
use mathlib.Core.Path.{◌≡◌, refl, sym, ap, ◌∙◌}
use mathlib.Core.Bool.{true}
use mathlib.Core.List.{[]}
use Prim.Native.Nat.{ℕ, zero, suc, ◌≤◌}
use lib.Dec.{leb}
use borrow.Author.Tests.{leb-true, le-leb}
use Rattle.codes.specs.Limits.{Limits}
use Rattle.codes.proofs.Bytes.{both}
use Rattle.codes.specs.Faults.{first_fault}
use Rattle.codes.proofs.Faults.{first-none, rest-none}
use Rattle.codes.proofs.Refusals.{unless-none}
use Rattle.store.specs.Store.{Store}
use Rattle.header.specs.Header.{Header, HeaderAnswer, header, refusal}
use Rattle.level_list.specs.List.{list_fits}
use Rattle.imported.specs.Import as nodes
use Rattle.calls.specs.Load.{Load, refused_at, scratch_fault, list_fault, before_nodes, header_of, nodes_of, with_nodes, with_list, with_header, load_of}
use Rattle.calls.proofs.HeaderStands.{no_header, same-refusal}

-- scratch and level list are refused nothing where they are long enough and fit
module _ (c : Load) (σ : Store) (h : Header) where
  pub between_none : before_nodes c σ h ≡ 0
      → (h.nnodes ≤ c.lent.edges) × ((h.nnodes ≤ c.lent.seats) × (list_fits h.nsuppvars σ.levels c.list ≡ true))
  unfolding before_nodes scratch_fault list_fault
  between_none q =
      let w = both (leb h.nnodes c.lent.edges) (leb h.nnodes c.lent.seats) (unless-none _ 0 (first-none _ _ q)) in
      (leb-true _ _ w.0, (leb-true _ _ w.1, unless-none _ 1 (first-none _ [] (rest-none _ _ q))))

  pub none_between : h.nnodes ≤ c.lent.edges → h.nnodes ≤ c.lent.seats
      → list_fits h.nsuppvars σ.levels c.list ≡ true → before_nodes c σ h ≡ 0
  unfolding before_nodes scratch_fault list_fault first_fault
  none_between e s l = rw (le-leb h.nnodes c.lent.edges e, le-leb h.nnodes c.lent.seats s, l)

-- all stages pass
pub record Passes (m : Limits) (c : Load) (σ : Store) (h : Header) : Type 0 where
  pub header_read : (header_of m c σ).answer ≡ header h
  pub unrefused : before_nodes c σ h ≡ 0
  pub at : ℕ
  pub nodes_read : (nodes_of m c σ h).answer ≡ nodes.nodes at

-- one refusal is the other
refused-alike : (c : Load) (σ : Store) {n line k at : ℕ} → refusal k at ≡ refusal n line → refused_at c σ k at ≡ refused_at c σ n line
refused-alike c σ q = let s = same-refusal q in rw (s.0, s.1)

module _ (m : Limits) (c : Load) (σ : Store) where
  -- a refusal is that of one of the stages
  module _ (n line : ℕ) where
    nodes_refused : (h : Header) (r : nodes.Imported) (a : nodes.NodesAnswer) → (with_nodes m c σ h r a).answer ≡ refusal n line
        → with_nodes m c σ h r a ≡ refused_at c σ n line
    nodes_refused h r (nodes.refusal k at) q = refused-alike c σ q
    nodes_refused h r (nodes.nodes at) q = no_header (sym q)

    list_refused : (h : Header) (k : ℕ) → (with_list m c σ h k).answer ≡ refusal n line → with_list m c σ h k ≡ refused_at c σ n line
    list_refused h zero q = nodes_refused h (nodes_of m c σ h) (nodes_of m c σ h).answer q
    list_refused h (suc k) q = refused-alike c σ q

    header_refused : (a : HeaderAnswer) → (with_header m c σ a).answer ≡ refusal n line → with_header m c σ a ≡ refused_at c σ n line
    header_refused (header h) q = list_refused h (before_nodes c σ h) q
    header_refused (refusal k at) q = refused-alike c σ q

    pub load-refused : (load_of m c σ).answer ≡ refusal n line → load_of m c σ ≡ refused_at c σ n line
    unfolding load_of
    load-refused q = header_refused (header_of m c σ).answer q

  -- a header is the answer only where all stages pass
  module _ (h : Header) where
    nodes-pass : (g : Header) (r : nodes.Imported) (a : nodes.NodesAnswer) → (with_nodes m c σ g r a).answer ≡ header h
        → (at : ℕ) × (a ≡ nodes.nodes at)
    nodes-pass g r (nodes.refusal k at) q = no_header q
    nodes-pass g r (nodes.nodes at) q = (at, refl)

    list-passes : (g : Header) → (header_of m c σ).answer ≡ header g → (k : ℕ) → before_nodes c σ g ≡ k → (with_list m c σ g k).answer ≡ header h
        → Passes m c σ g
    list-passes g e zero b q =
        let w = nodes-pass g (nodes_of m c σ g) (nodes_of m c σ g).answer q in
        record { header_read = e; unrefused = b; at = w.0; nodes_read = w.1 }
    list-passes g e (suc k) b q = no_header q

    header-passes : (a : HeaderAnswer) → (header_of m c σ).answer ≡ a → (with_header m c σ a).answer ≡ header h → (g : Header) × Passes m c σ g
    header-passes (header g) e q = (g, list-passes g e (before_nodes c σ g) refl q)
    header-passes (refusal k at) e q = no_header q

    pub load-passes : (load_of m c σ).answer ≡ header h → (g : Header) × Passes m c σ g
    unfolding load_of
    load-passes q = header-passes (header_of m c σ).answer refl q

    -- and where they pass, this is the load
    pub passes-load : (p : Passes m c σ h) → load_of m c σ ≡ with_nodes m c σ h (nodes_of m c σ h) (nodes.nodes p.at)
    unfolding load_of
    passes-load p =
        ap (with_header m c σ) p.header_read
        ∙ ap (with_list m c σ h) p.unrefused
        ∙ ap (with_nodes m c σ h (nodes_of m c σ h)) p.nodes_read
