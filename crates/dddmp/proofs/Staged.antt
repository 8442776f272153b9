-- The stages one after the other are the load: what the functions of `stages` promise, put together, is `load_of`.
use mathlib.Core.Path.{◌≡◌, refl, sym, ap, ◌∙◌}
use mathlib.Core.Bool.{Bool, true, false}
use mathlib.Core.List.{List, [], ◌∷◌, map}
use Prim.Native.Nat.{ℕ, zero, suc}
use lib.ListN.{length, replicate}
use lib.ListN.{length-replicate}
use lib.IntN.{ℤ, pos}
use Rattle.codes.specs.Limits.{limits}
use Rattle.codes.specs.Lent.{laid}
use Rattle.codes.proofs.Lent.{length-laid}
use Rattle.read_text.specs.Text.{Place}
use Rattle.header_values.specs.Values.{pad}
use Rattle.codes.specs.Faults.{first_fault}
use Rattle.codes.proofs.Faults.{last-check}
use Rattle.store.specs.Store.{Store}
use Rattle.header.specs.Header as head
use Rattle.header.specs.Header.{Header, HeaderAnswer, header, refusal}
use Rattle.imported.specs.Build.{Built}
use Rattle.imported.specs.Import as nodes
use Rattle.calls.specs.Load.{Load, Loaded, refused_at, scratch_fault, list_fault, before_nodes, header_of, setup_for, nodes_of, with_nodes, with_list, with_header, load_of}
use Rattle.stages.specs.Stages.{unless_refused, scratched, listed, Noded, noded, nodes_after, is_refusal, cleared_if}

-- what a load leaves of the nodes
abbrev pub nodes_left : Loaded → Noded
nodes_left r = record { answer = r.answer; after = r.after; roots = r.roots }

-- the level list after the scratch: the first of their refusals
list-after : (h : Header) (k levels : ℕ) (list : List ℕ)
    → listed levels list (unless_refused h k) ≡ unless_refused h (first_fault (k ∷ list_fault h.nsuppvars levels list ∷ []))
unfolding first_fault
list-after h zero levels list = ap (unless_refused h) (last-check (list_fault h.nsuppvars levels list))
list-after h (suc k) levels list = refl

-- a list with every entry taken for 0
zeros_of : (l : List ℤ) → map (λ r. pos 0) l ≡ replicate (length l) (pos 0)
zeros_of [] = refl
zeros_of (x ∷ l) = ap (λ r. pos 0 ∷ r) (zeros_of l)

module _ (c : Load) (σ : Store) where
  -- the numbers of the roots, as the header leaves them
  abbrev pub numbers_read : List ℤ
  numbers_read = laid (header_of limits c σ).roots (replicate c.lent.roots (pos 0))

  -- there are as many entries as the list was lent
  numbers_long : length numbers_read ≡ c.lent.roots
  numbers_long = length-laid (header_of limits c σ).roots (replicate c.lent.roots (pos 0)) ∙ length-replicate c.lent.roots (pos 0)

  -- the answer after scratch and level list
  abbrev pub ready : HeaderAnswer → HeaderAnswer
  ready a = listed σ.levels c.list (scratched c.lent.edges c.lent.seats a)

  -- of a header
  pub ready-header : (h : Header) → ready (header h) ≡ unless_refused h (before_nodes c σ h)
  unfolding before_nodes
  ready-header h = list-after h (scratch_fault h.nnodes c.lent.edges c.lent.seats) σ.levels c.list

  -- zeros of the numbers are zeros of the lent list
  numbers-zero : replicate c.lent.roots (pos 0) ≡ replicate (length numbers_read) (pos 0)
  numbers-zero = ap (λ n. replicate n (pos 0)) (sym numbers_long)

  -- a refusal leaves zeros and the store
  left-refused : (n line : ℕ) → nodes_left (refused_at c σ n line) ≡ nodes_after (refusal n line) σ c.file c.list numbers_read
  unfolding nodes_after
  left-refused n line = ap (λ r. record { answer = refusal n line; after = σ; roots = r }) numbers-zero

  -- nodes that are read or refused
  left-imported : (h : Header) (b : Built) (a : nodes.NodesAnswer)
      → nodes_left (with_nodes limits c σ h (nodes.imported_by numbers_read σ b a) a) ≡ noded h (nodes.imported_by numbers_read σ b a)
  left-imported h b (nodes.nodes at) = refl
  left-imported h b (nodes.refusal k line) =
      ap (λ r. record { answer = refusal k line; after = σ; roots = r }) (numbers-zero ∙ sym (zeros_of numbers_read))

  left-nodes : (h : Header)
      → nodes_left (with_nodes limits c σ h (nodes_of limits c σ h) (nodes_of limits c σ h).answer) ≡ noded h (nodes_of limits c σ h)
  unfolding nodes.import_of
  left-nodes h =
      let u = setup_for c.list σ.levels h in
      left-imported h (nodes.built_from limits u σ c.file h.next) (nodes.with_end c.file (nodes.lines_answer limits u σ c.file h.next))

  -- after scratch and level list
  left-checked : (h : Header) (k : ℕ)
      → nodes_left (with_list limits c σ h k) ≡ nodes_after (unless_refused h k) σ c.file c.list numbers_read
  unfolding nodes_after
  left-checked h zero = left-nodes h
  left-checked h (suc k) = left-refused (suc k) 0

  -- after the header
  left-header : (a : HeaderAnswer) → nodes_left (with_header limits c σ a) ≡ nodes_after (ready a) σ c.file c.list numbers_read
  left-header (header h) =
      left-checked h (before_nodes c σ h) ∙ ap (λ a. nodes_after a σ c.file c.list numbers_read) (sym (ready-header h))
  left-header (refusal n line) = left-refused n line

  -- The nodes' stage leaves the answer, the store and the roots of the load.
  pub left-load : nodes_left (load_of limits c σ) ≡ nodes_after (ready (header_of limits c σ).answer) σ c.file c.list numbers_read
  unfolding load_of
  left-load = left-header (header_of limits c σ).answer

-- the entries of the lists that the last stage may clear
pub record Entries : Type 0 where
  pub ids : List ℕ
  pub order : List ℕ
  pub permids : List ℕ
  pub auxids : List ℕ
  pub names : List Place
  pub rootnames : List Place

abbrev pub load_entries : Loaded → Entries
load_entries r = record {
  ids = r.ids;
  order = r.order;
  permids = r.permids;
  auxids = r.auxids;
  names = r.names;
  rootnames = r.rootnames;
}

abbrev pub head_entries : head.HeaderLoaded → Entries
head_entries r = record {
  ids = r.ids;
  order = r.order;
  permids = r.permids;
  auxids = r.auxids;
  names = r.names;
  rootnames = r.rootnames;
}

abbrev pub no_entries : Entries
no_entries = record { ids = []; order = []; permids = []; auxids = []; names = []; rootnames = [] }

-- none on a refusal
abbrev unless_refusal : Bool → Entries → Entries
unless_refusal true e = no_entries
unless_refusal false e = e

module _ (c : Load) (σ : Store) where
  abbrev Cleared : Loaded → Type 0
  Cleared r = load_entries r ≡ unless_refusal (is_refusal r.answer) (head_entries (header_of limits c σ))

  cleared-nodes : (h : Header) (r : nodes.Imported) (a : nodes.NodesAnswer) → Cleared (with_nodes limits c σ h r a)
  cleared-nodes h r (nodes.nodes at) = refl
  cleared-nodes h r (nodes.refusal k line) = refl

  cleared-checked : (h : Header) (k : ℕ) → Cleared (with_list limits c σ h k)
  cleared-checked h zero = cleared-nodes h (nodes_of limits c σ h) (nodes_of limits c σ h).answer
  cleared-checked h (suc k) = refl

  cleared-header : (a : HeaderAnswer) → Cleared (with_header limits c σ a)
  cleared-header (header h) = cleared-checked h (before_nodes c σ h)
  cleared-header (refusal n line) = refl

  -- the entries of a load are those of its header, or none on a refusal
  cleared-load : Cleared (load_of limits c σ)
  unfolding load_of
  cleared-load = cleared-header (header_of limits c σ).answer

  -- the entries of a list, where none are left on a refusal, over zeros: the list as the header left it, or zeros
  over_zeros : (n : ℕ) (e : List ℕ) (b : Bool) (l : List ℕ) → (b ≡ true → l ≡ []) → (b ≡ false → l ≡ e) → cleared_if b (pad n e) ≡ pad n l
  unfolding cleared_if laid
  over_zeros n e true l t f =
      rw (t refl) (ap (λ k. replicate k 0) (length-laid e (replicate n 0) ∙ length-replicate n 0))
  over_zeros n e false l t f = rw (f refl) refl

  -- The last stage leaves in each list what the load says.
  pub cleared-list : (n : ℕ) (g : Entries → List ℕ) → g no_entries ≡ []
      → cleared_if (is_refusal (load_of limits c σ).answer) (pad n (g (head_entries (header_of limits c σ))))
      ≡ pad n (g (load_entries (load_of limits c σ)))
  cleared-list n g z =
      over_zeros n (g (head_entries (header_of limits c σ))) (is_refusal (load_of limits c σ).answer) (g (load_entries (load_of limits c σ)))
      (λ q. ap g cleared-load ∙ ap (λ b. g (unless_refusal b (head_entries (header_of limits c σ)))) q ∙ z)
      (λ q. ap g cleared-load ∙ ap (λ b. g (unless_refusal b (head_entries (header_of limits c σ)))) q)
