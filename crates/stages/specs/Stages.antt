-- The stages of a load, as the functions that carry them out promise them; proofs/Staged.antt shows that one after the other they are
-- `load_of`. Document 01: 'load gives 1 (lists), 3, 19 for the input's length, header, 1 (scratch), 2, nodes, 39.'
use Rattle.std.specs.Prelude.{ℕ, zero, suc, Bool, true, false, List, [], ◌∷◌, length, replicate, ℤ, pos}
use Rattle.codes.specs.Faults.{first_fault}
use Rattle.store.specs.Store.{Store}
use Rattle.codes.specs.Limits.{limits}
use Rattle.store.specs.Rules.{Rules}
use Rattle.unique_table.specs.Index.{Finds, width_for}
use Rattle.slots.specs.Most.{most_nodes}
use Rattle.header.specs.Header.{Header, HeaderAnswer, header, refusal}
use Rattle.imported.specs.Build.{LevelsOf}
use Rattle.imported.specs.Import as nodes
use Rattle.calls.specs.Load.{store_fault, scratch_fault, list_fault, setup_for}

-- '3 the store breaks its rules', after what was found before, 0 of nothing
unfoldable pub store_after : ℕ → Store → ℕ
store_after found σ = first_fault (found ∷ store_fault limits σ ∷ [])

-- a header, where nothing is refused of it
abbrev pub unless_refused : Header → ℕ → HeaderAnswer
unless_refused h zero = header h
unless_refused h (suc k) = refusal (suc k) 0

-- '1 (scratch)': the lengths of the two scratch lists, after the answer so far
abbrev pub scratched : ℕ → ℕ → HeaderAnswer → HeaderAnswer
scratched edges seats (header h) = unless_refused h (scratch_fault h.nnodes edges seats)
scratched edges seats (refusal n line) = refusal n line

-- '2': the level list, after the answer so far
abbrev pub listed : ℕ → List ℕ → HeaderAnswer → HeaderAnswer
listed levels list (header h) = unless_refused h (list_fault h.nsuppvars levels list)
listed levels list (refusal n line) = refusal n line

-- what the nodes lean on, where there is a header: the store's rules, the level list, and limits that were judged before
abbrev pub Readable : HeaderAnswer → Store → List ℕ → ℕ → ℕ → Type 0
Readable (header h) σ list edges seats =
    Rules limits σ × (LevelsOf σ list × nodes.Bounded (setup_for list σ.levels h) edges seats)
Readable (refusal n line) σ list edges seats = Unit

-- and what finds the store's nodes while more are made: an index in the work that is lent, where that is long enough for as many as there are
-- slots for
abbrev pub Searchable : HeaderAnswer → Store → List ℕ → Type 0
Searchable (header h) σ work = Finds (width_for (most_nodes (length σ.level)) (length work)) σ σ.count work
Searchable (refusal n line) σ work = Unit

-- the header stands where its nodes are read
abbrev pub answer_with_nodes : Header → nodes.NodesAnswer → HeaderAnswer
answer_with_nodes h (nodes.nodes at) = header h
answer_with_nodes h (nodes.refusal k line) = refusal k line

-- what the nodes leave: the answer, the store, and the roots in place of their numbers
pub record Noded : Type 0 where
  pub answer : HeaderAnswer
  pub after : Store
  pub roots : List ℤ

abbrev pub noded : Header → nodes.Imported → Noded
noded h r = record { answer = answer_with_nodes h r.answer; after = r.after; roots = r.roots }

-- 'nodes, 39', after the answer so far
unfoldable pub nodes_after : HeaderAnswer → Store → List ℕ → List ℕ → List ℤ → Noded
nodes_after (header h) σ f list ids = noded h (nodes.import_of limits (setup_for list σ.levels h) σ f h.next ids)
nodes_after (refusal n line) σ f list ids =
    record { answer = refusal n line; after = σ; roots = replicate (length ids) (pos 0) }

-- is it a refusal?
abbrev pub is_refusal : HeaderAnswer → Bool
is_refusal (header h) = false
is_refusal (refusal n line) = true

-- the end: 'On any refusal outputs are all zeros'
unfoldable pub cleared_if : Bool → List ℕ → List ℕ
cleared_if true l = replicate (length l) 0
cleared_if false l = l
