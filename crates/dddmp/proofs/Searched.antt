-- The nodes are read only where nothing was found before the header; then the work finds the store's nodes.
use mathlib.Core.Path.{◌≡◌, sym, ap, subst, ◌∙◌}
use mathlib.Core.List.{List}
use Prim.Native.Nat.{ℕ, zero, suc}
use lib.ListN.{length}
use Rattle.codes.specs.Limits.{limits}
use Rattle.codes.proofs.Faults.{first-none}
use Rattle.store.specs.Store.{Store}
use Rattle.unique_table.specs.Index.{Finds, width_for}
use Rattle.slots.specs.Most.{most_nodes}
use Rattle.header.specs.Header as head
use Rattle.header.specs.Header.{HeaderAnswer, header, refusal}
use Rattle.stages.specs.Stages.{scratched, listed, Searchable}

module _ (σ : Store) (len : ℕ) (work : List ℕ) (k : length work ≡ len) where
  -- the work, by the length that it was lent with
  abbrev FindsNodes : Type 0
  FindsNodes = Finds (width_for (most_nodes (length σ.level)) len) σ σ.count work

  -- what finds the nodes serves whatever the answer is
  all-searchable : FindsNodes → (a : HeaderAnswer) → Searchable a σ work
  all-searchable F (header h) = subst (λ n. Finds (width_for (most_nodes (length σ.level)) n) σ σ.count work) (sym k) F
  all-searchable F (refusal n line) = tt

  -- the store, then the input's length; and the answers after the header, after scratch, and after the level list
  pub ready-searchable : (file list : List ℕ) (levels edges seats found before : ℕ) → before ≡ head.length_after limits found (length file)
      → (found ≡ 0 → FindsNodes) → (a m b : HeaderAnswer) → a ≡ (head.load_header limits before file).answer → m ≡ scratched edges seats a
      → b ≡ listed levels list m → Searchable b σ work
  unfolding head.length_after head.load_header
  ready-searchable file list levels edges seats found zero e F a m b q t r = all-searchable (F (first-none found _ (sym e))) b
  ready-searchable file list levels edges seats found (suc n) e F a m b q t r =
      subst (λ x. Searchable x σ work) (sym (r ∙ ap (listed levels list) (t ∙ ap (scratched edges seats) q))) tt
