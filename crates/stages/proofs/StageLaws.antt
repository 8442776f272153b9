-- Laws of the stages of a load, case by case, as the functions that carry them out find them.
use mathlib.Core.Path.{◌≡◌, refl}
use mathlib.Core.Bool.{Bool, true, false, not}
use mathlib.Core.List.{List}
use Prim.Native.Nat.{ℕ, ◌≤◌, ◌<◌}
use Rattle.std.specs.Prelude.{Ok, Err}
use lib.ListN.{length, replicate}
use borrow.Author.Tests.{le-leb, lt-leb, not-true, not-false}
use Rattle.codes.specs.Faults.{first_fault}
use Rattle.codes.proofs.Faults.{refuses}
use Rattle.store.specs.Store.{Store}
use Rattle.codes.specs.Limits.{limits}
use Rattle.store.specs.Keeps.{keeps}
use Rattle.header.specs.Header.{header, refusal}
use Rattle.header.specs.Kinds.{Loaded, of_header, of_loaded}
use Rattle.header.specs.declared.DumpHeader.{DumpHeader}
use Rattle.codes.specs.declared.refusal.Fault.{Fault}
use Rattle.level_list.specs.List.{list_fits}
use Rattle.calls.specs.Load.{scratch_fault, list_fault}
use Rattle.stages.specs.Stages.{store_after, scratched, listed, cleared_if}

module _ (found : ℕ) (σ : Store) where
  -- what was found before stays
  pub store_found : (found ≡ 0 → ⊥) → found ≡ store_after found σ
  unfolding store_after
  store_found h = refuses _ refl h

  module _ (z : found ≡ 0) {b : Bool} (e : b ≡ keeps limits σ) where
    -- a store that keeps its rules has no fault
    pub keeps-none : b ≡ true → 0 ≡ store_after found σ
    unfolding store_after first_fault
    keeps-none p = rw (z, ← e, p)

    -- one that breaks them has fault 3
    pub breaks-some : b ≡ false → 3 ≡ store_after found σ
    unfolding store_after first_fault
    breaks-some p = rw (z, ← e, p)

module _ (edges seats : ℕ) (r : Loaded) where
  module _ (h : DumpHeader) (q : r ≡ Ok h) where
    -- scratch for edges that is too short
    pub few-edges : edges < h.nnodes → refusal 1 0 ≡ scratched edges seats (of_loaded r)
    unfolding scratch_fault
    few-edges p = rw (q, lt-leb h.nnodes edges p)

    module _ (e : h.nnodes ≤ edges) where
      -- scratch for seats that is
      pub few-seats : seats < h.nnodes → refusal 1 0 ≡ scratched edges seats (of_loaded r)
      unfolding scratch_fault
      few-seats p = rw (q, le-leb h.nnodes edges e, lt-leb h.nnodes seats p)

      -- both are long enough
      pub enough-scratch : h.nnodes ≤ seats → header (of_header h) ≡ scratched edges seats (of_loaded r)
      unfolding scratch_fault
      enough-scratch p = rw (q, le-leb h.nnodes edges e, le-leb h.nnodes seats p)

  -- a refusal goes on
  pub scratch-handed : (f : Fault) → r ≡ Err f → refusal f.number f.line ≡ scratched edges seats (of_loaded r)
  scratch-handed f q = rw q

module _ (levels : ℕ) (list : List ℕ) (r : Loaded) where
  module _ (h : DumpHeader) (q : r ≡ Ok h) {b : Bool} (e : b ≡ list_fits h.nsuppvars levels list) where
    -- a level list that doesn't fit
    pub list_refused : not b ≡ true → refusal 2 0 ≡ listed levels list (of_loaded r)
    unfolding list_fault
    list_refused p = rw (q, ← e, not-true b p)

    -- one that does
    pub list-passed : not b ≡ false → header (of_header h) ≡ listed levels list (of_loaded r)
    unfolding list_fault
    list-passed p = rw (q, ← e, not-false b p)

  -- a refusal goes on
  pub list-handed : (f : Fault) → r ≡ Err f → refusal f.number f.line ≡ listed levels list (of_loaded r)
  list-handed f q = rw q

module _ {b : Bool} (l : List ℕ) where
  -- a list of a refused load is cleared
  pub cleared : {m : List ℕ} → b ≡ true → m ≡ replicate (length l) 0 → m ≡ cleared_if b l
  unfolding cleared_if
  cleared p e = rw (p, e)

  -- one of a load that goes on is kept
  pub not-cleared : b ≡ false → l ≡ cleared_if b l
  unfolding cleared_if
  not-cleared p = rw p

-- what is cleared by one mark is cleared by its equal
pub as-told : {b d : Bool} {m : List ℕ} (l : List ℕ) → b ≡ d → m ≡ cleared_if b l → m ≡ cleared_if d l
as-told l e h = rw (← e) h
