-- Demand 1, of every call on every store: 'On any refusal outputs are all zeros and the store is unchanged.' And: 'Scratch ends as zeros.'
use mathlib.Core.Path.{◌≡◌, refl, sym, ap}
use mathlib.Core.Bool.{Bool}
use mathlib.Core.List.{List}
use Prim.Native.Nat.{ℕ, zero, suc}
use lib.ListN.{replicate, length-replicate}
use lib.IntN.{ℤ, pos}
use Rattle.codes.specs.Answer.{Read, value, refused}
use Rattle.codes.specs.Limits.{Limits}
use Rattle.codes.specs.Lent.{laid}
use Rattle.store.specs.Store.{Store}
use Rattle.header.specs.Header as head
use Rattle.example_walk.specs.Example.{example_of, left_setting}
use Rattle.exported.specs.Export.{Export, export_by, export_fault_of, export_file_of, export_of}
use Rattle.joined.specs.declared.Op.{Op}
use Rattle.joined.specs.Roots.{join_roots}
use Rattle.joined.proofs.Roots.{join-refused}
use Rattle.calls.specs.Load.{Load, refused_at, parts_of, load_of}
use Rattle.calls.specs.Calls.{Call, load, evaluate, example, tip, export, join, opposite}
use Rattle.calls.specs.Outcome.{refusal, verdict_of, verdict_read, numbers, edges, Zeros, AllZeros, outputs_of, leaves}
use Rattle.calls.specs.Refusals.{NumberOf, RefusedFor}
use Rattle.calls.proofs.Passes.{load-refused}
use Rattle.calls.proofs.Numbers.{not-refused, refused-for, refusal-number}

-- a list of zeros holds zeros
zeros : (n : ℕ) → Zeros (numbers (replicate n 0))
zeros n = ap (λ k. replicate k 0) (sym (length-replicate n 0))

no_edges : (n : ℕ) → Zeros (edges (replicate n (pos 0)))
no_edges n = ap (λ k. replicate k (pos 0)) (sym (length-replicate n (pos 0)))

and-zeros : {P : Type 0} (n : ℕ) → P → Zeros (numbers (replicate n 0)) × P
and-zeros n w = (zeros n, w)

module _ (m : Limits) (c : Load) (σ : Store) where
  -- the lists of a refused load hold zeros
  refused-zeros : (n line : ℕ) → AllZeros (outputs_of (parts_of c.lent (refused_at c σ n line)))
  unfolding laid
  refused-zeros n line =
      let l = c.lent in
      and-zeros l.ids (and-zeros l.order (and-zeros l.permids (and-zeros l.auxids
      (and-zeros l.names (and-zeros l.lens (no_edges l.roots, and-zeros l.rootnames (and-zeros l.rootlens tt)))))))

  load-nothing : (n line : ℕ) → verdict_of (load_of m c σ).answer ≡ refusal n line
      → ((load_of m c σ).after ≡ σ) × AllZeros (outputs_of (parts_of c.lent (load_of m c σ)))
  load-nothing n line q = go (load_of m c σ).answer refl q
    where
      go : (a : head.HeaderAnswer) → (load_of m c σ).answer ≡ a → verdict_of a ≡ refusal n line
          → ((load_of m c σ).after ≡ σ) × AllZeros (outputs_of (parts_of c.lent (load_of m c σ)))
      go (head.header h) e q = not-refused q
      go (head.refusal k at) e q = rw (load-refused m c σ k at e) (refl, refused-zeros k at)

-- the output of a refused export holds zeros
export-nothing : (m : Limits) (x : Export) (σ : Store) (n line : ℕ) → verdict_read (export_of m x σ).answer ≡ refusal n line
    → Zeros (numbers (export_of m x σ).out)
export-nothing m x σ n line q = go (export_fault_of m x σ) q
  where
    go : (k : ℕ) → verdict_read (export_by k (export_file_of x σ) x.out).answer ≡ refusal n line
        → Zeros (numbers (export_by k (export_file_of x σ) x.out).out)
    go zero q = not-refused q
    go (suc k) q = zeros x.out

-- a refused join leaves the store as it was: no node that it made on the way stays
join-nothing : (m : Limits) (o : Op) (a b : ℤ) (σ : Store) (n line : ℕ) → verdict_read (join_roots m o σ a b).answer ≡ refusal n line
    → (join_roots m o σ a b).after ≡ σ
join-nothing m o a b σ n line q = go (join_roots m o σ a b).answer refl q
  where
    go : (r : Read ℤ) → (join_roots m o σ a b).answer ≡ r → verdict_read r ≡ refusal n line → (join_roots m o σ a b).after ≡ σ
    go (value x) e q = not-refused q
    go (refused k) e q = ap (λ r. r.after) (join-refused m o σ a b k e)

-- a refused example leaves zeros in the setting
example-nothing : (m : Limits) (e : ℤ) (wanted : Bool) (long : ℕ) (σ : Store) (n line : ℕ) → verdict_read (example_of m σ e wanted long) ≡ refusal n line
    → Zeros (numbers (left_setting long (example_of m σ e wanted long)))
example-nothing m e wanted long σ n line q = go (example_of m σ e wanted long) q
  where
    go : (r : Read (List Bool)) → verdict_read r ≡ refusal n line → Zeros (numbers (left_setting long r))
    go (value s) q = not-refused q
    go (refused k) q = zeros long

-- Demand 1. The call and the store are arbitrary: nothing is asked of the store, of the file or of any lent list.
pub demand-1 : (m : Limits) (c : Call) (σ : Store) (n line : ℕ) → (leaves m c σ).verdict ≡ refusal n line
    → ((leaves m c σ).after ≡ σ) × AllZeros (leaves m c σ).outputs
demand-1 m (load c) σ n line q = load-nothing m c σ n line q
demand-1 m (evaluate e s) σ n line q = (refl, tt)
demand-1 m (example e wanted long) σ n line q = (refl, (example-nothing m e wanted long σ n line q, tt))
demand-1 m (tip e s) σ n line q = (refl, tt)
demand-1 m (export x) σ n line q = (refl, (export-nothing m x σ n line q, tt))
demand-1 m (join o a b) σ n line q = (join-nothing m o a b σ n line q, tt)
demand-1 m (opposite a) σ n line q = (refl, tt)

-- 'A bad one gets its number from document 01': a call is refused exactly for a rule that is broken, of a load the first in document 01's
-- order, of a join the first of 3, 4 and 40, of an example the first of 1, 3, 4 and 41 and of a tipping point the first of 3, 4 and 42, with one of its
-- numbers, which is never 0, and at the line that it says.
pub demand-1-number : (m : Limits) (c : Call) (σ : Store) (n line : ℕ) → (leaves m c σ).verdict ≡ refusal n line
    → RefusedFor m c σ n line × NumberOf c n
demand-1-number m c σ n line q = let w = refused-for m c σ n line q in (w, refusal-number m c σ n line w)

-- 'Scratch ends as zeros': refused or not.
pub scratch-zeros : (m : Limits) (c : Call) (σ : Store) → AllZeros (leaves m c σ).scratch
scratch-zeros m (load c) σ = (no_edges c.lent.edges, (zeros c.lent.seats, tt))
scratch-zeros m (evaluate e s) σ = tt
scratch-zeros m (example e wanted long) σ = tt
scratch-zeros m (tip e s) σ = tt
scratch-zeros m (export x) σ = (zeros x.slots, (zeros x.numbers, tt))
scratch-zeros m (join o a b) σ = tt
scratch-zeros m (opposite a) σ = tt
