-- The index goes on knowing every node while nodes are made.
use mathlib.Core.Path.{◌≡◌, refl}
use mathlib.Core.Bool.{Bool, true, false, cond}
use Prim.Native.Nat.{ℕ, ◌+◌, ◌≤◌, ◌<◌}
use native.Mathlib.Omega.{arith}
use mathlib.Core.List.{List}
use lib.ListN.{length, get_or, set, length-set}
use lib.Dec.{eqb}
use lib.IntN.{ℤ}
use borrow.Author.Tests.{eq-eqb, ne_eqb}
use Rattle.codes.specs.Limits.{limits, node_limit}
use Rattle.store.specs.Store.{Store}
use Rattle.store.specs.Rules.{Rules}
use Rattle.store.specs.Make.{find, added}
use Rattle.store.proofs.Chain.{added-agree}
use Rattle.store.proofs.Added.{added-holds, added-length}
use Rattle.unique_table.specs.Index.{Indexed, Sought, Finds, width_for}
use Rattle.unique_table.proofs.Widths.{width-roomy}
use Rattle.unique_table.proofs.More.{indexed-more}
use Rattle.unique_table.proofs.Seeking.{sought-find}
use Rattle.insertion.specs.Known.{KnownNodes, EndsAt, entered}

-- a node in the index, where there is one
pub entered_at : (width : ℕ) (ix : List ℕ) (at n : ℕ) → 1 ≤ width → entered width ix at n ≡ set ix at n
entered_at width ix at n w = rw (ne_eqb width 0 (λ q. omega arith))

pub entered-none : (width : ℕ) (ix : List ℕ) (at n : ℕ) → width ≡ 0 → entered width ix at n ≡ ix
entered-none width ix at n q = rw (eq-eqb width 0 q)

entered-long : (width : ℕ) (ix : List ℕ) (at n : ℕ) → length (entered width ix at n) ≡ length ix
entered-long width ix at n = go (eqb width 0)
  where
    go : (b : Bool) → length (cond b ix (set ix at n)) ≡ length ix
    go true = refl
    go false = length-set ix at n

-- a search of the index gives what the definition's search gives
pub known-find : (width : ℕ) (σ : Store) (ix : List ℕ) → 1 ≤ width → KnownNodes width σ ix → Rules limits σ → (l : ℕ) (t e : ℤ) (at : ℕ)
    → Sought width σ σ.count ix l t e at → get_or ix at 0 ≡ find σ l t e
known-find width σ ix w K R l t e at s = sought-find width σ ix (K.finds.indexed w) R.nodes l t e at s

module _ (width : ℕ) (σ : Store) (ix : List ℕ) (K : KnownNodes width σ ix) (R : Rules limits σ) (l : ℕ) (t e : ℤ) where
  -- a node that is made is put where its search ended
  indexed-put : (at : ℕ) → 1 ≤ width → EndsAt width σ ix l t e at → σ.count < length σ.level → σ.count < node_limit
      → Indexed width (added σ l t e) (σ.count + 1) (set ix at (σ.count + 1))
  indexed-put at w E h k =
      let A = added-agree limits σ l t e R.sizes h in
      indexed-more width σ (added σ l t e) σ.count ix (K.finds.indexed w) l t e at E.sought E.empty R.sizes.count_some
      (K.room w (σ.count + 1) (omega arith) (omega arith)) (record { level = A.level; then = A.then; els = A.els }) (added-holds limits σ l t e R.sizes h)

  pub known_more : (at : ℕ) → (1 ≤ width → EndsAt width σ ix l t e at) → σ.count < length σ.level → σ.count < node_limit → (τ : Store) → τ ≡ added σ l t e
      → KnownNodes width τ (entered width ix at (σ.count + 1))
  unfolding added
  known_more at E h k τ y =
      let same = added-length limits σ l t e R.sizes h in
      rw y (record {
        finds = record { indexed = λ w. rw (entered_at width ix at (σ.count + 1) w) (indexed-put at w (E w) h k) };
        room = λ w n p g. omega (arith, K.room w n (omega arith) g, entered-long width ix at (σ.count + 1));
      })

-- what the check of a store leaves in the work knows each node, and has room for all that may come
pub known_start : (most width : ℕ) (σ : Store) (ix : List ℕ) → width ≡ width_for most (length ix) → Finds width σ σ.count ix
    → ((n : ℕ) → n ≤ length σ.level → n ≤ node_limit → n ≤ most) → KnownNodes width σ ix
known_start most width σ ix q F r = record { finds = F; room = λ w n p h. (width-roomy most (length ix) width q).long w n (r n p h) }
