-- Laws of a node's children: which of them is the first without a mark.
use mathlib.Core.Path.{◌≡◌}
use mathlib.Core.List.{List, [], ◌∷◌}
use Prim.Native.Nat.{ℕ, ◌-◌, ◌≤◌, ◌<◌}
use native.Mathlib.Omega.{arith}
use native.Mathlib.Decide.{ℕ_discrete}
use borrow.Author.Tests.{eq-eqb, ne_eqb}
use lib.ListN.{get_or}
use lib.IntN.{nat_abs}
use Rattle.std.proofs.Common.{Some, None}
use Rattle.store.specs.Store.{Store, then_at, else_at}
use Rattle.reached.specs.Meet.{Descends, Looks, children_of, first_unmarked}
use Rattle.reached.proofs.Members.{Among, Each, each_none, each-cons}

-- the terminal has no children
pub children-last : (σ : Store) (n : ℕ) → n ≡ 1 → children_of σ n ≡ []
unfolding children_of
children-last σ n e = rw (eq-eqb n 1 e)

-- any other node has two
pub children-inner : (σ : Store) (n : ℕ) → (n ≡ 1 → ⊥) → children_of σ n ≡ nat_abs (then_at σ n) ∷ nat_abs (else_at σ n) ∷ []
unfolding children_of
children-inner σ n e = rw (ne_eqb n 1 e)

-- a number from 1 on that is lower than n
abbrev pub Lower : ℕ → ℕ → Type 0
Lower n k = (1 ≤ k) × (k < n)

-- Where the children of the nodes up to a count are lower numbers, never 0, each child of a node is.
pub children-low : (σ : Store) (count : ℕ) → ((n : ℕ) → 2 ≤ n → n ≤ count → Descends σ n) → (n : ℕ) → Among count n → Each (Lower n) (children_of σ n)
children-low σ count descends n a = go (ℕ_discrete n 1)
  where
    go : Dec (n ≡ 1) → Each (Lower n) (children_of σ n)
    go (yes e) = rw (children-last σ n e) (each_none (Lower n))
    go (no e) =
        let d = descends n (omega (arith, e)) a.1 in
        let els = each-cons (Lower n) (nat_abs (else_at σ n)) [] (d.else_some, d.else_low) (each_none (Lower n)) in
        rw (children-inner σ n e) (each-cons (Lower n) (nat_abs (then_at σ n)) _ (d.then_some, d.then_low) els)

-- A child of node n can have a mark.
module _ {σ : Store} {many n : ℕ} (l : Looks σ many n) (e : n ≡ 1 → ⊥) {k : ℕ} where
  pub then-reach : k ≡ nat_abs (then_at σ n) → Among many k
  then-reach q = let d = l.descends (omega (arith, l.some, e)) in let m = l.mark_there in (omega arith, omega arith)

  pub else-reach : k ≡ nat_abs (else_at σ n) → Among many k
  else-reach q = let d = l.descends (omega (arith, l.some, e)) in let m = l.mark_there in (omega arith, omega arith)

-- The children of node n, and their marks.
module _ (σ : Store) (marks : List ℕ) (n : ℕ) where
  -- the terminal has none
  pub child-last : n ≡ 1 → None ≡ first_unmarked marks (children_of σ n)
  unfolding first_unmarked
  child-last e = rw (children-last σ n e)

  -- Any other node has a then.
  module _ (e : n ≡ 1 → ⊥) {t : ℕ} (p : t ≡ nat_abs (then_at σ n)) where
    -- it is the first where it has no mark
    pub child-then : get_or marks (t - 1) 0 ≡ 0 → Some t ≡ first_unmarked marks (children_of σ n)
    unfolding first_unmarked
    child-then z = rw (children-inner σ n e, ← p, eq-eqb _ 0 z)

    -- Where it has one the else comes.
    module _ (z : get_or marks (t - 1) 0 ≡ 0 → ⊥) {k : ℕ} (q : k ≡ nat_abs (else_at σ n)) where
      pub child-else : get_or marks (k - 1) 0 ≡ 0 → Some k ≡ first_unmarked marks (children_of σ n)
      unfolding first_unmarked
      child-else y = rw (children-inner σ n e, ← p, ← q, ne_eqb _ 0 z, eq-eqb _ 0 y)

      pub child-none : (get_or marks (k - 1) 0 ≡ 0 → ⊥) → None ≡ first_unmarked marks (children_of σ n)
      unfolding first_unmarked
      child-none y = rw (children-inner σ n e, ← p, ← q, ne_eqb _ 0 z, ne_eqb _ 0 y)
