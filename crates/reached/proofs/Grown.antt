-- The nodes that roots lead to are nodes of the store, and a walk from them is the same in a store that has gained nodes.
use mathlib.Core.Path.{◌≡◌, refl, sym, ap, ◌∙◌}
use mathlib.Core.List.{List, [], ◌∷◌}
use Prim.Native.Nat.{ℕ, zero, suc, ◌≤◌, ◌<◌}
use native.Mathlib.Omega.{arith}
use native.Mathlib.Decide.{ℕ_discrete}
use lib.ListN.{length, get_or}
use lib.IntN.{ℤ, pos, nat_abs}
use Rattle.store.specs.Store.{Store, then_at, else_at}
use Rattle.store.specs.Rules.{Nodes}
use Rattle.store.specs.Growth.{EdgeOf, Grows}
use Rattle.store.proofs.Meaning.{then_edge, else_edge}
use Rattle.store.specs.Firsts.{first_ones}
use Rattle.reached.specs.Reached.{Reached, root, then, els}
use Rattle.reached.specs.Walk.{walk_by, walk, first_met}
use Rattle.reached.proofs.Walking.{walk-last, walk-inner}

-- an edge's node as an edge
node_of : {σ : Store} (e : ℤ) → EdgeOf σ e → EdgeOf σ (pos (nat_abs e))
node_of e E = record { some = E.some; there = E.there }

-- edges of a store that keeps the rules of nodes lead to its nodes
module _ {σ : Store} {roots : List ℤ} (N : Nodes σ) (there : (i : ℕ) → i < length roots → EdgeOf σ (get_or roots i (pos 0))) where
  pub reached-node : {n : ℕ} → Reached σ roots n → EdgeOf σ (pos n)
  reached-node (root i h) = node_of (get_or roots i (pos 0)) (there i h)
  reached-node (then {n} h r) = node_of (then_at σ n) (then_edge σ N n h (reached-node r).there)
  reached-node (els {n} h r) = node_of (else_at σ n) (else_edge σ N n h (reached-node r).there)

module _ {σ τ : Store} (N : Nodes σ) (G : Grows σ τ) where
  -- from an old node a walk passes the same ones
  by-grown : (f n : ℕ) → 1 ≤ n → n ≤ σ.count → walk_by f τ n ≡ walk_by f σ n
  unfolding walk_by
  by-grown zero n s t = refl
  by-grown (suc f) n s t = go (by-grown f) (ℕ_discrete n 1)
    where
      go : ((k : ℕ) → 1 ≤ k → k ≤ σ.count → walk_by f τ k ≡ walk_by f σ k) → Dec (n ≡ 1) → walk_by (suc f) τ n ≡ walk_by (suc f) σ n
      go under (yes e) = walk-last τ f n e ∙ sym (walk-last σ f n e)
      go under (no e) =
          let two : 2 ≤ n = omega (arith, e) in
          let d = N.fits n two t in
          let a = under (nat_abs (then_at σ n)) d.then_some (omega (arith, d.then_low)) in
          let b = under (nat_abs (else_at σ n)) d.else_some (omega (arith, d.else_low)) in
          walk-inner τ f n e ∙ rw (G.then n two t, G.els n two t, a, b) (sym (walk-inner σ f n e))

  -- and so from old roots
  walk-grown : (roots : List ℤ) → ((i : ℕ) → i < length roots → EdgeOf σ (get_or roots i (pos 0))) → walk τ roots ≡ walk σ roots
  unfolding walk
  walk-grown [] there = refl
  walk-grown (r ∷ roots) there =
      let E = there 0 (omega arith) in
      rw (by-grown (nat_abs r) (nat_abs r) E.some E.there, walk-grown roots (λ i h. there (suc i) (omega arith)))

  pub first-grown : (roots : List ℤ) → ((i : ℕ) → i < length roots → EdgeOf σ (get_or roots i (pos 0))) → first_met τ roots ≡ first_met σ roots
  unfolding first_met
  first-grown roots there = ap first_ones (walk-grown roots there)
