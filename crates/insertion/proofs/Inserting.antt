-- A node looked up, and found or made by what the search gave.
use mathlib.Core.Path.{◌≡◌, refl, sym, ap, ◌∙◌}
use mathlib.Core.Bool.{Bool, true, false}
use mathlib.Core.List.{List}
use Prim.Native.Nat.{ℕ, zero, suc, ◌+◌, ◌≤◌}
use native.Mathlib.Omega.{arith}
use lib.ListN.{get_or}
use lib.IntN.{ℤ, pos}
use mir.Val.{to_z, of_z}
use Rattle.std.specs.Prelude.{Some, None, Ok, Err}
use Rattle.std.specs.Option.{ok_or}
use Rattle.codes.specs.Limits.{limits}
use Rattle.edges.specs.Width.{edge_width}
use Rattle.edges.specs.Edge.{IsEdge}
use Rattle.store.specs.Store.{Store}
use Rattle.store.specs.Rules.{Rules}
use Rattle.store.specs.Make.{find, added, room_for}
use Rattle.store.proofs.Makes.{room-true}
use Rattle.store.proofs.Added.{added-count}
use Rattle.unique_table.specs.Index.{Sought}
use Rattle.chains.specs.Found.{node_found}
use Rattle.slots.proofs.Placed.{insert-found, insert-full, insert-new, found-edge, new-edge, node-answer}
use Rattle.insertion.specs.Known.{KnownNodes, entered}
use Rattle.insertion.specs.Promises.{LookUpPromise, InsertPromise}
use Rattle.insertion.proofs.Knowing.{known-find, known_more}

module _ (σ : Store) (ix : List ℕ) (width l : ℕ) (t e : ℤ) where
  -- a search along the chain, where there is no index
  pub looked-along : width ≡ 0 → LookUpPromise σ ix width l t e (ok_or (node_found (find σ l t e)) 0)
  unfolding node_found
  looked-along z = go (find σ l t e) refl
    where
      go : (n : ℕ) → n ≡ find σ l t e → LookUpPromise σ ix width l t e (ok_or (node_found n) 0)
      go zero q = (q, λ w. absurd (omega arith))
      go (suc n) q = (omega arith, q)

  module _ (R : Rules limits σ) (K : KnownNodes width σ ix) where
    -- a search of the index
    module _ (w : 1 ≤ width) (at : ℕ) (s : Sought width σ σ.count ix l t e at) where
      pub looked-found : (get_or ix at 0 ≡ 0 → ⊥) → LookUpPromise σ ix width l t e (Ok (get_or ix at 0))
      looked-found f = (omega arith, known-find width σ ix w K R l t e at s)

      pub looked-none : get_or ix at 0 ≡ 0 → LookUpPromise σ ix width l t e (Err at)
      looked-none q = (sym q ∙ known-find width σ ix w K R l t e at s, λ w. record { sought = s; empty = q })

    -- a node that was found
    module _ (n : ℕ) (p : LookUpPromise σ ix width l t e (Ok n)) where
      pub edge-found : IsEdge (pos n)
      edge-found = found-edge σ l t e n R.sizes p.1 (λ z. omega (arith, p.0))

      pub inserted-found : (a : ℤ) → a ≡ pos n → InsertPromise σ σ ix width l t e (Some (to_z edge_width (of_z edge_width a)))
      inserted-found a q =
          let r = insert-found limits σ l t e n p.1 (λ z. omega (arith, p.0)) _ (node-answer a n q edge-found) in
          record { answer = r.0; store = r.1; known = K }

    -- none, and there is no room for one
    module _ (at : ℕ) (p : LookUpPromise σ ix width l t e (Err at)) (x : Bool) (h : x ≡ room_for limits σ) where
      pub inserted-none : x ≡ false → InsertPromise σ σ ix width l t e None
      inserted-none y = let r = insert-full limits σ l t e 0 p.0 refl x h y in record { answer = r.0; store = r.1; known = K }

      -- or there is, and it is made and put where the search ended
      module _ (y : x ≡ true) (τ : Store) (q : τ ≡ added σ l t e) where
        next-number : τ.count ≡ σ.count + 1
        next-number = ap (λ υ. υ.count) q ∙ added-count limits σ l t e R.sizes (room-true limits σ (sym h ∙ y)).0

        pub edge-made : IsEdge (pos τ.count)
        edge-made = rw next-number (new-edge σ x h y)

        pub inserted-new : (a : ℤ) → a ≡ pos τ.count → (jx : List ℕ) → jx ≡ entered width ix at τ.count
            → InsertPromise σ τ jx width l t e (Some (to_z edge_width (of_z edge_width a)))
        inserted-new a k jx j =
            let m = room-true limits σ (sym h ∙ y) in
            let r = insert-new limits σ l t e 0 p.0 refl x h y _ (node-answer a (σ.count + 1) (k ∙ ap pos next-number) (new-edge σ x h y)) τ q in
            record {
              answer = r.0;
              store = r.1;
              known = rw (j ∙ ap (entered width ix at) next-number) (known_more width σ ix K R l t e at p.1 m.0 m.1 τ q);
            }
