-- Work that finds a store's nodes, and goes on doing so while more are made.
use mathlib.Core.Path.{◌≡◌, sym, ap, subst, ◌∙◌}
use mathlib.Core.Bool.{Bool, true}
use mathlib.Core.List.{List}
use Prim.Native.Nat.{ℕ, ◌≤◌}
use lib.ListN.{length}
use Rattle.codes.specs.Limits.{limits}
use Rattle.store.specs.Store.{Store}
use Rattle.store.specs.Keeps.{keeps, keeps-true}
use Rattle.unique_table.specs.Index.{Finds, width_for}
use Rattle.slots.specs.Most.{most_nodes}
use Rattle.slots.proofs.MostNodes.{most-all}
use Rattle.insertion.specs.Known.{KnownNodes}
use Rattle.insertion.proofs.Knowing.{known_start}

-- it is an index for as many nodes as the store can have, or none
pub known-lent : (σ : Store) (work : List ℕ) (most width : ℕ) → most ≡ most_nodes (length σ.level) → width ≡ width_for most (length work)
    → Finds (width_for (most_nodes (length σ.level)) (length work)) σ σ.count work → KnownNodes width σ work
known-lent σ work most width q w F =
    known_start most width σ work w (subst (λ v. Finds v σ σ.count work) (sym (w ∙ ap (λ m. width_for m (length work)) q)) F)
    (λ n p h. subst (λ m. n ≤ m) (sym q) (most-all _ n p h))

-- a store that keeps its rules has at most as many nodes as the index is made for, which then finds them
pub finds-most : (σ : Store) {b : Bool} → b ≡ keeps limits σ → b ≡ true → (most len : ℕ) (ix : List ℕ) → most ≡ most_nodes (length σ.level)
    → (b ≡ true → σ.count ≤ most → Finds (width_for most len) σ σ.count ix) → Finds (width_for (most_nodes (length σ.level)) len) σ σ.count ix
finds-most σ e p most len ix q f =
    let z = (keeps-true limits σ (sym e ∙ p)).sizes in
    subst (λ m. Finds (width_for m len) σ σ.count ix) q (f p (subst (λ m. σ.count ≤ m) (sym q) (most-all _ _ z.count_slots z.count_limit)))
