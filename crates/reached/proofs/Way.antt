-- The way back of a walk: the mark of a node is the node that it was met from.
use mathlib.Core.Path.{◌≡◌, refl, ◌∙◌}
use mathlib.Core.List.{List, [], ◌++◌}
use Prim.Native.Nat.{ℕ, ◌-◌, ◌<◌}
use native.Mathlib.Omega.{arith}
use lib.ListN.{get_or, set}
use lib.Seq.{get_or-set_other}
use Rattle.store.specs.Store.{Store}
use Rattle.reached.specs.Meet.{children_of}
use Rattle.reached.proofs.Members.{Among}

-- The way back from a node, and the nodes that are to be met on it.
pub data Way (σ : Store) (count : ℕ) (marks : List ℕ) : ℕ → List ℕ → Type 0 where
  -- it ends with the node whose mark is its own number
  ends : {n : ℕ} → Among count n → get_or marks (n - 1) 0 ≡ n → Way σ count marks n []
  -- any other's is the node that it was met from, whose children come next
  back : {n p : ℕ} {rest : List ℕ} → Among count n → n < p → get_or marks (n - 1) 0 ≡ p → Way σ count marks p rest
      → Way σ count marks n (children_of σ p ++ rest)

-- one step of it, to a higher number
pub record WayUp (σ : Store) (count : ℕ) (marks : List ℕ) (n : ℕ) (rest : List ℕ) : Type 0 where
  pub more : List ℕ
  pub higher : n < get_or marks (n - 1) 0
  pub on : Way σ count marks (get_or marks (n - 1) 0) more
  pub next : rest ≡ children_of σ (get_or marks (n - 1) 0) ++ more

module _ {σ : Store} {count : ℕ} {marks : List ℕ} where
  -- its nodes are the store's
  pub way-among : {n : ℕ} {rest : List ℕ} → Way σ count marks n rest → Among count n
  way-among (ends a e) = a
  way-among (back a h e w) = a

  -- where it ends nothing is to be met
  pub way_end : {n : ℕ} {rest : List ℕ} → Way σ count marks n rest → get_or marks (n - 1) 0 ≡ n → rest ≡ []
  way_end (ends a e) q = refl
  way_end (back a h e w) q = absurd (omega arith)

  -- anywhere else it leads on
  pub way_step : {n : ℕ} {rest : List ℕ} → Way σ count marks n rest → (get_or marks (n - 1) 0 ≡ n → ⊥) → WayUp σ count marks n rest
  way_step (ends a e) q = absurd (q e)
  way_step (back {rest = more} a h e w) q = record { more = more; higher = rw e h; on = rw e w; next = rw e }

  -- a mark that a node gets that has none doesn't lie on it
  pub way-kept : (c x : ℕ) → get_or marks (c - 1) 0 ≡ 0 → {n : ℕ} {rest : List ℕ} → Way σ count marks n rest → Way σ count (set marks (c - 1) x) n rest
  way-kept c x z (ends {n} a e) =
      let q : n - 1 ≡ c - 1 → ⊥ = λ f. omega (arith, rw (← f) at z) in
      ends a (get_or-set_other marks (c - 1) (n - 1) x 0 q ∙ e)
  way-kept c x z (back {n} a h e w) =
      let q : n - 1 ≡ c - 1 → ⊥ = λ f. omega (arith, rw (← f) at z) in
      back a h (get_or-set_other marks (c - 1) (n - 1) x 0 q ∙ e) (way-kept c x z w)
