-- What finds the nodes of a store while nodes are made.
use Rattle.std.specs.Prelude.{ℕ, ◌+◌, ◌*◌, ◌≤◌, ◌≡◌, cond, List, eqb, length, get_or, set, ℤ}
use Rattle.codes.specs.Limits.{node_limit}
use Rattle.store.specs.Store.{Store}
use Rattle.unique_table.specs.Index.{Sought, Finds}

-- Where there is an index, it knows every node, and has entries for all that may come.
pub record KnownNodes (width : ℕ) (σ : Store) (ix : List ℕ) : Type 0 where
  pub finds : Finds width σ σ.count ix
  pub room : 1 ≤ width → (n : ℕ) → n ≤ length σ.level → n ≤ node_limit → width + 2 * n + 2 ≤ length ix

-- an index with node n at an entry; none where there is none
abbrev pub entered : ℕ → List ℕ → ℕ → ℕ → List ℕ
entered width ix at n = cond (eqb width 0) ix (set ix at n)

-- a search for a level, a then and an else that none of the nodes holds ends at an empty entry of the index
pub record EndsAt (width : ℕ) (σ : Store) (ix : List ℕ) (l : ℕ) (t e : ℤ) (at : ℕ) : Type 0 where
  pub sought : Sought width σ σ.count ix l t e at
  pub empty : get_or ix at 0 ≡ 0
