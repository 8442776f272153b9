-- The support of an export: the levels that have a line. They are those of the support variables.
use Rattle.std.specs.Prelude.{ℕ, zero, suc, ◌+◌, ◌-◌, ◌≤◌, ◌<◌, Bool, true, false, cond, List, [], ◌∷◌, length, get_or}
use Rattle.store.specs.Store.{Store, store}
use Rattle.numbering.specs.Numbering.{at_depth}

abbrev pub some : List ℕ → Bool
some [] = false
some (n ∷ ns) = true

-- of the levels l, l + 1, .., k of them, those with a node of a list
unfoldable pub support_from : ℕ → ℕ → Store → List ℕ → List ℕ
support_from zero l σ ns = []
support_from (suc k) l σ ns = cond (some (at_depth σ l ns)) (l ∷ support_from k (l + 1) σ ns) (support_from k (l + 1) σ ns)

-- a store by its levels alone
abbrev pub leveled : Store → Store
leveled σ = store σ.levels 0 σ.level [] [] [] []

abbrev pub support_of : Store → List ℕ → List ℕ
support_of σ ns = support_from σ.levels 0 (leveled σ) ns

-- what the support leans on: node 1, or a node with a level of the store's
pub record PlacedAt (levels : ℕ) (level : List ℕ) (n : ℕ) : Type 0 where
  pub some : 1 ≤ n
  pub there : n ≤ length level
  pub low : 2 ≤ n → get_or level (n - 1) 0 < levels

abbrev pub Placed : ℕ → List ℕ → List ℕ → Type 0
Placed levels level nodes = (i : ℕ) → i < length nodes → PlacedAt levels level (get_or nodes i 0)
