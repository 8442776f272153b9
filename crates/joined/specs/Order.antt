-- Which nodes a join makes, and in which order. Document 02, request 2: 'New nodes are those of the result that the store lacks, then side
-- first, each after its children.'
use Rattle.std.specs.Prelude.{ℕ, zero, suc, ◌-◌, ◌≡◌, cond, List, [], ◌∷◌, ◌++◌, eqb, ltb, ℤ, nat_abs}
use Rattle.store.specs.Store.{Store, then_at, else_at}
use Rattle.store.specs.Firsts.{first_ones}

-- 'then side first, each after its children': the nodes that node n leads to, each as often as a way leads to it. The terminal has no children.
-- Children have lower numbers, so n steps down are enough; the first number counts them, so that this ends whatever the slots hold.
unfoldable pub nodes_by : ℕ → Store → ℕ → List ℕ
nodes_by zero σ n = []
nodes_by (suc f) σ n = cond (eqb n 1) [] (nodes_by f σ (nat_abs (then_at σ n)) ++ nodes_by f σ (nat_abs (else_at σ n))) ++ (n ∷ [])

-- 'those of the result'
unfoldable pub nodes_under : Store → ℤ → List ℕ
nodes_under σ e = nodes_by (nat_abs e) σ (nat_abs e)

-- 'that the store lacks': the numbers of a list beyond a count
unfoldable pub lacked : ℕ → List ℕ → List ℕ
lacked c [] = []
lacked c (n ∷ l) = cond (ltb c n) (n ∷ lacked c l) (lacked c l)

-- the k numbers after a count; document 01: 'takes the next number'
unfoldable pub next_numbers : ℕ → ℕ → List ℕ
next_numbers c zero = []
next_numbers c (suc k) = suc c ∷ next_numbers (suc c) k

-- 'New nodes are those of the result that the store lacks', and in that order each took the next number: σ is the store before, τ the one
-- afterwards, and x the result.
abbrev pub InOrder : Store → Store → ℤ → Type 0
InOrder σ τ x = first_ones (lacked σ.count (nodes_under τ x)) ≡ next_numbers σ.count (τ.count - σ.count)
