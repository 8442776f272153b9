-- What the edges of a store say. Document 01, 'Store and meaning'.
use Rattle.std.specs.Prelude.{ℕ, zero, suc, Bool, true, cond, List, eqb, get_or, ℤ, nat_abs}
use Rattle.edges.specs.Edge.{turn}
use Rattle.store.specs.Store.{Store, level_at, then_at, else_at}

-- a yes or no for each level
abbrev pub Setting : Type 0
Setting = ℕ → Bool

-- a lent setting: 'one byte 00 or 01 per level'
abbrev pub setting_of : List ℕ → Setting
setting_of s l = eqb (get_or s l 0) 1

-- 'A node's answer is that of its then edge where its level is yes, else of its else edge', and 'Node 1 is yes'. Children have lower
-- numbers, so n steps are enough for node n; the first number counts them, so that this ends whatever the slots hold.
unfoldable pub node_by : ℕ → Store → Setting → ℕ → Bool
node_by zero σ s n = true
node_by (suc f) σ s zero = true
node_by (suc f) σ s (suc zero) = true
node_by (suc f) σ s (suc (suc k)) =
    cond (s (level_at σ (suc (suc k))))
    (turn (then_at σ (suc (suc k))) (node_by f σ s (nat_abs (then_at σ (suc (suc k))))))
    (turn (else_at σ (suc (suc k))) (node_by f σ s (nat_abs (else_at σ (suc (suc k))))))

unfoldable pub node : Store → Setting → ℕ → Bool
node σ s n = node_by n σ s n

-- 'An edge's answer is its node's, turned over under a minus'.
abbrev pub answer : Store → Setting → ℤ → Bool
answer σ s e = turn e (node σ s (nat_abs e))
