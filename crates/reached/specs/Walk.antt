-- The walk of an export. Document 02, request 1: 'Inside a level, lines now follow the walk's first meeting: roots in their order, a node
-- before its children, all under then before all under else.'
use Rattle.std.specs.Prelude.{ℕ, zero, suc, cond, List, [], ◌∷◌, ◌++◌, eqb, ℤ, nat_abs}
use Rattle.store.specs.Store.{Store, then_at, else_at}
use Rattle.store.specs.Firsts.{first_ones}

-- 'a node before its children, all under then before all under else': the nodes that a walk from node n passes, each as often as a way leads
-- to it. The terminal has no children. Children have lower numbers, so n steps down are enough; the first number counts them, so that this
-- ends whatever the slots hold.
unfoldable pub walk_by : ℕ → Store → ℕ → List ℕ
walk_by zero σ n = []
walk_by (suc f) σ n = n ∷ cond (eqb n 1) [] (walk_by f σ (nat_abs (then_at σ n)) ++ walk_by f σ (nat_abs (else_at σ n)))

-- 'roots in their order'
unfoldable pub walk : Store → List ℤ → List ℕ
walk σ [] = []
walk σ (r ∷ roots) = walk_by (nat_abs r) σ (nat_abs r) ++ walk σ roots

-- 'first meeting': the nodes that the roots lead to, in the order in which the walk first meets them
unfoldable pub first_met : Store → List ℤ → List ℕ
first_met σ roots = first_ones (walk σ roots)
