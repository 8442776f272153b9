-- What the functions of evaluation speak of. Document 01, 'Store and meaning'.
use Rattle.std.specs.Prelude.{ℕ, ◌≤◌, List, [], length, pos}
use Rattle.edges.specs.Edge.{IsEdge}
use Rattle.store.specs.Store.{Store, store}
use Rattle.store.specs.Rules.{Nodes}

-- What a walk down from node n asks of a store's lists and of a setting: they hold the nodes up to n, which keep the rules of nodes for as many
-- levels as the setting has bytes.
pub record Walks (σ : Store) (s : List ℕ) (n : ℕ) : Type 0 where
  pub small : IsEdge (pos n)
  pub level_long : n ≤ length σ.level
  pub then_long : n ≤ length σ.then
  pub els_long : n ≤ length σ.els
  pub nodes : Nodes (store (length s) n σ.level σ.then σ.els [] [])
