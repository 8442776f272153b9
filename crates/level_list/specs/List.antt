-- The level list of a load.
use Rattle.std.specs.Prelude.{ℕ, Bool, ◌&&◌, List, length, eqb}
use Rattle.support.specs.Support.{ids_fit}

-- '2 the level list isn't one level per support variable, strictly ascending, below the store's level count'
unfoldable pub list_fits : ℕ → ℕ → List ℕ → Bool
list_fits nsuppvars levels l = eqb (length l) nsuppvars && ids_fit levels l
