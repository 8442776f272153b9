-- Lists of calls on one store. Document 01, 'Agreed between us': 'The list starts from an empty store with any level count and any number of
-- slots, whatever else each call is lent.'
use Rattle.std.specs.Prelude.{ℕ, List, [], ◌∷◌, take}
use Rattle.codes.specs.Limits.{Limits}
use Rattle.store.specs.Store.{Store}
use Rattle.calls.specs.Calls.{Call}
use Rattle.calls.specs.Outcome.{leaves}

-- calls one after the other, each on the store as the last one left it, refused ones included
unfoldable pub run_calls : Limits → Store → List Call → Store
run_calls m σ [] = σ
run_calls m σ (c ∷ cs) = run_calls m (leaves m c σ).after cs

-- the store before the call at a place of the list, counted from 0
abbrev pub before : Limits → Store → List Call → ℕ → Store
before m σ cs k = run_calls m σ (take k cs)
