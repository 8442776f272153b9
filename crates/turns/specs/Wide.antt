-- Calls under limits that allow more, in a store with the same nodes and other slots. Document 02, request 5: 'Roots taken before and after the turn
-- compare as if read into the wide store from its start.'
use Rattle.std.specs.Prelude.{◌≡◌, List, [], ◌∷◌}
use Rattle.codes.specs.Limits.{Limits}
use Rattle.store.specs.Store.{Store}
use Rattle.store.specs.Rules.{Rules}
use Rattle.store.specs.Growth.{Grows}
use Rattle.calls.specs.Calls.{Call}
use Rattle.calls.specs.Outcome.{Verdict, accepted, refusal, leaves}

-- two stores with the same levels and the same nodes, each of which keeps the rules under its own limits; they may differ in their slots
pub record SameNodes (m w : Limits) (σ τ : Store) : Type 0 where
  pub rules : Rules m σ
  pub wide_rules : Rules w τ
  pub count : τ.count ≡ σ.count
  pub grows : Grows σ τ

-- the calls of a list that are accepted, each on the store as the last one left it
abbrev pub accepted_by : Verdict → Call → List Call → List Call
accepted_by accepted c cs = c ∷ cs
accepted_by (refusal n line) c cs = cs

unfoldable pub accepted_of : Limits → Store → List Call → List Call
accepted_of m σ [] = []
accepted_of m σ (c ∷ cs) = accepted_by (leaves m c σ).verdict c (accepted_of m (leaves m c σ).after cs)
