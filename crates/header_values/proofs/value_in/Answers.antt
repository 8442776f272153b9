-- `value_in` meets its contract: the entry of the key holds where its last value stands.
use Rattle.header_values.proofs.Spanned.{value-at, start-at}
use Rattle.header_values.proofs.value_in.Goals as goal

pub returns-clause-value : goal.returns-clause-value
returns-clause-value c =
    value-at c.requires.0 _ _ c.slot_of-slot.ensures

pub returns-clause-start : goal.returns-clause-start
returns-clause-start c =
    start-at c.requires.0 _ _ c.slot_of-slot.ensures
