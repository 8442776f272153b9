-- `field_of` meets its contract: the three searches are those of `field_of`.
use Rattle.read_lines.proofs.Searches.{field-parts}
use Rattle.read_lines.proofs.field_of.Goals as goal

pub returns-clause-value : goal.returns-clause-value
returns-clause-value c =
    field-parts _ _ _ _ _ _ c.forward-key.ensures.value c.forward-start.ensures.value c.backward-stop.ensures.value
