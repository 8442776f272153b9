-- `diagram_fits` meets its contract: the name is a list of one.
use mathlib.Core.Path.{◌∙◌}
use Rattle.export_names.proofs.NameLists.{one_name}
use Rattle.export_names.proofs.diagram_fits.Goals as goal

pub returns : goal.returns
returns c =
    c.names_fit.ensures ∙ one_name _ _ _ _
