-- What the answers of the code stand for.
use Rattle.std.specs.Prelude.{ℕ, List, Result, Ok, Err}
use Rattle.codes.specs.declared.refusal.Fault.{Fault}
use Rattle.imported.specs.Import as meant
use Rattle.imported.specs.Import.{NodesAnswer, nodes, refusal}
use Rattle.import_steps.specs.declared.Setup.{Setup}

-- the nodes are read, up to a position; or a refusal and its line
abbrev pub of_imported : Result ℕ Fault → NodesAnswer
of_imported (Ok at) = nodes at
of_imported (Err e) = refusal e.number e.line

-- what the code is handed of it, with the level list and the store's level count
abbrev pub of_setup : Setup → List ℕ → ℕ → meant.Setup
of_setup u list levels = meant.setup u.ascii u.extra u.nnodes u.lines list levels
