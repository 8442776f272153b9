-- What the answers of the code stand for.
use Rattle.std.specs.Prelude.{ℕ}
use Rattle.codes.specs.declared.VarInfo as codes
use Rattle.codes.specs.declared.VarInfo.TheVariants as varinfo
use Rattle.read_text.specs.Text as text
use Rattle.read_text.specs.declared.Place.{Place}

-- the value of `.varinfo`
abbrev pub of_var_info : codes.VarInfo → ℕ
of_var_info varinfo.VariableID = 0
of_var_info varinfo.PermutationID = 1
of_var_info varinfo.AuxiliaryID = 2
of_var_info varinfo.VariableName = 3
of_var_info varinfo.None = 4

abbrev pub of_place : Place → text.Place
of_place p = text.place p.start p.len
