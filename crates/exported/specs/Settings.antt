-- The settings of an export. Document 01, 'Export': 'Settings start from the Rust's defaults: version 2.0, binary, strict.'
use Rattle.std.specs.Prelude.{Bool, false}
use Rattle.codes.specs.declared.DDDMPVersion.{DDDMPVersion}
use Rattle.codes.specs.declared.DDDMPVersion.TheVariants.{V2_0}
use Rattle.read_text.specs.Text.{Place, place}

-- the version, mode A or not, and where the diagram's name stands in the lent bytes
pub record Settings : Type 0 where
  pub version : DDDMPVersion
  pub ascii : Bool
  pub dd : Place

abbrev pub settings : DDDMPVersion → Bool → Place → Settings
settings version ascii dd = record { version = version; ascii = ascii; dd = dd }

-- 'version 2.0, binary', and no name; 'strict' is the only way
abbrev pub defaults : Settings
defaults = settings V2_0 false (place 0 0)
