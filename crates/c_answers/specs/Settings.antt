-- The settings of an export, and a wanted answer, as C gives them. Document 01, 'Parts of the Rust': 'there version 3.0 and text are each a byte that isn't 0'.
use Rattle.std.specs.Prelude.{ℕ, Bool, cond, not, eqb}
use Rattle.codes.specs.declared.DDDMPVersion.{DDDMPVersion}
use Rattle.codes.specs.declared.DDDMPVersion.TheVariants.{V2_0, V3_0}
use Rattle.read_text.specs.Text.{place}
use Rattle.exported.specs.Settings.{Settings, settings}

abbrev pub version_of : ℕ → DDDMPVersion
version_of b = cond (eqb b 0) V2_0 V3_0

-- the version's byte, the text's byte, and the place of the diagram's name
abbrev pub settings_of : ℕ → ℕ → ℕ → ℕ → Settings
settings_of version text ddstart ddlen = settings (version_of version) (not (eqb text 0)) (place ddstart ddlen)

-- Document 02, request 4: 'The wanted answer is a byte, yes unless it is 0.'
abbrev pub wanted_of : ℕ → Bool
wanted_of b = not (eqb b 0)
