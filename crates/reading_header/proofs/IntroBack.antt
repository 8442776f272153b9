-- The version, the mode and `.varinfo`, read back.
use mathlib.Core.Path.{◌≡◌, refl}
use mathlib.Core.Bool.{Bool, true, false, not}
use mathlib.Core.List.{[], ◌∷◌}
use Rattle.codes.specs.declared.DDDMPVersion.{DDDMPVersion}
use Rattle.codes.specs.declared.DDDMPVersion.TheVariants.{V2_0, V3_0}
use Rattle.read_text.specs.Alike.{alike}
use Rattle.header_faults.specs.Judge.{mode_b, version_fault, mode_fault, varinfo_fault}
use Rattle.header_values.specs.Values.{varinfo_of}
use Rattle.heading.specs.Heading.{version_text, mode_text}

-- None has a fault.
pub version-faultless : (v : DDDMPVersion) → version_fault (version_text v) ≡ 0
unfolding version_fault alike
version-faultless V2_0 = refl
version-faultless V3_0 = refl

pub mode-faultless : (ascii : Bool) → mode_fault (mode_text ascii) ≡ 0
unfolding mode_fault alike
mode-faultless true = refl
mode-faultless false = refl

pub varinfo-faultless : varinfo_fault (0x34 ∷ []) ≡ 0
unfolding varinfo_fault
varinfo-faultless = refl

-- The mode tells text from binary; `.varinfo` is 4.
pub mode-back : (ascii : Bool) → not (alike (mode_text ascii) mode_b) ≡ ascii
unfolding alike
mode-back true = refl
mode-back false = refl

pub varinfo-back : varinfo_of (0x34 ∷ []) ≡ 4
unfolding alike
varinfo-back = refl
