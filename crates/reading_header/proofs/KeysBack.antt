-- The keys: each is a plain word, and is found again by its bytes.
use mathlib.Core.Path.{◌≡◌, refl}
use Rattle.std.specs.Prelude.{Some}
use Rattle.header_keys.specs.declared.Key.{Key}
use Rattle.header_keys.specs.declared.Key.TheVariants.{Ver, Mode, Varinfo, Dd, Nnodes, Nvars, Nsuppvars, Nroots, Nodes, Varnames, Suppvarnames, Orderedvarnames, Ids, Permids, Auxids, Rootids, Rootnames}
use Rattle.read_text.specs.Alike.{alike}
use Rattle.header_keys.specs.Keys.{lookup, key_of}
use Rattle.header_values.specs.Values.{KnownKey}
use Rattle.heading.specs.Lines.{key_text}
use Rattle.reading_header.specs.Joined.{Plain}
use Rattle.reading_header.proofs.Plain.{literal-plain}

-- A key is a plain word.
pub key-plain : (k : Key) → KnownKey k → Plain (key_text k)
key-plain Ver h = literal-plain 0x2e _ refl
key-plain Mode h = literal-plain 0x2e _ refl
key-plain Varinfo h = literal-plain 0x2e _ refl
key-plain Dd h = literal-plain 0x2e _ refl
key-plain Nnodes h = literal-plain 0x2e _ refl
key-plain Nvars h = literal-plain 0x2e _ refl
key-plain Nsuppvars h = literal-plain 0x2e _ refl
key-plain Nroots h = literal-plain 0x2e _ refl
key-plain Nodes h = literal-plain 0x2e _ refl
key-plain Varnames h = literal-plain 0x2e _ refl
key-plain Suppvarnames h = literal-plain 0x2e _ refl
key-plain Orderedvarnames h = literal-plain 0x2e _ refl
key-plain Ids h = literal-plain 0x2e _ refl
key-plain Permids h = literal-plain 0x2e _ refl
key-plain Auxids h = literal-plain 0x2e _ refl
key-plain Rootids h = literal-plain 0x2e _ refl
key-plain Rootnames h = literal-plain 0x2e _ refl

-- Its bytes are those of no other.
pub key_back : (k : Key) → key_of (key_text k) ≡ Some k
unfolding key_of lookup alike
key_back Ver = refl
key_back Mode = refl
key_back Varinfo = refl
key_back Dd = refl
key_back Nnodes = refl
key_back Nvars = refl
key_back Nsuppvars = refl
key_back Nroots = refl
key_back Nodes = refl
key_back Varnames = refl
key_back Suppvarnames = refl
key_back Orderedvarnames = refl
key_back Ids = refl
key_back Permids = refl
key_back Auxids = refl
key_back Rootids = refl
key_back Rootnames = refl
