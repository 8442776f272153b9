-- The key that each word of a header is, and that words near them are none.
use mathlib.Core.Path.{◌≡◌, refl}
use mathlib.Core.List.{[], ◌∷◌}
use Rattle.std.specs.Prelude.{Some, None}
use Rattle.read_text.specs.Alike.{alike}
use Rattle.header_keys.specs.Keys.{lookup, key_of}
use Rattle.header_keys.specs.declared.Key.TheVariants.{Ver, Mode, Varinfo, Dd, Nnodes, Nvars, Nsuppvars, Nroots, Nodes, Varnames, Suppvarnames, Orderedvarnames, Ids, Permids, Auxids, Rootids, Rootnames}

-- `.ver` is a key
pub the-ver : key_of (0x2e ∷ 0x76 ∷ 0x65 ∷ 0x72 ∷ []) ≡ Some Ver
unfolding key_of lookup alike
the-ver = refl

-- `.mode` is a key
pub the-mode : key_of (0x2e ∷ 0x6d ∷ 0x6f ∷ 0x64 ∷ 0x65 ∷ []) ≡ Some Mode
unfolding key_of lookup alike
the-mode = refl

-- `.varinfo` is a key
pub the-varinfo : key_of (0x2e ∷ 0x76 ∷ 0x61 ∷ 0x72 ∷ 0x69 ∷ 0x6e ∷ 0x66 ∷ 0x6f ∷ []) ≡ Some Varinfo
unfolding key_of lookup alike
the-varinfo = refl

-- `.dd` is a key
pub the-dd : key_of (0x2e ∷ 0x64 ∷ 0x64 ∷ []) ≡ Some Dd
unfolding key_of lookup alike
the-dd = refl

-- `.nnodes` is a key
pub the-nnodes : key_of (0x2e ∷ 0x6e ∷ 0x6e ∷ 0x6f ∷ 0x64 ∷ 0x65 ∷ 0x73 ∷ []) ≡ Some Nnodes
unfolding key_of lookup alike
the-nnodes = refl

-- `.nvars` is a key
pub the-nvars : key_of (0x2e ∷ 0x6e ∷ 0x76 ∷ 0x61 ∷ 0x72 ∷ 0x73 ∷ []) ≡ Some Nvars
unfolding key_of lookup alike
the-nvars = refl

-- `.nsuppvars` is a key
pub the-nsuppvars : key_of (0x2e ∷ 0x6e ∷ 0x73 ∷ 0x75 ∷ 0x70 ∷ 0x70 ∷ 0x76 ∷ 0x61 ∷ 0x72 ∷ 0x73 ∷ []) ≡ Some Nsuppvars
unfolding key_of lookup alike
the-nsuppvars = refl

-- `.nroots` is a key
pub the-nroots : key_of (0x2e ∷ 0x6e ∷ 0x72 ∷ 0x6f ∷ 0x6f ∷ 0x74 ∷ 0x73 ∷ []) ≡ Some Nroots
unfolding key_of lookup alike
the-nroots = refl

-- `.nodes` is a key
pub the-nodes : key_of (0x2e ∷ 0x6e ∷ 0x6f ∷ 0x64 ∷ 0x65 ∷ 0x73 ∷ []) ≡ Some Nodes
unfolding key_of lookup alike
the-nodes = refl

-- `.varnames` is a key
pub the-varnames : key_of (0x2e ∷ 0x76 ∷ 0x61 ∷ 0x72 ∷ 0x6e ∷ 0x61 ∷ 0x6d ∷ 0x65 ∷ 0x73 ∷ []) ≡ Some Varnames
unfolding key_of lookup alike
the-varnames = refl

-- `.suppvarnames` is a key
pub the-suppvarnames : key_of (0x2e ∷ 0x73 ∷ 0x75 ∷ 0x70 ∷ 0x70 ∷ 0x76 ∷ 0x61 ∷ 0x72 ∷ 0x6e ∷ 0x61 ∷ 0x6d ∷ 0x65 ∷ 0x73 ∷ []) ≡ Some Suppvarnames
unfolding key_of lookup alike
the-suppvarnames = refl

-- `.orderedvarnames` is a key
pub the-orderedvarnames :
    key_of (0x2e ∷ 0x6f ∷ 0x72 ∷ 0x64 ∷ 0x65 ∷ 0x72 ∷ 0x65 ∷ 0x64 ∷ 0x76 ∷ 0x61 ∷ 0x72 ∷ 0x6e ∷ 0x61 ∷ 0x6d ∷ 0x65 ∷ 0x73 ∷ [])
    ≡ Some Orderedvarnames
unfolding key_of lookup alike
the-orderedvarnames = refl

-- `.ids` is a key
pub the-ids : key_of (0x2e ∷ 0x69 ∷ 0x64 ∷ 0x73 ∷ []) ≡ Some Ids
unfolding key_of lookup alike
the-ids = refl

-- `.permids` is a key
pub the-permids : key_of (0x2e ∷ 0x70 ∷ 0x65 ∷ 0x72 ∷ 0x6d ∷ 0x69 ∷ 0x64 ∷ 0x73 ∷ []) ≡ Some Permids
unfolding key_of lookup alike
the-permids = refl

-- `.auxids` is a key
pub the-auxids : key_of (0x2e ∷ 0x61 ∷ 0x75 ∷ 0x78 ∷ 0x69 ∷ 0x64 ∷ 0x73 ∷ []) ≡ Some Auxids
unfolding key_of lookup alike
the-auxids = refl

-- `.rootids` is a key
pub the-rootids : key_of (0x2e ∷ 0x72 ∷ 0x6f ∷ 0x6f ∷ 0x74 ∷ 0x69 ∷ 0x64 ∷ 0x73 ∷ []) ≡ Some Rootids
unfolding key_of lookup alike
the-rootids = refl

-- `.rootnames` is a key
pub the-rootnames : key_of (0x2e ∷ 0x72 ∷ 0x6f ∷ 0x6f ∷ 0x74 ∷ 0x6e ∷ 0x61 ∷ 0x6d ∷ 0x65 ∷ 0x73 ∷ []) ≡ Some Rootnames
unfolding key_of lookup alike
the-rootnames = refl

-- `.idss` is no key
pub no_longer : key_of (0x2e ∷ 0x69 ∷ 0x64 ∷ 0x73 ∷ 0x73 ∷ []) ≡ None
unfolding key_of lookup alike
no_longer = refl

-- nor is `.id`
pub no-shorter : key_of (0x2e ∷ 0x69 ∷ 0x64 ∷ []) ≡ None
unfolding key_of lookup alike
no-shorter = refl

-- nor is `.Ids`
pub no-capital : key_of (0x2e ∷ 0x49 ∷ 0x64 ∷ 0x73 ∷ []) ≡ None
unfolding key_of lookup alike
no-capital = refl

-- nor is the empty word
pub no-empty : key_of [] ≡ None
unfolding key_of lookup alike
no-empty = refl
