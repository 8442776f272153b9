-- The keys of a header, as their bytes. They are those of the Rust's `DumpHeader::load`.
use Rattle.std.specs.Prelude.{ℕ, List, [], ◌∷◌, ◌++◌, cond, Option, Some, None}
use Rattle.codes.specs.Texts.{bytes}
use Rattle.header_keys.specs.declared.Key.{Key}
use Rattle.header_keys.specs.declared.Key.TheVariants.{Ver, Mode, Varinfo, Dd, Nnodes, Nvars, Nsuppvars, Nroots, Nodes, Varnames, Suppvarnames, Orderedvarnames, Ids, Permids, Auxids, Rootids, Rootnames}
use Rattle.read_text.specs.Alike.{alike}

-- a key with its bytes
pub record Name : Type 0 where
  pub bytes : List ℕ
  pub key : Key

abbrev pub name : List ℕ → Key → Name
name b k = record { bytes = b; key = k }

-- the keys of single values, and `.nodes`
abbrev pub single_keys : List Name
single_keys =
    name (bytes ".ver") Ver
    ∷ name (bytes ".mode") Mode
    ∷ name (bytes ".varinfo") Varinfo
    ∷ name (bytes ".dd") Dd
    ∷ name (bytes ".nnodes") Nnodes
    ∷ name (bytes ".nvars") Nvars
    ∷ name (bytes ".nsuppvars") Nsuppvars
    ∷ name (bytes ".nroots") Nroots
    ∷ name (bytes ".nodes") Nodes
    ∷ []

-- the keys of lists
abbrev pub list_keys : List Name
list_keys =
    name (bytes ".varnames") Varnames
    ∷ name (bytes ".suppvarnames") Suppvarnames
    ∷ name (bytes ".orderedvarnames") Orderedvarnames
    ∷ name (bytes ".ids") Ids
    ∷ name (bytes ".permids") Permids
    ∷ name (bytes ".auxids") Auxids
    ∷ name (bytes ".rootids") Rootids
    ∷ name (bytes ".rootnames") Rootnames
    ∷ []

-- the first key of a table whose bytes these are, if there is one
unfoldable pub lookup : List ℕ → List Name → Option Key
lookup w [] = None
lookup w (n ∷ ns) = cond (alike w n.bytes) (Some n.key) (lookup w ns)

-- '11 unknown key': the word is none.
unfoldable pub key_of : List ℕ → Option Key
key_of w = lookup w (single_keys ++ list_keys)

-- The entry of a key in a table with one for each. Two keys are one exactly where they have one entry.
abbrev pub slot_of : Key → ℕ
slot_of Ver = 0
slot_of Mode = 1
slot_of Varinfo = 2
slot_of Dd = 3
slot_of Nnodes = 4
slot_of Nvars = 5
slot_of Nsuppvars = 6
slot_of Nroots = 7
slot_of Nodes = 8
slot_of Varnames = 9
slot_of Suppvarnames = 10
slot_of Orderedvarnames = 11
slot_of Ids = 12
slot_of Permids = 13
slot_of Auxids = 14
slot_of Rootids = 15
slot_of Rootnames = 16

-- that of what a word is; a word that is no key has none, and its number is that after the table's
abbrev pub entry_of : Option Key → ℕ
entry_of (Some k) = slot_of k
entry_of None = 17
