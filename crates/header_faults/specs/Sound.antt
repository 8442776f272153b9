-- What a sound value of each key is, with no word of how it is judged. Document 01, 'The file's writer, line by line', and 'Limits'.
use Rattle.std.specs.Prelude.{◌≡◌, List, [], ◌∷◌, ◌⊎◌, ℕ, ◌+◌, ◌^◌, ◌≤◌, Option, Some, None}
use Rattle.codes.specs.Answer.{value}
use Rattle.codes.specs.Limits.{var_limit, root_limit}
use Rattle.read_numbers.specs.Number.{single}
use Rattle.read_lists.specs.Lists.{u32_list}
use Rattle.read_edges.specs.Edges.{edge_list}
use Rattle.read_text.specs.Text.{Place, name_list, text_at}
use Rattle.header_keys.specs.declared.Key.{Key}
use Rattle.header_keys.specs.declared.Key.TheVariants.{Ver, Mode, Varinfo, Dd, Nnodes, Nvars, Nsuppvars, Nroots, Nodes, Varnames, Suppvarnames, Orderedvarnames, Ids, Permids, Auxids, Rootids, Rootnames}
use Rattle.header_faults.specs.Judge.{version20, version30, mode_a, mode_b}

-- a single number below a limit: 'a number is too large: over 64 bits in `.nnodes`, `.nroots` .., over 32 in other unsigned ones'
abbrev pub SoundNumber : ℕ → List ℕ → Type 0
SoundNumber lim s = (n : ℕ) × (single lim s ≡ value n)

-- a list of numbers: '4,096 entries in a variable list'
abbrev pub SoundNumbers : List ℕ → Type 0
SoundNumbers s = (n : ℕ) × ((u32_list var_limit s).answer ≡ value n)

-- a list of names with at most so many entries, whose first byte stands at a position
abbrev pub SoundNames : ℕ → ℕ → List ℕ → Type 0
SoundNames max at s = (n : ℕ) × ((name_list max at s).answer ≡ value n)

-- The value s of a key, whose first byte stands at a position, is sound: it is not '12 version other than DDDMP-2.0 or DDDMP-3.0', nor '13
-- unknown `.mode` or `.varinfo` value', where the modes are A and B and varinfo is one digit from 0 to 4; a text, a number or a list
-- is read, with no 14 to 19; 'the value of `.nodes` is ignored'.
abbrev pub SoundValue : Key → ℕ → List ℕ → Type 0
SoundValue Ver at s = (s ≡ version20) ⊎ (s ≡ version30)
SoundValue Mode at s = (s ≡ mode_a) ⊎ (s ≡ mode_b)
SoundValue Varinfo at s = (d : ℕ) × ((d ≤ 4) × (s ≡ (0x30 + d) ∷ []))
SoundValue Dd at s = (p : Place) × (text_at at s ≡ value p)
SoundValue Nnodes at s = SoundNumber (2 ^ 64) s
SoundValue Nvars at s = SoundNumber (2 ^ 32) s
SoundValue Nsuppvars at s = SoundNumber (2 ^ 32) s
SoundValue Nroots at s = SoundNumber (2 ^ 64) s
SoundValue Nodes at s = Unit
SoundValue Varnames at s = SoundNames var_limit at s
SoundValue Suppvarnames at s = SoundNames var_limit at s
SoundValue Orderedvarnames at s = SoundNames var_limit at s
SoundValue Ids at s = SoundNumbers s
SoundValue Permids at s = SoundNumbers s
SoundValue Auxids at s = SoundNumbers s
SoundValue Rootids at s = (n : ℕ) × ((edge_list root_limit s).answer ≡ value n)
SoundValue Rootnames at s = SoundNames root_limit at s

-- of the word that is a line's key. '11 unknown key': a word that is none has no sound value.
abbrev pub SoundWord : Option Key → ℕ → List ℕ → Type 0
SoundWord (Some k) at s = SoundValue k at s
SoundWord None at s = ⊥
