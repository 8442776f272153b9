-- What is read of a value, where it stands: a sound one, with no word of a default. Document 01, 'Header'.
use Rattle.std.specs.Prelude.{ℕ, ◌+◌, ◌≤◌, ◌≡◌, ◌⊎◌, Bool, true, false, List, [], ◌∷◌, ℤ}
use Rattle.codes.specs.Answer.{value}
use Rattle.codes.specs.Limits.{var_limit, root_limit}
use Rattle.read_numbers.specs.Number.{single}
use Rattle.read_lists.specs.Lists.{listed, u32_list}
use Rattle.read_edges.specs.Edges.{edge_list}
use Rattle.read_text.specs.Text.{Place, name_list, text_at}
use Rattle.header_faults.specs.Judge.{mode_a, mode_b}
use Rattle.header_lines.specs.Sweep.{Span}
use Rattle.header_lines.specs.Last.{bytes_at}

-- a single number below a limit
abbrev pub ReadsNumber : ℕ → List ℕ → Span → ℕ → Type 0
ReadsNumber lim f v n = single lim (bytes_at f v) ≡ value n

-- mode A is text, and B binary
abbrev pub ReadsMode : List ℕ → Span → Bool → Type 0
ReadsMode f v ascii = ((bytes_at f v ≡ mode_a) × (ascii ≡ true)) ⊎ ((bytes_at f v ≡ mode_b) × (ascii ≡ false))

-- varinfo is one digit, from 0 to 4
abbrev pub ReadsVarinfo : List ℕ → Span → ℕ → Type 0
ReadsVarinfo f v n = (n ≤ 4) × (bytes_at f v ≡ (0x30 + n) ∷ [])

-- a text is the place of its bytes
abbrev pub ReadsText : List ℕ → Span → Place → Type 0
ReadsText f v p = text_at v.start (bytes_at f v) ≡ value p

-- lists: all entries are read
abbrev pub ReadsNumbers : List ℕ → Span → List ℕ → Type 0
ReadsNumbers f v l = (n : ℕ) × (u32_list var_limit (bytes_at f v) ≡ listed (value n) l)

abbrev pub ReadsNames : ℕ → List ℕ → Span → List Place → Type 0
ReadsNames max f v l = (n : ℕ) × (name_list max v.start (bytes_at f v) ≡ listed (value n) l)

abbrev pub ReadsRoots : List ℕ → Span → List ℤ → Type 0
ReadsRoots f v l = (n : ℕ) × (edge_list root_limit (bytes_at f v) ≡ listed (value n) l)
