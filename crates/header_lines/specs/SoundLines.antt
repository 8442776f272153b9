-- When the lines of a header are sound, and how they are refused, with no word of how they are read. Document 01, 'The file's writer,
-- line by line'.
use Rattle.std.specs.Prelude.{◌≡◌, List, ◌∷◌, ◌++◌, ℕ, ◌+◌, ◌≤◌, length}
use Rattle.std.proofs.Math.Option.{Option, none, some}
use Rattle.read_lines.specs.Each.{Each}
use Rattle.header_faults.specs.Sound.{SoundWord}
use Rattle.header_lines.specs.Sweep.{part, Said, Lines, cut, nodes, line, fault_in, all_of}

-- the position after `.nodes`' line; none where the input is cut: '10° input ends before `.nodes`'
unfoldable pub nodes_next : Lines → Option ℕ
nodes_next cut = none
nodes_next (nodes next) = some next
nodes_next (line s ls) = nodes_next ls

-- a line whose key is known and whose value is sound for it
abbrev pub SoundLine : List ℕ → Said → Type 0
SoundLine f s = SoundWord s.key s.value.start (part f s.value.start s.value.end)

-- The lines of a header are sound: `.nodes` is there, with the position after its line; each line before it is sound; and it is the
-- line after these, where 'the line counts from 1 at the top of the file'.
pub record SoundLines (f : List ℕ) (ls : Lines) (next lines : ℕ) : Type 0 where
  pub nodes_there : nodes_next ls ≡ some next
  pub each_sound : Each (SoundLine f) (all_of ls)
  pub counted : lines ≡ length (all_of ls) + 1

-- How the lines of a header are refused: with which number, and at which line.
pub data RefusedLines (f : List ℕ) (ls : Lines) : ℕ → ℕ → Type 0 where
  -- '10° input ends before `.nodes`', where each line is sound
  cut_short : nodes_next ls ≡ none → Each (SoundLine f) (all_of ls) → RefusedLines f ls 10 0
  -- a line has a fault, and those before it are sound: 'The line counts from 1 at the top of the file'
  faulty : {n : ℕ} (before : List Said) (s : Said) (after : List Said) → all_of ls ≡ before ++ (s ∷ after) → Each (SoundLine f) before
      → fault_in f s ≡ n → 1 ≤ n → RefusedLines f ls n (length before + 1)
