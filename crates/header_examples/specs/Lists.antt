-- Files by their lines: a key, and words with a space before each.
use Rattle.std.specs.Prelude.{ℕ, List, [], ◌∷◌, ◌++◌, replicate}
use Rattle.codes.specs.Texts.{bytes}
use Rattle.header_keys.specs.declared.Key.{Key}
use Rattle.heading.specs.Lines.{HeaderLine, line, lines_text}

-- a file that starts with lines and one more, whatever follows
abbrev pub starting_with : List HeaderLine → HeaderLine → List ℕ → List ℕ
starting_with ls l rest = lines_text (ls ++ (l ∷ [])) ++ rest

-- a list of so many ones, and what stands behind them
abbrev pub ones_line : Key → ℕ → List (List ℕ) → HeaderLine
ones_line k n more = line k (replicate n (bytes "1") ++ more)
