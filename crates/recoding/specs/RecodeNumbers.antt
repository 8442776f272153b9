-- Which numbers `recode` refuses with. Document 01, 'The program `recode`'.
use Rattle.std.specs.Prelude.{◌≡◌, ◌⊎◌, ℕ, ◌≤◌}

-- 1, where its scratch or its output is too short; 5, for the names that it passes on; else a number of the file's writer, or 40, all from 10 on
abbrev pub RecodeNumber : ℕ → Type 0
RecodeNumber n = (n ≡ 1) ⊎ ((n ≡ 5) ⊎ (10 ≤ n))
