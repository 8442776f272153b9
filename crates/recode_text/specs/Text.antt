-- The line that tells a refusal. Document 01, 'The program `recode`': 'or one line `refused N line M`'.
use Rattle.std.specs.Prelude.{ℕ, List, ◌++◌}
use Rattle.codes.specs.Texts.{bytes}
use Rattle.writers.specs.Decimal.{decimal}

-- 'refused ' and ' line '
abbrev pub refused_word : List ℕ
refused_word = bytes "refused "

abbrev pub line_word : List ℕ
line_word = bytes " line "

-- a refusal's number and line in decimal digits; LF ends the line
unfoldable pub refusal_text : ℕ → ℕ → List ℕ
refusal_text n line = refused_word ++ (decimal n ++ (line_word ++ (decimal line ++ (bytes "\n"))))
