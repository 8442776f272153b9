-- How the cases of a file are counted.
use Rattle.std.specs.Prelude.{ℕ, ◌+◌, Bool, true, false, cond, ltb, Option, None, Some, Result, Ok, Err, List, ◌++◌, codes}
use Rattle.std.specs.Fmt.{decimal}
use Rattle.replay.specs.declared.End.{End}
use Rattle.replay.specs.declared.End.TheVariants as file
use Rattle.replay.specs.declared.Tally.{Tally}

-- one more, as far as is counted
abbrev pub one_more : ℕ → ℕ
one_more n = cond (ltb n 10000000) (n + 1) n

abbrev pub no_cases : Tally
no_cases = record { cases = 0; differ = 0; end = None }

-- a case more, of which the answer is the stored one or another; or the end, with the last case or inside one
abbrev pub tallied : Tally → Result Bool End → Tally
tallied t (Ok true) = record { cases = one_more t.cases; differ = t.differ; end = t.end }
tallied t (Ok false) = record { cases = one_more t.cases; differ = one_more t.differ; end = t.end }
tallied t (Err end) = record { cases = t.cases; differ = t.differ; end = Some end }

-- what is said of a file, by its counts and its end
abbrev pub said : ℕ → ℕ → Option End → List ℕ
said cases differ (Some file.NoMore) = decimal cases ++ (codes " cases, " ++ (decimal differ ++ codes " differ"))
said cases differ (Some file.Cut) = codes "cut off after " ++ (decimal cases ++ codes " cases")
said cases differ None = codes "cut off after " ++ (decimal cases ++ codes " cases")
