-- What the answers of the code stand for.
use Rattle.std.specs.Prelude.{ℕ, length, List, [], Result, Ok, Err}
use Rattle.codes.specs.declared.refusal.Fault.{Fault}
use Rattle.header.specs.Header as head
use Rattle.recode_levels.specs.Levels.{level_list}
use Rattle.recoding.specs.Recode as recode

-- the length of the file that is written, or a refusal and its line
abbrev pub of_recoded : Result ℕ Fault → recode.Recoded
of_recoded (Ok n) = recode.written n
of_recoded (Err t) = recode.refusal t.number t.line

-- the level count and the length of the level list, or a refusal and its line
abbrev pub plan_by : head.HeaderLoaded → head.HeaderAnswer → Result (ℕ × ℕ) Fault
plan_by r (head.header h) = Ok (h.nvars, length (level_list h.nvars r.permids))
plan_by r (head.refusal n line) = Err (record { number = n; line = line })

-- the level list; none on a refusal
abbrev pub list_by : head.HeaderLoaded → head.HeaderAnswer → List ℕ
list_by r (head.header h) = level_list h.nvars r.permids
list_by r (head.refusal n line) = []

-- by the answer of the load
abbrev pub planned_list : head.HeaderLoaded → List ℕ
planned_list r = list_by r r.answer
