-- The numbers of the refusals. Document 01, 'Answers, by who can cause them', and document 02's.
use Rattle.std.specs.Prelude.{ℕ, Result, Ok, Err}
use Rattle.codes.specs.Answer.{Read, value, refused, Step, got, fails}
use Rattle.codes.specs.declared.refusal.Refusal.{Refusal}
use Rattle.codes.specs.declared.refusal.Refusal.TheVariants as refusal
use Rattle.codes.specs.declared.refusal.Fault.{Fault}

-- the number of each
abbrev pub number_of : Refusal → ℕ
number_of refusal.TooShort = 1
number_of refusal.BadLevels = 2
number_of refusal.BrokenStore = 3
number_of refusal.BadRootOrSetting = 4
number_of refusal.BadName = 5
number_of refusal.BadOrder = 6
number_of refusal.NoNodes = 10
number_of refusal.UnknownKey = 11
number_of refusal.BadVersion = 12
number_of refusal.BadMode = 13
number_of refusal.NotANumber = 14
number_of refusal.TooLarge = 15
number_of refusal.Foreign = 16
number_of refusal.MisplacedMinus = 17
number_of refusal.NotUtf8 = 18
number_of refusal.OverLimit = 19
number_of refusal.OverNvars = 20
number_of refusal.WrongCount = 21
number_of refusal.BadIds = 22
number_of refusal.BadPermids = 23
number_of refusal.UnlikeNames = 24
number_of refusal.ZeroRoot = 25
number_of refusal.RootOverNnodes = 26
number_of refusal.EndsEarly = 30
number_of refusal.WrongNode = 31
number_of refusal.BadLine = 32
number_of refusal.BadTerminal = 33
number_of refusal.BadVariable = 34
number_of refusal.BadChild = 35
number_of refusal.BadLevel = 36
number_of refusal.BadEscape = 37
number_of refusal.Over64Bits = 38
number_of refusal.NoEnd = 39
number_of refusal.NoRoom = 40
number_of refusal.NoSetting = 41
number_of refusal.NoFlip = 42

-- a `Result` as a reader's answer
abbrev pub read_of : {A : Type 0} → Result A Refusal → Read A
read_of (Ok a) = value a
read_of (Err r) = refused (number_of r)

-- the same with the position after the value
abbrev pub step_of : {A : Type 0} → Result (A × ℕ) Refusal → Step A
step_of (Ok (a, next)) = got a next
step_of (Err r) = fails (number_of r)

-- what refuses, 0 for nothing
abbrev pub fault_of : Result Unit Refusal → ℕ
fault_of (Ok u) = 0
fault_of (Err r) = number_of r

-- a refusal of a line
abbrev pub fault_at : Refusal → ℕ → Fault
fault_at r n = record { number = number_of r; line = n }
