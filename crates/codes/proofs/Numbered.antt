-- Laws of refusals: each has a number, and what a call hands on is that of the call before.
use mathlib.Core.Path.{◌≡◌, refl}
use mathlib.Core.List.{List, ◌∷◌}
use Prim.Native.Nat.{ℕ, ◌≤◌}
use native.Mathlib.Omega.{arith}
use Rattle.codes.specs.Faults.{first_fault}
use Rattle.codes.specs.Refusals.{number_of}
use Rattle.codes.proofs.Faults.{refuses, passes}
use Rattle.codes.specs.declared.refusal.Refusal.{Refusal}
use Rattle.codes.specs.declared.refusal.Refusal.TheVariants as refusal

-- no refusal has the number that stands for none
pub number-positive : (r : Refusal) → 1 ≤ number_of r
number-positive refusal.TooShort = omega arith
number-positive refusal.BadLevels = omega arith
number-positive refusal.BrokenStore = omega arith
number-positive refusal.BadRootOrSetting = omega arith
number-positive refusal.BadName = omega arith
number-positive refusal.BadOrder = omega arith
number-positive refusal.NoNodes = omega arith
number-positive refusal.UnknownKey = omega arith
number-positive refusal.BadVersion = omega arith
number-positive refusal.BadMode = omega arith
number-positive refusal.NotANumber = omega arith
number-positive refusal.TooLarge = omega arith
number-positive refusal.Foreign = omega arith
number-positive refusal.MisplacedMinus = omega arith
number-positive refusal.NotUtf8 = omega arith
number-positive refusal.OverLimit = omega arith
number-positive refusal.OverNvars = omega arith
number-positive refusal.WrongCount = omega arith
number-positive refusal.BadIds = omega arith
number-positive refusal.BadPermids = omega arith
number-positive refusal.UnlikeNames = omega arith
number-positive refusal.ZeroRoot = omega arith
number-positive refusal.RootOverNnodes = omega arith
number-positive refusal.EndsEarly = omega arith
number-positive refusal.WrongNode = omega arith
number-positive refusal.BadLine = omega arith
number-positive refusal.BadTerminal = omega arith
number-positive refusal.BadVariable = omega arith
number-positive refusal.BadChild = omega arith
number-positive refusal.BadLevel = omega arith
number-positive refusal.BadEscape = omega arith
number-positive refusal.Over64Bits = omega arith
number-positive refusal.NoEnd = omega arith
number-positive refusal.NoRoom = omega arith
number-positive refusal.NoSetting = omega arith
number-positive refusal.NoFlip = omega arith

pub number-not-none : (r : Refusal) → number_of r ≡ 0 → ⊥
number-not-none r e = let p = number-positive r in omega arith

-- A check that refuses decides.
pub refuses-with : (r : Refusal) {n : ℕ} (l : List ℕ) → number_of r ≡ n → number_of r ≡ first_fault (n ∷ l)
refuses-with r l e = refuses l e (number-not-none r)

-- One that doesn't leaves it to those after it.
pub passes-on : {n : ℕ} (l : List ℕ) → 0 ≡ n → first_fault l ≡ first_fault (n ∷ l)
passes-on l e = passes l e refl
