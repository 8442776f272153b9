-- `write_escaped` meets its contract: a byte is written as it is, or as a 00 and the code that its arm chose.
use mathlib.Core.Path.{◌≡◌, refl, ap}
use mathlib.Core.List.{[], ◌∷◌}
use native.Mathlib.Omega.{arith}
use native.Mathlib.Numerals.{add-one}
use lib.ListN.{length, length-set}
use Rattle.writers.specs.Binary.{escaped}
use Rattle.writers.proofs.Sets.{wrote-byte}
use Rattle.writers.proofs.Escaped.{escaped-plain}
use Rattle.writers.proofs.binary.write_escaped.Goals.{in-0, in-10, in-13, in-26}
use Rattle.writers.proofs.binary.write_escaped.Goals as goal

plain : (c : goal.In_default) → escaped c.args.b ≡ c.args.b ∷ []
plain c = escaped-plain _ (omega arith) (omega arith) (omega arith) (omega arith)

coded : (c : goal.Joined-b) → escaped c.args.b ≡ 0x00 ∷ c.match-b.code ∷ []
unfolding escaped
coded c =
    elim c.match-b.branch [
      | in-0 w ↦ rw (w.in-0.is, w.code-is)
      | in-10 w ↦ rw (w.in-10.is, w.code-is)
      | in-13 w ↦ rw (w.in-13.is, w.code-is)
      | in-26 w ↦ rw (w.in-26.is, w.code-is)
    ]

pub bounds-out-at : goal.bounds-out-at
bounds-out-at c = omega (arith, ap length (plain c))

pub returns-in_default : goal.returns-in_default
returns-in_default c = rw (plain c) (wrote-byte _ _ _)

pub bounds-out-at-2 : goal.bounds-out-at-2
bounds-out-at-2 c = omega (arith, ap length (coded c))

pub bounds-out-at-3 : goal.bounds-out-at-3
bounds-out-at-3 c = simp length-set (omega (arith, ap length (coded c)))

pub returns : goal.returns
returns c = rw (coded c) (record { next = refl; bytes = rw add-one })
