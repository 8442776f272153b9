-- Answers of a check, put together from the answers of its parts.
use mathlib.Core.Bool.{Bool}
use Rattle.store.specs.Keeps.{Decides}

-- an answer about P answers what says the same
pub decides-as : {P Q : Type 0} {r : Bool} → (P → Q) → (Q → P) → Decides r P → Decides r Q
decides-as f g d = record { yes = λ q. f (d.yes q); no = λ q x. d.no q (g x) }
