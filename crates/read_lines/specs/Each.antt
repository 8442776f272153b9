-- A property of each element of a list.
use Rattle.std.specs.Prelude.{List, [], ◌∷◌}

pub data Each {A : Type 0} (P : A → Type 0) : List A → Type 0 where
  none : Each P []
  each : {a : A} {l : List A} → P a → Each P l → Each P (a ∷ l)
