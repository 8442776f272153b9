-- Lent parts in a promise, and what a lent list holds. A part is what a reference of a call holds, as the call starts and as it ends. So a promise
-- can be a definition over the parameters themselves: in an `ensures`, `seen x` is the part that `x: &X` lends, and `borrowed x` the one of `x: &mut X`.
use Rattle.std.specs.Prelude.{List, [], ◌∷◌}
use Rattle.std.specs.Borrow.{Bor, MutBor}
use denote.Triple.Both.{Both}

-- a part that is lent to a call
pub record Part (X : Type 0) : Type 0 where
  pub at_start : X
  pub at_end : X

-- what a part holds as the call starts, and as it ends
abbrev pub old : {X : Type 0} → Part X → X
old p = p.at_start

abbrev pub new : {X : Type 0} → Part X → X
new p = p.at_end

-- the part that a parameter lends: one that is only read, and one that may be written
abbrev pub seen : {X : Type 0} → Both (Bor X) (Bor X) → Part X
seen x = record { at_start = x.entry.now; at_end = x.exit.now }

abbrev pub borrowed : {X : Type 0} → Both (MutBor X) (MutBor X) → Part X
borrowed x = record { at_start = x.entry.now; at_end = x.exit.now }

-- The entries laid over the front of a lent list, as far as it reaches; the rest of it is as it was.
unfoldable pub laid : {A : Type 0} → List A → List A → List A
laid [] old = old
laid (e ∷ es) [] = []
laid (e ∷ es) (o ∷ old) = e ∷ laid es old
