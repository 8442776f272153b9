-- Stores over lists that stay the same.
use mathlib.Core.Path.{refl, ◌∙◌}
use Rattle.store.specs.declared.StoreMut.{StoreMut}
use Rattle.store.specs.Held.{SameLists}

-- a store has its own lists
pub same-start : (s : StoreMut) → SameLists s s
same-start s = record { level = refl; then = refl; els = refl; next = refl; heads = refl }

-- and over one step after another they stay
pub same-on : {s t u : StoreMut} → SameLists s t → SameLists t u → SameLists s u
same-on a b = record {
  level = b.level ∙ a.level;
  then = b.then ∙ a.then;
  els = b.els ∙ a.els;
  next = b.next ∙ a.next;
  heads = b.heads ∙ a.heads;
}
