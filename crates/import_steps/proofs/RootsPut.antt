-- The edges of the roots, put in place of their numbers one by one.
use mathlib.Core.Path.{◌≡◌}
use mathlib.Core.Bool.{Bool, true, false}
use mathlib.Core.List.{List}
use Prim.Native.Nat.{ℕ, ◌≤◌}
use lib.IntN.{ℤ, pos}
use lib.ListN.{length}
use Rattle.imported.specs.Import.{root_edge, roots_by}
use Rattle.import_steps.proofs.Mapped.{Mapped, mapped_end}

-- what stands in place of a root
abbrev root_by : Bool → List ℤ → ℤ → ℤ
root_by true edges r = root_edge edges r
root_by false edges r = pos 0

-- the roots before i are put
abbrev pub Put : Bool → List ℤ → List ℤ → List ℤ → ℕ → Type 0
Put ok edges old roots i = Mapped (pos 0) (root_by ok edges) old roots i

-- at the end all are put
pub put-end : (ok : Bool) (edges : List ℤ) {old roots : List ℤ} {i : ℕ} → Put ok edges old roots i → length roots ≤ i → roots ≡ roots_by ok edges old
put-end true edges p h = mapped_end p h
put-end false edges p h = mapped_end p h
