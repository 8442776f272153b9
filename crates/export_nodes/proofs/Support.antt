-- The support of an export: how long it is, and where the level of a line stands in it.
use mathlib.Core.Path.{◌≡◌}
use mathlib.Core.Bool.{Bool, true, false, cond}
use mathlib.Core.List.{List, ◌∷◌}
use Prim.Native.Nat.{ℕ, zero, suc, ◌+◌, ◌-◌, ◌≤◌, ◌<◌}
use native.Mathlib.Omega.{arith}
use lib.ListN.{length, get_or}
use Rattle.store.specs.Store.{Store, level_at}
use Rattle.seats.specs.Seats.{seat_of}
use Rattle.seats.proofs.Seating.{seat-most}
use Rattle.numbering.specs.Numbering.{at_depth}
use Rattle.numbering.specs.Support.{some, support_from, leveled, support_of}
use Rattle.export_support.proofs.SupportLevels.{support-has}
use Rattle.export_nodes.proofs.Renumbered.{seat-back, InnerAt}

-- of k levels there are k at most
from-few : (σ : Store) (ns : List ℕ) (k l : ℕ) → length (support_from k l σ ns) ≤ k
unfolding support_from
from-few σ ns zero l = omega arith
from-few σ ns (suc k) l = go (some (at_depth σ l ns)) (support_from k (l + 1) σ ns) (from-few σ ns k (l + 1))
  where
    go : (b : Bool) (s : List ℕ) → length s ≤ k → length (cond b (l ∷ s) s) ≤ suc k
    go true s h = omega arith
    go false s h = omega arith

-- it is no longer than the store has levels, which are 4,096 at most
pub support-few : (σ : Store) (ns : List ℕ) → length (support_of σ ns) ≤ σ.levels
support-few σ ns = from-few (leveled σ) ns σ.levels 0

module _ {σ : Store} {ns : List ℕ} {i n : ℕ} (I : InnerAt σ ns i n) where
  -- the level of a line is in it ..
  pub level-seated : 1 ≤ seat_of (level_at σ n) (support_of σ ns)
  level-seated =
      let e = seat-back n ns I.seated in
      rw e at (support-has σ ns (seat_of n ns - 1) (omega (arith, I.seated, seat-most n ns)) (rw e I.node) (rw e I.fits.level_low))

  -- .. and stands at the line's support position
  pub level-back : get_or (support_of σ ns) (seat_of (level_at σ n) (support_of σ ns) - 1) 0 ≡ level_at σ n
  level-back = seat-back (level_at σ n) (support_of σ ns) level-seated

  pub position-low : seat_of (level_at σ n) (support_of σ ns) - 1 < length (support_of σ ns)
  position-low = omega (arith, level-seated, seat-most (level_at σ n) (support_of σ ns))
