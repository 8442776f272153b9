-- What the steps ask of a store, where it keeps the rules and two edges of it are apart.
use Prim.Native.Nat.{◌≤◌}
use native.Mathlib.Omega.{arith}
use lib.IntN.{ℤ, nat_abs}
use Rattle.codes.specs.Limits.{limits}
use Rattle.store.specs.Store.{Store}
use Rattle.store.specs.Rules.{Rules}
use Rattle.store.specs.Growth.{EdgeOf}
use Rattle.joined.specs.Shortcuts.{Apart}
use Rattle.join_steps.specs.Slots.{Slots, SplitAsks}

-- What the slot of a node holds, in a store within the limits, is an edge of the width.
slots-of : (σ : Store) (e : ℤ) → EdgeOf σ e → 2 ≤ nat_abs e → Rules limits σ → Slots σ e
slots-of σ e E h R =
    let N = R.nodes.fits (nat_abs e) h E.there in
    let z = R.sizes in
    record {
      some = E.some;
      then_long = omega (arith, E.there, z.count_slots, z.then_long);
      else_long = omega (arith, E.there, z.count_slots, z.els_long);
      then_edge = omega (arith, N.then_low, z.count_limit, E.there);
      else_edge = omega (arith, N.else_low, z.count_limit, E.there);
    }

pub asks_of : (σ : Store) (a b : ℤ) → EdgeOf σ a → EdgeOf σ b → Apart a b → Rules limits σ → SplitAsks σ a b
asks_of σ a b E F D R =
    let z = R.sizes in
    record {
      left_deep = omega (arith, E.some, D.left);
      right_deep = omega (arith, F.some, D.right);
      left_level = omega (arith, E.there, z.count_slots);
      right_level = omega (arith, F.there, z.count_slots);
      left = slots-of σ a E (omega (arith, E.some, D.left)) R;
      right = slots-of σ b F (omega (arith, F.some, D.right)) R;
    }
