-- The test of a node: its level, its then and its else.
use mathlib.Core.Path.{◌≡◌, refl, ap}
use mathlib.Core.Bool.{Bool, true, false}
use Prim.Native.Nat.{ℕ, zero, suc, ◌-◌, ◌<◌}
use lib.ListN.{get_or}
use lib.IntN.{ℤ, pos, negsuc, nat_abs}
use Rattle.edges.specs.Edge.{minus, eq_z}
use Rattle.edges.proofs.Edge.{plain-is, eq_z-true, eq_z-false}
use Rattle.store.specs.Store.{Store}
use Rattle.store.specs.Rules.{depth, Fits}
use Rattle.store.specs.Keeps.{Decides}
use Rattle.node_rules.specs.Check.{ChildFits}

-- whether a node fits is a matter of the levels
module _ (σ τ : Store) (p : σ.levels ≡ τ.levels) (q : σ.level ≡ τ.level) where
  depth_same : (n : ℕ) → depth σ n ≡ depth τ n
  depth_same zero = p
  depth_same (suc zero) = p
  depth_same (suc (suc k)) = ap (λ l. get_or l (suc (suc k) - 1) 0) q

  pub fits-same : (n l : ℕ) (t e : ℤ) → Fits σ n l t e → Fits τ n l t e
  fits-same n l t e F = record {
    positive = F.positive;
    differ = F.differ;
    then_some = F.then_some;
    then_low = F.then_low;
    else_some = F.else_some;
    else_low = F.else_low;
    then_deep = rw (depth_same (nat_abs t)) at F.then_deep;
    else_deep = rw (depth_same (nat_abs e)) at F.else_deep;
    level_low = rw p at F.level_low;
  }

-- the test of a node
module _ (σ : Store) (n l : ℕ) (t e : ℤ) where
  pub not_minus : Fits σ n l t e → minus t ≡ false
  unfolding minus
  not_minus F = go t F.positive
    where
      go : (t : ℤ) → t ≡ pos (nat_abs t) → minus t ≡ false
      go (pos k) p = refl
      go (negsuc k) p = cc

  pub not_alike : Fits σ n l t e → eq_z t e ≡ false
  not_alike F = go (eq_z t e) refl
    where
      go : (b : Bool) → eq_z t e ≡ b → b ≡ false
      go true q = absurd (F.differ (eq_z-true t e q))
      go false q = refl

  pub fits_then : Fits σ n l t e → ChildFits σ n l t
  fits_then F = record { some = F.then_some; low = F.then_low; deep = F.then_deep }

  pub fits-else : Fits σ n l t e → ChildFits σ n l e
  fits-else F = record { some = F.else_some; low = F.else_low; deep = F.else_deep }

  -- where all else holds, the test of the else child decides
  pub fits_last : l < σ.levels → minus t ≡ false → eq_z t e ≡ false → ChildFits σ n l t → {r : Bool} → Decides r (ChildFits σ n l e)
      → Decides r (Fits σ n l t e)
  fits_last k h x c d = record {
    yes = λ q. let w = d.yes q in record {
      positive = plain-is t h;
      differ = eq_z-false t e x;
      then_some = c.some;
      then_low = c.low;
      then_deep = c.deep;
      else_some = w.some;
      else_low = w.low;
      else_deep = w.deep;
      level_low = k;
    };
    no = λ q F. d.no q (fits-else F);
  }
