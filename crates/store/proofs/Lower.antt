-- The nodes of a store up to one of them keep the rules of nodes by themselves.
use Prim.Native.Nat.{ℕ, zero, suc, ◌≤◌}
use mathlib.Core.Path.{◌≡◌, refl}
use mathlib.Core.List.{[]}
use native.Mathlib.Omega.{arith}
use lib.IntN.{nat_abs}
use Rattle.store.specs.Store.{Store, store, then_at, else_at}
use Rattle.store.specs.Rules.{depth, Nodes}

module _ (σ : Store) (n : ℕ) where
  abbrev lower : Store
  lower = store σ.levels n σ.level σ.then σ.els [] []

  same-depth : (k : ℕ) → depth σ k ≡ depth lower k
  same-depth zero = refl
  same-depth (suc zero) = refl
  same-depth (suc (suc k)) = refl

  pub nodes-lower : Nodes σ → n ≤ σ.count → Nodes (store σ.levels n σ.level σ.then σ.els [] [])
  nodes-lower N h =
      record {
        fits = λ k p q. let F = N.fits k p (omega arith) in record {
          positive = F.positive;
          differ = F.differ;
          then_some = F.then_some;
          then_low = F.then_low;
          then_deep = rw (← same-depth (nat_abs (then_at σ k))) F.then_deep;
          else_some = F.else_some;
          else_low = F.else_low;
          else_deep = rw (← same-depth (nat_abs (else_at σ k))) F.else_deep;
          level_low = F.level_low;
        };
        alone = λ j k p q p' q' A. N.alone j k p (omega arith) p' (omega arith) (record { level = A.level; then = A.then; els = A.els });
      }
