-- The test of the zeros: slot 1, then each slot after the used ones.
use mathlib.Core.Path.{◌≡◌, refl, sym}
use mathlib.Core.Bool.{Bool, true, false, ◌&&◌, true≢false}
use Prim.Native.Nat.{ℕ, ◌+◌, ◌≤◌, ◌<◌}
use native.Mathlib.Omega.{arith}
use native.Mathlib.Decide.{ℕ_discrete}
use lib.ListN.{length}
use Rattle.store.specs.Store.{Store}
use Rattle.store.specs.Rules.{Zero, Zeros}
use Rattle.store.specs.Keeps.{Decides}
use Rattle.node_rules.proofs.Decided.{decides-as}

-- answers put together
decides-both : {P Q : Type 0} (a b : Bool) → Decides a P → Decides b Q → Decides (a && b) (P × Q)
decides-both true b d e = record { yes = λ h. (d.yes refl, e.yes h); no = λ h z. e.no h z.1 }
decides-both false b d e = record { yes = λ h. absurd (true≢false (sym h)); no = λ h z. d.no refl z.0 }

module _ (σ : Store) where
  -- an answer says whether slot 1 and those after the used ones and up to n are zero
  pub record Looked (zero : Bool) (n : ℕ) : Type 0 where
    pub low : σ.count ≤ n
    pub high : n ≤ length σ.level
    pub so_far : Decides zero (Zero σ 1 × ((i : ℕ) → σ.count < i → i ≤ n → Zero σ i))

  pub look-start : {r : Bool} → Decides r (Zero σ 1) → σ.count ≤ length σ.level → Looked r σ.count
  look-start d h = record {
    low = omega arith;
    high = h;
    so_far = decides-as (λ z. (z, λ i a b. absurd (omega arith))) (λ z. z.0) d;
  }

  module _ {zero : Bool} {n : ℕ} (k : Looked zero n) where
    -- one slot more
    pub look-more : n < length σ.level → {r : Bool} → Decides r (Zero σ (n + 1)) → Looked (zero && r) (n + 1)
    look-more h d = record {
      low = omega (arith, k.low);
      high = omega arith;
      so_far = decides-as
          (λ z. (z.0.0, λ i a b. go z.0.1 z.1 i a b (ℕ_discrete i (n + 1))))
          (λ z. ((z.0, λ i a b. z.1 i a (omega arith)), z.1 (n + 1) (omega (arith, k.low)) (omega arith)))
          (decides-both _ _ k.so_far d);
    }
      where
        go : ((i : ℕ) → σ.count < i → i ≤ n → Zero σ i) → Zero σ (n + 1) → (i : ℕ) → σ.count < i → i ≤ n + 1 → Dec (i ≡ n + 1) → Zero σ i
        go f z i a b (yes y) = rw y z
        go f z i a b (no g) = f i a (omega arith)

    pub look-end : length σ.level ≤ n → Decides zero (Zeros σ)
    look-end h = decides-as
        (λ z. record { first = z.0; unused = λ i a b. z.1 i a (omega arith) })
        (λ z. (z.first, λ i a b. z.unused i a (omega (arith, k.high))))
        k.so_far
