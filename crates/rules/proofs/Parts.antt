-- What the parts of the check say together are the rules.
use mathlib.Core.Path.{◌≡◌, sym}
use mathlib.Core.Bool.{Bool}
use Prim.Native.Nat.{ℕ, ◌≤◌, ◌<◌}
use native.Mathlib.Omega.{arith}
use native.Mathlib.Decide.{dec_lt}
use Rattle.store.specs.Store.{Store}
use Rattle.codes.specs.Limits.{limits}
use Rattle.store.specs.Rules.{Sizes, AlikeNodes, Nodes, Chains, Zeros}
use Rattle.store.specs.Keeps.{Decides, keeps, is-keeps}
use Rattle.unique_table.specs.Index.{AllAlone}
use Rattle.node_rules.specs.Check.{AllFit}
use Rattle.node_rules.proofs.Decided.{decides-as}

module _ (σ : Store) where
  pub nodes-alone : Nodes σ → AllAlone σ σ.count
  nodes-alone N n p h m g l a =
      let z : m ≡ n = N.alone m n g (omega arith) p h a in
      omega arith

  pub parts-nodes : AllFit σ → AllAlone σ σ.count → Nodes σ
  parts-nodes F A = record { fits = F; alone = λ m n a b c d x. alone m n a b c d x (dec_lt m n) (dec_lt n m) }
    where
      alone : (m n : ℕ) → 2 ≤ m → m ≤ σ.count → 2 ≤ n → n ≤ σ.count → AlikeNodes σ m n → Dec (m < n) → Dec (n < m) → m ≡ n
      alone m n a b c d x (yes l) r = absurd (A n c d m a l x)
      alone m n a b c d x (no f) (yes l) = absurd (A m a b n c l (record { level = sym x.level; then = sym x.then; els = sym x.els }))
      alone m n a b c d x (no f) (no g) = omega arith

  -- The answer of the whole check, where all parts but the last say yes: that of the last part.
  pub by_alone : Sizes limits σ → AllFit σ → Chains σ → Zeros σ → {r : Bool} → Decides r (AllAlone σ σ.count) → r ≡ keeps limits σ
  by_alone z f c y d = is-keeps _ _ _ (decides-as
      (λ a. record { sizes = z; nodes = parts-nodes f a; chains = c; zeros = y })
      (λ R. nodes-alone R.nodes) d)
