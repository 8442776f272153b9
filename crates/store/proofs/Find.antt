-- A search finds the node that holds a level, a then and an else, which is the only one, or 0 where none does. Document 01, 'Store and
-- meaning': 'no two nodes alike'.
use mathlib.Core.Path.{◌≡◌, refl, sym, ap, ◌∙◌}
use mathlib.Core.Bool.{Bool, true, false, cond, ◌&&◌, true≢false}
use Prim.Native.Nat.{ℕ, zero, suc, ◌≤◌, ◌<◌}
use native.Mathlib.Omega.{arith}
use native.Mathlib.Nat.{le_refl}
use native.Mathlib.Decide.{ℕ_discrete}
use lib.Dec.{eqb}
use lib.IntN.{ℤ}
use borrow.Author.Tests.{eq-eqb, eqb-true}
use Rattle.codes.proofs.Bytes.{both}
use Rattle.edges.specs.Edge.{eq_z}
use Rattle.edges.proofs.Edge.{eq_z-true, eq_z-refl}
use Rattle.store.specs.Store.{Store, level_at, then_at, else_at}
use Rattle.store.specs.Rules.{Nodes}
use Rattle.store.specs.Make.{holds, find_up_to, find}

-- Node n holds a level, a then and an else.
pub record Holds (σ : Store) (n l : ℕ) (t e : ℤ) : Type 0 where
  pub level : level_at σ n ≡ l
  pub then : then_at σ n ≡ t
  pub els : else_at σ n ≡ e

-- no node does
abbrev pub Absent : Store → ℕ → ℤ → ℤ → Type 0
Absent σ l t e = (n : ℕ) → 2 ≤ n → n ≤ σ.count → Holds σ n l t e → ⊥

module _ (σ : Store) (l : ℕ) (t e : ℤ) where
  pub holds-true : (n : ℕ) → holds σ l t e n ≡ true → Holds σ n l t e
  holds-true n h =
      let p = both (eqb (level_at σ n) l && eq_z (then_at σ n) t) (eq_z (else_at σ n) e) h in
      let q = both (eqb (level_at σ n) l) (eq_z (then_at σ n) t) p.0 in
      record { level = eqb-true (level_at σ n) l q.0; then = eq_z-true (then_at σ n) t q.1; els = eq_z-true (else_at σ n) e p.1 }

  pub true-holds : (n : ℕ) → Holds σ n l t e → holds σ l t e n ≡ true
  true-holds n H = rw (H.level, H.then, H.els, eq-eqb l l refl, eq_z-refl t, eq_z-refl e)

  -- What a search of the nodes 2 to k gives.
  record Found (k r : ℕ) : Type 0 where
    none : r ≡ 0 → (n : ℕ) → 2 ≤ n → n ≤ k → Holds σ n l t e → ⊥
    low : 0 < r → 2 ≤ r
    high : r ≤ k
    here : 0 < r → Holds σ r l t e

  found : (k : ℕ) → Found k (find_up_to σ l t e k)
  unfolding find_up_to
  found zero = record { none = λ _ n p h _. omega arith; low = λ h. absurd (omega arith); high = omega arith; here = λ h. absurd (omega arith) }
  found (suc zero) = record { none = λ _ n p h _. omega arith; low = λ h. absurd (omega arith); high = omega arith; here = λ h. absurd (omega arith) }
  found (suc (suc k)) = go (holds σ l t e (suc (suc k))) refl (found (suc k))
    where
      go : (x : Bool) → holds σ l t e (suc (suc k)) ≡ x → Found (suc k) (find_up_to σ l t e (suc k)) → Found (suc (suc k)) (cond x (suc (suc k)) (find_up_to σ l t e (suc k)))
      go true q F = record { none = λ z. absurd (omega arith); low = λ _. omega arith; high = le_refl (suc (suc k)); here = λ _. holds-true (suc (suc k)) q }
      go false q F = record { none = λ z n p h H. rest z n p h H (ℕ_discrete n (suc (suc k))); low = F.low; high = omega (arith, F.high); here = F.here }
        where
          rest : find_up_to σ l t e (suc k) ≡ 0 → (n : ℕ) → 2 ≤ n → n ≤ suc (suc k) → Holds σ n l t e → Dec (n ≡ suc (suc k)) → ⊥
          rest z n p h H (yes x) = true≢false (sym (true-holds n H) ∙ ap (holds σ l t e) x ∙ q)
          rest z n p h H (no x) = F.none z n p (omega arith) H

  -- `find` gives 0 exactly where no node holds them, and else the node that does
  pub find_none : find σ l t e ≡ 0 → Absent σ l t e
  unfolding find
  find_none q = (found σ.count).none q

  pub find-some : 0 < find σ l t e → (2 ≤ find σ l t e) × (find σ l t e ≤ σ.count) × Holds σ (find σ l t e) l t e
  unfolding find
  find-some h = let F = found σ.count in (F.low h, F.high, F.here h)

  pub absent-find : Absent σ l t e → find σ l t e ≡ 0
  absent-find A = go (ℕ_discrete (find σ l t e) 0)
    where
      go : Dec (find σ l t e ≡ 0) → find σ l t e ≡ 0
      go (yes q) = q
      go (no f) = let s = find-some (omega arith) in absurd (A (find σ l t e) s.0 s.1 s.2)

  -- which is the only one
  pub holds-one : Nodes σ → (a b : ℕ) → 2 ≤ a → a ≤ σ.count → 2 ≤ b → b ≤ σ.count → Holds σ a l t e → Holds σ b l t e → a ≡ b
  holds-one N a b a2 ac b2 bc H K = N.alone a b a2 ac b2 bc (record { level = H.level ∙ sym K.level; then = H.then ∙ sym K.then; els = H.els ∙ sym K.els })

  pub find-is : Nodes σ → (n : ℕ) → 2 ≤ n → n ≤ σ.count → Holds σ n l t e → find σ l t e ≡ n
  find-is N n p h H = go (ℕ_discrete (find σ l t e) 0)
    where
      go : Dec (find σ l t e ≡ 0) → find σ l t e ≡ n
      go (yes q) = absurd (find_none q n p h H)
      go (no f) = let s = find-some (omega arith) in holds-one N (find σ l t e) n s.0 s.1 p h s.2 H
