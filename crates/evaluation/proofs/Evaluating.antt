-- Evaluation's checks of root and setting, and what they give the walk.
use Prim.Native.Nat.{ℕ, zero, suc, ◌≤◌, ◌<◌}
use mathlib.Core.Path.{◌≡◌, refl, sym, ap, ◌∙◌}
use mathlib.Core.Bool.{Bool, true, false, not, cond, ◌&&◌, true≢false}
use mathlib.Core.List.{List, [], ◌∷◌}
use mathlib.Core.Logic.{◌↔◌}
use native.Mathlib.Omega.{arith}
use borrow.Author.Tests.{leb-true, le-leb, eqb-true}
use lib.Dec.{eqb, leb}
use lib.ListN.{length, get_or}
use lib.IntN.{ℤ, nat_abs}
use Rattle.codes.proofs.Bytes.{both}
use Rattle.codes.specs.Answer.{Read, value, refused}
use Rattle.store.specs.Store.{Store}
use Rattle.codes.specs.Limits.{Limits, limits}
use Rattle.store.specs.Rules.{Rules}
use Rattle.store.specs.Meaning.{setting_of, answer}
use Rattle.store.specs.Keeps.{keeps, keeps-true, rules-keeps}
use Rattle.store.specs.Growth.{is_root, EdgeOf}
use Rattle.evaluation.specs.Evaluation.{only_bits, is_setting, evaluation_fault, evaluation}
use Rattle.evaluation.specs.Evaluated.{Walks}
use Rattle.store.proofs.Growth.{root-edge, edge-root}
use Rattle.store.proofs.Lower.{nodes-lower}

-- every byte is 00 or 01
bits-each : (s : List ℕ) → only_bits s ≡ true → (k : ℕ) → k < length s → get_or s k 0 ≤ 1
unfolding only_bits
bits-each [] q k h = absurd (omega arith)
bits-each (x ∷ s) q zero h = leb-true x 1 (both (leb x 1) (only_bits s) q).0
bits-each (x ∷ s) q (suc k) h = bits-each s (both (leb x 1) (only_bits s) q).1 k (omega arith)

each-bits : (s : List ℕ) → ((k : ℕ) → k < length s → get_or s k 0 ≤ 1) → only_bits s ≡ true
unfolding only_bits
each-bits [] f = refl
each-bits (x ∷ s) f = rw (le-leb x 1 (f 0 (omega arith))) (each-bits s (λ k h. f (suc k) (omega arith)))

pub bits_decided : (s : List ℕ) (r : Bool) → (r ≡ true) ↔ ((k : ℕ) → k < length s → get_or s k 0 ≤ 1) → r ≡ only_bits s
bits_decided s true d = sym (each-bits s (d.0 refl))
bits_decided s false d = go (only_bits s) refl
  where
    go : (b : Bool) → only_bits s ≡ b → false ≡ only_bits s
    go true q = absurd (true≢false (sym (d.1 (bits-each s q))))
    go false q = sym q

-- a setting has a byte for each level
pub setting-long : (s : List ℕ) (levels : ℕ) → (eqb (length s) levels && only_bits s) ≡ true → length s ≡ levels
setting-long s levels h = go (eqb (length s) levels) refl h where
  go : (b : Bool) → eqb (length s) levels ≡ b → (b && only_bits s) ≡ true → length s ≡ levels
  go true k h = eqb-true (length s) levels k
  go false k h = absurd (true≢false (sym h))

-- a store that keeps the rules can be walked down from each of its nodes, at each setting of its levels
pub rules-walk : {σ : Store} {s : List ℕ} → Rules limits σ → (n : ℕ) → n ≤ σ.count → length s ≡ σ.levels → Walks σ s n
rules-walk {σ} r n h l =
    let z = r.sizes in
    record {
      small = omega arith;
      level_long = omega arith;
      then_long = omega arith;
      els_long = omega arith;
      nodes = rw l (nodes-lower σ n r.nodes h);
    }

-- what the code's tests say
pub passes : {a b : Bool} → a ≡ b → not a ≡ false → b ≡ true
passes {a = true} h k = sym h
passes {a = false} h k = absurd (true≢false k)

pub fails : {a b : Bool} → a ≡ b → not a ≡ true → b ≡ false
fails {a = true} h k = absurd (true≢false (sym k))
fails {a = false} h k = sym h

-- Nothing refuses an evaluation: the store keeps its rules, the root is an edge of it, and the setting one of its levels.
pub record Evaluates (m : Limits) (σ : Store) (e : ℤ) (s : List ℕ) : Type 0 where
  pub rules : Rules m σ
  pub edge : EdgeOf σ e
  pub setting : is_setting σ s ≡ true

module _ (m : Limits) (σ : Store) (e : ℤ) (s : List ℕ) where
  -- What refuses a call with these checks is its refusal, or there is nothing: r is what it gives past them.
  abbrev Judged : {A : Type 0} → Read A → ℕ → Type 0
  Judged r n =
      (n ≡ 0 → Evaluates m σ e s) × ((n ≡ 0 → ⊥) → cond (keeps m σ) (cond (is_root σ e && is_setting σ s) r (refused 4)) (refused 3) ≡ refused n)

  judged-by : {A : Type 0} (r : Read A) (a b c : Bool) → keeps m σ ≡ a → is_root σ e ≡ b → is_setting σ s ≡ c → Judged r (cond a (cond (b && c) 0 4) 3)
  judged-by r false b c p q t = (λ z. absurd (omega arith), λ z. rw p)
  judged-by r true false c p q t = (λ z. absurd (omega arith), λ z. rw (p, q))
  judged-by r true true false p q t = (λ z. absurd (omega arith), λ z. rw (p, q, t))
  judged-by r true true true p q t = (λ z. record { rules = keeps-true m σ p; edge = root-edge σ e q; setting = t }, λ z. absurd (z refl))

  pub judged : {A : Type 0} (r : Read A) → Judged r (evaluation_fault m σ e s)
  unfolding evaluation_fault
  judged r = judged-by r (keeps m σ) (is_root σ e) (is_setting σ s) refl refl refl

  -- where nothing does, it gives that
  pub past-checks : {A : Type 0} (r : Read A) → Evaluates m σ e s → cond (keeps m σ) (cond (is_root σ e && is_setting σ s) r (refused 4)) (refused 3) ≡ r
  past-checks r w = rw (rules-keeps m σ w.rules, edge-root σ e w.edge, w.setting)

-- The walk down from the root is given what it asks,
pub fault-walks : (σ : Store) (e : ℤ) (s : List ℕ) → 0 ≡ evaluation_fault limits σ e s → Walks σ s (nat_abs e)
fault-walks σ e s q =
    let w = (judged limits σ e s (value true)).0 (sym q) in
    rules-walk w.rules (nat_abs e) w.edge.there (setting-long s σ.levels w.setting)

-- and its answer, or the refusal, is the definition's.
module _ (σ : Store) (e : ℤ) (s : List ℕ) where
  pub fault-refuses : {n : ℕ} → n ≡ evaluation_fault limits σ e s → (n ≡ 0 → ⊥) → refused n ≡ evaluation limits σ e s
  unfolding evaluation
  fault-refuses q h = sym (rw q ((judged limits σ e s (value (answer σ (setting_of s) e))).1 (λ z. h (q ∙ z))))

  pub fault-answers : 0 ≡ evaluation_fault limits σ e s → (a : Bool) → a ≡ answer σ (setting_of s) e → value a ≡ evaluation limits σ e s
  unfolding evaluation
  fault-answers q a p =
      let w = (judged limits σ e s (value true)).0 (sym q) in
      sym (past-checks limits σ e s (value (answer σ (setting_of s) e)) w ∙ ap value (sym p))
