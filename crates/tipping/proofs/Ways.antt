-- Down the way of an edge: above the node where it stands no level tips, and from there on a level tips where its flip turns that node's answer over.
use Prim.Native.Nat.{ℕ, zero, suc, ◌≤◌, ◌<◌}
use mathlib.Core.Path.{◌≡◌, refl, sym, ap, ◌∙◌}
use mathlib.Core.Bool.{Bool, true, false, xor, true≢false}
use native.Mathlib.Omega.{arith}
use native.Mathlib.Nat.{le_refl}
use native.Mathlib.Decide.{ℕ_discrete}
use lib.Dec.{ltb}
use borrow.Author.Tests.{ltb-true, ltb-false}
use lib.IntN.{ℤ, nat_abs}
use Rattle.store.specs.Store.{Store, level_at}
use Rattle.store.specs.Rules.{depth, Nodes}
use Rattle.store.specs.Growth.{EdgeOf}
use Rattle.store.specs.Meaning.{Setting, node, answer}
use Rattle.store.proofs.Meaning.{depth-node, node-one}
use Rattle.tipping.specs.Tip.{flipped, tips}
use Rattle.tipping.specs.Lowest.{IsLowest, NoneBelow}
use Rattle.tipping.specs.Way.{taken_at, other_at, Passes, here, on}
use Rattle.tipping.proofs.Flips.{xor_same, xor-turn, deeper-same, node-deeper, taken-edge, taken-lower, taken-deeper, flip-own, flip-deeper}

pub record Down (σ : Store) (e : ℤ) (s : Setting) (n : ℕ) : Type 0 where
  pub some : 1 ≤ n
  pub there : n ≤ σ.count
  pub above : (l : ℕ) → l < depth σ n → tips σ e s l ≡ false
  pub below : (l : ℕ) → depth σ n ≤ l → tips σ e s l ≡ xor (node σ (flipped s l) n) (node σ s n)

module _ (σ : Store) (N : Nodes σ) (e : ℤ) (s : Setting) where
  -- It starts at the edge's node,
  pub down-start : EdgeOf σ e → Down σ e s (nat_abs e)
  down-start E =
      record {
        some = E.some;
        there = E.there;
        above = λ l h. xor_same _ _ (deeper-same σ N s l e E h);
        below = λ l h. xor-turn e (node σ (flipped s l) (nat_abs e)) (node σ s (nat_abs e));
      }

  module _ {n : ℕ} (D : Down σ e s n) where
    module _ (p : 2 ≤ n) where
      abbrev own : ℕ
      own = level_at σ n

      own-tips : tips σ e s own ≡ xor (answer σ s (other_at σ s n)) (node σ s n)
      own-tips = D.below own (omega (arith, depth-node σ n p)) ∙ ap (λ a. xor a (node σ s n)) (flip-own σ N s n p D.there)

      -- ends where the node's level tips,
      pub down-found : xor (answer σ s (other_at σ s n)) (node σ s n) ≡ true → IsLowest (tips σ e s) σ.levels own
      down-found h =
          record {
            low = (N.fits n p D.there).level_low;
            holds = own-tips ∙ h;
            least = λ k b. D.above k (omega (arith, depth-node σ n p));
          }

      -- goes on where it doesn't,
      pub down-on : xor (answer σ s (other_at σ s n)) (node σ s n) ≡ false → Down σ e s (nat_abs (taken_at σ s n))
      down-on h =
          record {
            some = (taken-edge σ N s n p D.there).some;
            there = (taken-edge σ N s n p D.there).there;
            above = λ l b. above l b (ltb l own) refl (ℕ_discrete l own);
            below = λ l b. under l (omega (arith, taken-deeper σ N s n p D.there));
          }
        where
          under : (l : ℕ) → own < l → tips σ e s l ≡ xor (node σ (flipped s l) (nat_abs (taken_at σ s n))) (node σ s (nat_abs (taken_at σ s n)))
          under l k = D.below l (omega (arith, depth-node σ n p)) ∙ flip-deeper σ N s n p D.there l k

          above : (l : ℕ) → l < depth σ (nat_abs (taken_at σ s n)) → (b : Bool) → ltb l own ≡ b → Dec (l ≡ own) → tips σ e s l ≡ false
          above l k true q d = D.above l (omega (arith, ltb-true l own q, depth-node σ n p))
          above l k false q (yes z) = rw z (own-tips ∙ h)
          above l k false q (no z) =
              let E = taken-edge σ N s n p D.there in
              under l (omega (arith, ltb-false l own q, z)) ∙ xor_same _ _ (node-deeper σ N s l (nat_abs (taken_at σ s n)) E.some E.there k)

    -- and ends at node 1, where no level does.
    pub down-end : n ≤ 1 → NoneBelow (tips σ e s) σ.levels
    down-end h k b = D.above k (rw one b)
      where
        one : n ≡ 1
        one = omega (arith, D.some)

  -- Only levels that the way passes can tip.
  passed-one : (n l : ℕ) (p : 2 ≤ n) (h : n ≤ σ.count) → xor (node σ (flipped s l) n) (node σ s n) ≡ true
      → (xor (node σ (flipped s l) (nat_abs (taken_at σ s n))) (node σ s (nat_abs (taken_at σ s n))) ≡ true → Passes σ s (nat_abs (taken_at σ s n)) l)
      → Passes σ s n l
  passed-one n l p h q f = of (ltb l (level_at σ n)) refl (ℕ_discrete l (level_at σ n))
    where
      of : (c : Bool) → ltb l (level_at σ n) ≡ c → Dec (l ≡ level_at σ n) → Passes σ s n l
      of true r d =
          absurd (true≢false (sym q ∙ xor_same _ _ (node-deeper σ N s l n (omega arith) h (omega (arith, ltb-true l (level_at σ n) r, depth-node σ n p)))))
      of false r (yes z) = rw z (here p)
      of false r (no z) = on p (f (sym (flip-deeper σ N s n p h l (omega (arith, ltb-false l (level_at σ n) r, z))) ∙ q))

  passed : (k n l : ℕ) → n ≤ k → 1 ≤ n → n ≤ σ.count → xor (node σ (flipped s l) n) (node σ s n) ≡ true → Passes σ s n l
  passed zero n l b p h q = absurd (omega arith)
  passed (suc k) zero l b p h q = absurd (omega arith)
  passed (suc k) (suc zero) l b p h q = absurd (true≢false (sym q ∙ xor_same _ _ (node-one σ (flipped s l) ∙ sym (node-one σ s))))
  passed (suc k) (suc (suc m)) l b p h q =
      let two : 2 ≤ suc (suc m) = omega arith in
      let E = taken-edge σ N s (suc (suc m)) two h in
      passed-one (suc (suc m)) l two h q
      (passed k (nat_abs (taken_at σ s (suc (suc m)))) l (omega (arith, taken-lower σ N s (suc (suc m)) two h)) E.some E.there)

  pub tips-passed : EdgeOf σ e → (l : ℕ) → tips σ e s l ≡ true → Passes σ s (nat_abs e) l
  tips-passed E l q =
      passed (nat_abs e) (nat_abs e) l (le_refl (nat_abs e)) E.some E.there (sym (xor-turn e (node σ (flipped s l) (nat_abs e)) (node σ s (nat_abs e))) ∙ q)
