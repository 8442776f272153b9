-- What waits, waits in every store that has grown.
use mathlib.Core.Path.{◌≡◌, refl, sym, ap, ap₂, ◌∙◌}
use mathlib.Core.Bool.{Bool, true, false, cond}
use mathlib.Core.List.{List, [], ◌∷◌}
use Prim.Native.Nat.{ℕ, ◌≤◌, ◌<◌}
use native.Mathlib.Omega.{arith}
use lib.Dec.{eqb}
use lib.ListN.{length}
use lib.IntN.{ℤ, nat_abs}
use borrow.Author.Tests.{eqb-true}
use Rattle.store.specs.Store.{Store}
use Rattle.store.specs.Rules.{depth, Nodes}
use Rattle.store.specs.Growth.{EdgeOf, Grows}
use Rattle.store.proofs.Growth.{grow-edge, grow-depth, grow-answer}
use Rattle.joined.specs.declared.Op.{Op}
use Rattle.joined.specs.Join.{apply, through, child, side, top, SaysJoin}
use Rattle.joined.proofs.Sides.{sided, level-node, top_left, top_right}
use Rattle.join_course.specs.declared.Waiting.{Waiting}
use Rattle.join_course.specs.Pairs.{lacks_then}
use Rattle.join_course.specs.Course.{top_of, left_of, right_of, Waits, SidesOfLast, AllWait}

module _ {σ τ : Store} (G : Grows σ τ) (N : Nodes σ) where
  top-grown : (a b : ℤ) → EdgeOf σ a → EdgeOf σ b → top τ a b ≡ top σ a b
  unfolding top
  top-grown a b E F = rw (grow-depth G (nat_abs a) E.there, grow-depth G (nat_abs b) F.there)

  child-grown : (y : Bool) (n : ℕ) → 2 ≤ n → n ≤ σ.count → child τ y n ≡ child σ y n
  child-grown true n p h = G.then n p h
  child-grown false n p h = G.els n p h

  side-grown : (l : ℕ) → l < σ.levels → (y : Bool) (a : ℤ) → EdgeOf σ a → side τ l y a ≡ side σ l y a
  unfolding side
  side-grown l L y a E = rw (grow-depth G (nat_abs a) E.there) (go (eqb (depth σ (nat_abs a)) l) refl)
    where
      go : (z : Bool) → eqb (depth σ (nat_abs a)) l ≡ z → cond z (through a (child τ y (nat_abs a))) a ≡ cond z (through a (child σ y (nat_abs a))) a
      go true q = ap (through a) (child-grown y (nat_abs a) (level-node σ N (nat_abs a) E.some (omega (arith, eqb-true (depth σ (nat_abs a)) l q))) E.there)
      go false q = refl

  says-grown : (o : Op) (a b x : ℤ) → EdgeOf σ a → EdgeOf σ b → SaysJoin o σ a b x → SaysJoin o τ a b x
  says-grown o a b x E F X = record {
    edge = grow-edge G x X.edge;
    says = λ s. grow-answer G N s x X.edge ∙ X.says s ∙ ap₂ (apply o) (sym (grow-answer G N s a E)) (sym (grow-answer G N s b F));
  }

  -- the sides of a pair
  left-edge : (p : Waiting) → EdgeOf σ p.left → top_of σ p < σ.levels → (y : Bool) → EdgeOf σ (left_of σ y p)
  left-edge p E L y = (sided σ N (top_of σ p) L y p.left E (top_left σ p.left p.right)).edge

  right-edge : (p : Waiting) → EdgeOf σ p.right → top_of σ p < σ.levels → (y : Bool) → EdgeOf σ (right_of σ y p)
  right-edge p E L y = (sided σ N (top_of σ p) L y p.right E (top_right σ p.left p.right)).edge

  module _ (p : Waiting) (E : EdgeOf σ p.left) (F : EdgeOf σ p.right) (L : top_of σ p < σ.levels) where
    left_grown : (y : Bool) → left_of τ y p ≡ left_of σ y p
    left_grown y = rw (top-grown p.left p.right E F) (side-grown (top_of σ p) L y p.left E)

    right-grown : (y : Bool) → right_of τ y p ≡ right_of σ y p
    right-grown y = rw (top-grown p.left p.right E F) (side-grown (top_of σ p) L y p.right F)

    sides-grown : (o : Op) (y : Bool) (x : ℤ) → SaysJoin o σ (left_of σ y p) (right_of σ y p) x → SaysJoin o τ (left_of τ y p) (right_of τ y p) x
    sides-grown o y x X = rw (left_grown y, right-grown y) (says-grown o (left_of σ y p) (right_of σ y p) x (left-edge p E L y) (right-edge p F L y) X)

  waits-grown : (o : Op) (p : Waiting) → Waits o σ p → Waits o τ p
  waits-grown o p W = record {
    left = grow-edge G p.left W.left;
    right = grow-edge G p.right W.right;
    high = rw (top-grown p.left p.right W.left W.right, G.levels) W.high;
    level = W.level ∙ sym (top-grown p.left p.right W.left W.right);
    els_left = W.els_left ∙ sym (left_grown p W.left W.right W.high false);
    els_right = W.els_right ∙ sym (right-grown p W.left W.right W.high false);
    then = λ q. sides-grown p W.left W.right W.high o true p.then (W.then q);
  }

  pub last-grown : (o : Op) (ps : List Waiting) (k : ℕ) (a b : ℤ) → AllWait o σ ps k → SidesOfLast σ ps a b → SidesOfLast τ ps a b
  last-grown o [] k a b W s = tt
  last-grown o (p ∷ ps) k a b W s =
      let P = W.1.0 in
      (s.0 ∙ sym (left_grown p P.left P.right P.high (lacks_then p)), s.1 ∙ sym (right-grown p P.left P.right P.high (lacks_then p)))

  pub waiting-grown : (o : Op) (ps : List Waiting) (k : ℕ) → AllWait o σ ps k → AllWait o τ ps k
  waiting-grown o [] k W = tt
  waiting-grown o (p ∷ ps) k W =
      rw (top-grown p.left p.right W.1.0.left W.1.0.right) (
        W.0,
        (waits-grown o p W.1.0, (last-grown o ps (top_of σ p) p.left p.right W.1.1.1 W.1.1.0, waiting-grown o ps (top_of σ p) W.1.1.1)),
      )

-- what waits above a level waits above a deeper one
pub waiting-deeper : (o : Op) (σ : Store) (ps : List Waiting) (k l : ℕ) → k ≤ l → AllWait o σ ps k → AllWait o σ ps l
waiting-deeper o σ [] k l h W = tt
waiting-deeper o σ (p ∷ ps) k l h W = (omega (arith, W.0), W.1)

-- there are no more of them than levels
pub waiting_few : (o : Op) (σ : Store) (ps : List Waiting) (k : ℕ) → AllWait o σ ps k → length ps ≤ k
waiting_few o σ [] k W = omega arith
waiting_few o σ (p ∷ ps) k W = omega (arith, waiting_few o σ ps (top_of σ p) W.1.1.1, W.0)
