-- What a flip does: nothing to what lies deeper; at a node's own level it leads to the node's other edge.
use Prim.Native.Nat.{ℕ, ◌≤◌, ◌<◌}
use mathlib.Core.Path.{◌≡◌, refl, sym, ap₂, ◌∙◌}
use mathlib.Core.Bool.{Bool, true, false, cond, not, xor, beq}
use native.Mathlib.Omega.{arith}
use lib.IntN.{ℤ, pos, negsuc, nat_abs}
use borrow.Author.Tests.{eq-eqb, ne_eqb}
use Rattle.edges.specs.Edge.{turn}
use Rattle.store.specs.Store.{Store, level_at, then_at, else_at}
use Rattle.store.specs.Rules.{depth, Nodes}
use Rattle.store.specs.Growth.{EdgeOf}
use Rattle.store.specs.Meaning.{Setting, node, answer}
use Rattle.store.proofs.Meaning.{then_edge, else_edge, node-step, answer-from}
use Rattle.tipping.specs.Tip.{flipped}
use Rattle.tipping.specs.Way.{taken_at, other_at}

-- two answers differ
pub xor_same : (a b : Bool) → a ≡ b → xor a b ≡ false
unfolding xor
xor_same true true h = refl
xor_same true false h = h
xor_same false true h = sym h
xor_same false false h = refl

pub xor-differ : (a b : Bool) → not (beq a b) ≡ xor a b
unfolding xor
xor-differ true true = refl
xor-differ true false = refl
xor-differ false true = refl
xor-differ false false = refl

pub xor-turn : (e : ℤ) (a b : Bool) → xor (turn e a) (turn e b) ≡ xor a b
unfolding xor turn
xor-turn (pos n) a b = refl
xor-turn (negsuc n) true true = refl
xor-turn (negsuc n) true false = refl
xor-turn (negsuc n) false true = refl
xor-turn (negsuc n) false false = refl

-- a flipped setting, at its level and elsewhere
pub flip-here : (s : Setting) (l : ℕ) → flipped s l l ≡ not (s l)
flip-here s l = rw (eq-eqb l l refl)

pub flip-else : (s : Setting) (l j : ℕ) → (j ≡ l → ⊥) → flipped s l j ≡ s j
flip-else s l j h = rw (ne_eqb j l h)

module _ (σ : Store) (N : Nodes σ) (s : Setting) where
  -- what lies deeper than a level doesn't see its flip
  pub deeper-same : (l : ℕ) (e : ℤ) → EdgeOf σ e → l < depth σ (nat_abs e) → answer σ (flipped s l) e ≡ answer σ s e
  deeper-same l e E h = answer-from σ N (flipped s l) s e E (λ j a b. flip-else s l j (λ z. absurd (omega arith)))

  pub node-deeper : (l n : ℕ) → 1 ≤ n → n ≤ σ.count → l < depth σ n → node σ (flipped s l) n ≡ node σ s n
  unfolding turn
  node-deeper l n p h d = deeper-same l (pos n) (record { some = p; there = h }) d

  module _ (n : ℕ) (p : 2 ≤ n) (h : n ≤ σ.count) where
    abbrev own : ℕ
    own = level_at σ n

    -- a node answers as the edge that its way takes
    pub node-taken : node σ s n ≡ answer σ s (taken_at σ s n)
    node-taken = node-step σ N s n p h ∙ of (s own)
      where
        of : (b : Bool) → cond b (answer σ s (then_at σ n)) (answer σ s (else_at σ n)) ≡ answer σ s (cond b (then_at σ n) (else_at σ n))
        of true = refl
        of false = refl

    pub taken-edge : EdgeOf σ (taken_at σ s n)
    taken-edge = of (s own)
      where
        of : (b : Bool) → EdgeOf σ (cond b (then_at σ n) (else_at σ n))
        of true = then_edge σ N n p h
        of false = else_edge σ N n p h

    pub other_edge : EdgeOf σ (other_at σ s n)
    other_edge = of (s own)
      where
        of : (b : Bool) → EdgeOf σ (cond b (else_at σ n) (then_at σ n))
        of true = else_edge σ N n p h
        of false = then_edge σ N n p h

    -- both edges lie deeper, at lower nodes
    pub taken-lower : nat_abs (taken_at σ s n) < n
    taken-lower = of (s own)
      where
        of : (b : Bool) → nat_abs (cond b (then_at σ n) (else_at σ n)) < n
        of true = (N.fits n p h).then_low
        of false = (N.fits n p h).else_low

    pub other-lower : nat_abs (other_at σ s n) < n
    other-lower = of (s own)
      where
        of : (b : Bool) → nat_abs (cond b (else_at σ n) (then_at σ n)) < n
        of true = (N.fits n p h).else_low
        of false = (N.fits n p h).then_low

    pub taken-deeper : own < depth σ (nat_abs (taken_at σ s n))
    taken-deeper = of (s own)
      where
        of : (b : Bool) → own < depth σ (nat_abs (cond b (then_at σ n) (else_at σ n)))
        of true = (N.fits n p h).then_deep
        of false = (N.fits n p h).else_deep

    -- the flip of its own level leads to the other edge,
    pub flip-own : node σ (flipped s own) n ≡ answer σ s (other_at σ s n)
    flip-own =
        node-step σ N (flipped s own) n p h
        ∙ rw (
          flip-here s own,
          deeper-same own (then_at σ n) (then_edge σ N n p h) (N.fits n p h).then_deep,
          deeper-same own (else_at σ n) (else_edge σ N n p h) (N.fits n p h).else_deep,
        ) (of (s own))
      where
        of : (b : Bool) → cond (not b) (answer σ s (then_at σ n)) (answer σ s (else_at σ n)) ≡ answer σ s (cond b (else_at σ n) (then_at σ n))
        of true = refl
        of false = refl

    -- and that of a deeper level is seen by the edge that it takes.
    pub flip-deeper : (l : ℕ) → own < l
        → xor (node σ (flipped s l) n) (node σ s n) ≡ xor (node σ (flipped s l) (nat_abs (taken_at σ s n))) (node σ s (nat_abs (taken_at σ s n)))
    flip-deeper l k =
        let z : flipped s l own ≡ s own = flip-else s l own (λ z. absurd (omega arith)) in
        ap₂ xor (node-step σ N (flipped s l) n p h ∙ rw z (of (s own))) node-taken
        ∙ xor-turn (taken_at σ s n) (node σ (flipped s l) (nat_abs (taken_at σ s n))) (node σ s (nat_abs (taken_at σ s n)))
      where
        of : (b : Bool) → cond b (answer σ (flipped s l) (then_at σ n)) (answer σ (flipped s l) (else_at σ n))
            ≡ answer σ (flipped s l) (cond b (then_at σ n) (else_at σ n))
        of true = refl
        of false = refl
