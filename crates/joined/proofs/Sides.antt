-- The sides of an edge at a level say what the edge says where that level is yes, or no.
use mathlib.Core.Path.{◌≡◌, refl, sym, ap, ◌∙◌}
use mathlib.Core.Bool.{Bool, true, false, not, cond}
use Prim.Native.Nat.{ℕ, zero, suc, ◌≤◌, ◌<◌}
use native.Mathlib.Omega.{arith}
use native.Mathlib.Decide.{ℕ_discrete}
use lib.Dec.{ltb}
use lib.IntN.{ℤ, pos, negsuc, neg_ℤ, nat_abs}
use borrow.Author.Tests.{eq-eqb, ne_eqb, ltb-true, ltb-false}
use Rattle.edges.specs.Edge.{minus, turn}
use Rattle.edges.proofs.Edge.{abs_neg}
use Rattle.store.specs.Store.{Store, level_at}
use Rattle.store.specs.Meaning.{Setting, node, answer}
use Rattle.store.specs.Rules.{depth, Nodes}
use Rattle.store.specs.Growth.{EdgeOf}
use Rattle.store.proofs.Canonicity.{put, put_same, put_other, put-below, half-yes, half-no}
use Rattle.store.proofs.Meaning.{depth-node, node-one, then_edge, else_edge, answer-from, answer-opposite}
use Rattle.joined.specs.Join.{through, child, side, top, constantly}

-- as it was
put_id : (s : Setting) (i : ℕ) (b : Bool) → s i ≡ b → (j : ℕ) → put s i b j ≡ s j
put_id s i b q j = go (ℕ_discrete j i)
  where
    go : Dec (j ≡ i) → put s i b j ≡ s j
    go (yes e) = ap (put s i b) e ∙ put_same s i b ∙ sym q ∙ sym (ap s e)
    go (no f) = put_other s i b j f

-- an edge seen through another
through-abs : (a x : ℤ) → nat_abs (through a x) ≡ nat_abs x
through-abs a x = go (minus a)
  where
    go : (y : Bool) → nat_abs (cond y (neg_ℤ x) x) ≡ nat_abs x
    go true = abs_neg x
    go false = refl

through-answer : (σ : Store) (s : Setting) (a x : ℤ) → 1 ≤ nat_abs x → answer σ s (through a x) ≡ turn a (answer σ s x)
unfolding turn minus
through-answer σ s (pos n) x h = refl
through-answer σ s (negsuc n) x h = answer-opposite σ s x h

-- the upper of two edges
pub top_left : (σ : Store) (a b : ℤ) → top σ a b ≤ depth σ (nat_abs a)
unfolding top
top_left σ a b = go (ltb (depth σ (nat_abs a)) (depth σ (nat_abs b))) refl
  where
    go : (x : Bool) → ltb (depth σ (nat_abs a)) (depth σ (nat_abs b)) ≡ x → cond x (depth σ (nat_abs a)) (depth σ (nat_abs b)) ≤ depth σ (nat_abs a)
    go true q = omega arith
    go false q = omega (arith, ltb-false (depth σ (nat_abs a)) (depth σ (nat_abs b)) q)

pub top_right : (σ : Store) (a b : ℤ) → top σ a b ≤ depth σ (nat_abs b)
unfolding top
top_right σ a b = go (ltb (depth σ (nat_abs a)) (depth σ (nat_abs b))) refl
  where
    go : (x : Bool) → ltb (depth σ (nat_abs a)) (depth σ (nat_abs b)) ≡ x → cond x (depth σ (nat_abs a)) (depth σ (nat_abs b)) ≤ depth σ (nat_abs b)
    go true q = omega (arith, ltb-true (depth σ (nat_abs a)) (depth σ (nat_abs b)) q)
    go false q = omega arith

-- what lies above both lies above the upper
pub top_above : (σ : Store) (l : ℕ) (a b : ℤ) → l ≤ depth σ (nat_abs a) → l ≤ depth σ (nat_abs b) → l ≤ top σ a b
unfolding top
top_above σ l a b p q = go (ltb (depth σ (nat_abs a)) (depth σ (nat_abs b)))
  where
    go : (x : Bool) → l ≤ cond x (depth σ (nat_abs a)) (depth σ (nat_abs b))
    go true = p
    go false = q

-- what a side is
pub record Side (σ : Store) (l : ℕ) (y : Bool) (a x : ℤ) : Type 0 where
  pub edge : EdgeOf σ x
  pub deep : l < depth σ (nat_abs x)
  pub says : (s : Setting) → answer σ s x ≡ answer σ (put s l y) a

module _ (σ : Store) (N : Nodes σ) where
  pub put-kept : (s : Setting) (i : ℕ) (b : Bool) (e : ℤ) → EdgeOf σ e → s i ≡ b → answer σ (put s i b) e ≡ answer σ s e
  put-kept s i b e E q = answer-from σ N (put s i b) s e E (λ j d _. put_id s i b q j)

  -- the two children of a node
  child-edge : (y : Bool) (n : ℕ) → 2 ≤ n → n ≤ σ.count → EdgeOf σ (child σ y n)
  child-edge true n p h = then_edge σ N n p h
  child-edge false n p h = else_edge σ N n p h

  child-deep : (y : Bool) (n : ℕ) → 2 ≤ n → n ≤ σ.count → level_at σ n < depth σ (nat_abs (child σ y n))
  child-deep true n p h = (N.fits n p h).then_deep
  child-deep false n p h = (N.fits n p h).else_deep

  child-half : (s : Setting) (y : Bool) (n : ℕ) → 2 ≤ n → n ≤ σ.count → node σ (put s (level_at σ n) y) n ≡ answer σ s (child σ y n)
  child-half s true n p h = half-yes σ N s n p h
  child-half s false n p h = half-no σ N s n p h

  -- a node at a level of the store is not node 1
  pub level-node : (n : ℕ) → 1 ≤ n → depth σ n < σ.levels → 2 ≤ n
  level-node zero p h = absurd (omega arith)
  level-node (suc zero) p h = absurd (omega arith)
  level-node (suc (suc k)) p h = omega arith

  -- and one at none is
  pub last-node : (n : ℕ) → 1 ≤ n → n ≤ σ.count → σ.levels ≤ depth σ n → n ≡ 1
  last-node zero p c h = absurd (omega arith)
  last-node (suc zero) p c h = refl
  last-node (suc (suc k)) p c h = let F = N.fits (suc (suc k)) (omega arith) c in absurd (omega arith)

  module _ (l : ℕ) (L : l < σ.levels) (y : Bool) (a : ℤ) (E : EdgeOf σ a) where
    pub side-here : depth σ (nat_abs a) ≡ l → side σ l y a ≡ through a (child σ y (nat_abs a))
    unfolding side
    side-here q = rw (eq-eqb (depth σ (nat_abs a)) l q)

    pub side-past : l < depth σ (nat_abs a) → side σ l y a ≡ a
    unfolding side
    side-past h = rw (ne_eqb (depth σ (nat_abs a)) l (λ q. omega arith))

    through-side : depth σ (nat_abs a) ≡ l → Side σ l y a (through a (child σ y (nat_abs a)))
    through-side q =
        let n : ℕ = nat_abs a in
        let two = level-node n E.some (omega arith) in
        let C = child-edge y n two E.there in
        let v = sym (depth-node σ n two) ∙ q in
        record {
          edge = record { some = rw (through-abs a (child σ y n)) C.some; there = rw (through-abs a (child σ y n)) C.there };
          deep = rw (through-abs a (child σ y n)) (omega (arith, child-deep y n two E.there, v));
          says = λ s. through-answer σ s a (child σ y n) C.some ∙ ap (turn a) (sym (child-half s y n two E.there) ∙ ap (λ (i : ℕ). node σ (put s i y) n) v);
        }

    pub sided : l ≤ depth σ (nat_abs a) → Side σ l y a (side σ l y a)
    sided h = go (ℕ_discrete (depth σ (nat_abs a)) l)
      where
        go : Dec (depth σ (nat_abs a) ≡ l) → Side σ l y a (side σ l y a)
        go (yes q) = rw (side-here q) (through-side q)
        go (no f) = let d : l < depth σ (nat_abs a) = omega arith in
            rw (side-past d) (record { edge = E; deep = d; says = λ s. sym (put-below σ N s l y a E d) })

-- the edges that always say one thing
pub constantly-edge : (σ : Store) → 1 ≤ σ.count → (y : Bool) → EdgeOf σ (constantly y)
constantly-edge σ h true = record { some = omega arith; there = h }
constantly-edge σ h false = record { some = omega arith; there = h }

pub constantly-depth : (σ : Store) (y : Bool) → depth σ (nat_abs (constantly y)) ≡ σ.levels
constantly-depth σ true = refl
constantly-depth σ false = refl

pub constantly-answer : (σ : Store) (s : Setting) (y : Bool) → answer σ s (constantly y) ≡ y
unfolding turn
constantly-answer σ s true = node-one σ s
constantly-answer σ s false = ap not (node-one σ s)

pub one_answer : (σ : Store) (s : Setting) (a : ℤ) → nat_abs a ≡ 1 → answer σ s a ≡ turn a true
one_answer σ s a q = ap (turn a) (ap (node σ s) q ∙ node-one σ s)
