-- The walk down from a root: what is settled so far, and one level more.
use Prim.Native.Nat.{ℕ, suc, ◌≤◌, ◌<◌}
use mathlib.Core.Path.{◌≡◌, refl, sym, ap, ◌∙◌}
use mathlib.Core.Logic.{◌↔◌}
use mathlib.Core.Bool.{Bool, true, false, not, cond, true≢false}
use native.Mathlib.Omega.{arith}
use native.Mathlib.Decide.{dec_lt}
use lib.Dec.{eqb}
use lib.IntN.{ℤ, pos, negsuc, nat_abs}
use borrow.Author.Tests.{eq-eqb, eqb-true}
use Rattle.codes.proofs.Bytes.{both}
use Rattle.edges.specs.Edge.{minus, turn}
use Rattle.edges.proofs.Edge.{turn-turn}
use Rattle.store.specs.Store.{Store, level_at, then_at, else_at}
use Rattle.store.specs.Meaning.{Setting, node, answer}
use Rattle.store.specs.Rules.{depth, Fits, Nodes}
use Rattle.store.specs.Growth.{EdgeOf}
use Rattle.store.proofs.Meaning.{depth-node, node-one, node-step}
use Rattle.store.proofs.Canonicity.{put, put_same, put_other}
use Rattle.example_walk.specs.Course.{never}

-- An edge answers so exactly where its node gives the answer turned back.
turn-back : (e : ℤ) (a b : Bool) → (turn e a ≡ b) ↔ (a ≡ turn e b)
turn-back e a b = (λ q. sym (turn-turn e a) ∙ ap (turn e) q, λ q. ap (turn e) q ∙ turn-turn e b)

-- An edge to node 1 that can answer so asks of it a yes,
never-can : (e : ℤ) (b : Bool) → nat_abs e ≡ 1 → never e b ≡ false → turn e b ≡ true
unfolding minus turn
never-can (pos n) true k h = refl
never-can (pos n) false k h = absurd (true≢false (rw (eq-eqb n 1 k) at h))
never-can (negsuc n) true k h = absurd (true≢false (rw (eq-eqb (suc n) 1 k) at h))
never-can (negsuc n) false k h = refl

-- and one that can't, gives the other answer.
pub never-one : (e : ℤ) (b : Bool) → never e b ≡ true → nat_abs e ≡ 1
never-one e b h = eqb-true (nat_abs e) 1 (both (eqb (nat_abs e) 1) _ h).0

pub never_other : (e : ℤ) (b : Bool) → never e b ≡ true → turn e true ≡ not b
unfolding minus turn
never_other (pos n) true h = absurd (true≢false (sym (both (eqb n 1) _ h).1))
never_other (pos n) false h = refl
never_other (negsuc n) true h = refl
never_other (negsuc n) false h = absurd (true≢false (sym (both (eqb (suc n) 1) _ h).1))

not-both : (b : Bool) → b ≡ not b → ⊥
not-both true h = true≢false h
not-both false h = true≢false (sym h)

-- a positive edge answers as its node
plain : (t : ℤ) → t ≡ pos (nat_abs t) → (a : Bool) → turn t a ≡ a
unfolding turn
plain t q a = ap (λ x. turn x a) q

-- two edges to node 1 that both say yes are one
both_one : (t x : ℤ) → t ≡ pos (nat_abs t) → nat_abs t ≡ 1 → nat_abs x ≡ 1 → turn x true ≡ true → t ≡ x
unfolding turn
both_one t (pos n) q k l h = q ∙ ap pos (k ∙ sym l)
both_one t (negsuc n) q k l h = absurd (true≢false (sym h))

module _ (σ : Store) (e : ℤ) (wanted : Bool) where
  -- A walk stands at node n, of which it wants this answer; s is the setting so far.
  pub record Taking (s : Setting) (n : ℕ) (asked : Bool) : Type 0 where
    pub some : 1 ≤ n
    pub there : n ≤ σ.count
    -- where the levels above the node are as in s, the root answers as wanted exactly where the node does
    pub left : (t : Setting) → ((j : ℕ) → j < depth σ n → t j ≡ s j) → (answer σ t e ≡ wanted) ↔ (node σ t n ≡ asked)
    -- a setting with the wanted answer that is as s down to a level above the node, has yes there where s has
    pub least : (t : Setting) → answer σ t e ≡ wanted → (l : ℕ) → l < depth σ n → ((j : ℕ) → j < l → t j ≡ s j) → s l ≡ true → t l ≡ true
    -- nothing is yes from the node's level on
    pub unset : (l : ℕ) → depth σ n ≤ l → s l ≡ false
    -- 'Node 1 is yes'
    pub can : n ≡ 1 → asked ≡ true

  -- At the root nothing is yes.
  pub taking-start : EdgeOf σ e → never e wanted ≡ false → Taking (λ j. false) (nat_abs e) (turn e wanted)
  taking-start E h =
      record {
        some = E.some;
        there = E.there;
        left = λ t g. turn-back e (node σ t (nat_abs e)) wanted;
        least = λ t a l k g q. absurd (true≢false (sym q));
        unset = λ l k. refl;
        can = λ k. never-can e wanted k h;
      }

  -- At node 1 all is settled: the setting answers as wanted, and no setting before it does.
  pub taking-answers : {s : Setting} {b : Bool} → Taking s 1 b → answer σ s e ≡ wanted
  taking-answers {s} T = (T.left s (λ j k. refl)).1 (node-one σ s ∙ sym (T.can refl))

  module _ (N : Nodes σ) {s : Setting} {n : ℕ} {b : Bool} (T : Taking s n b) (h : 2 ≤ n) where
    abbrev L : ℕ
    L = level_at σ n

    fits : Fits σ n L (then_at σ n) (else_at σ n)
    fits = N.fits n h T.there

    at_level : depth σ n ≡ L
    at_level = depth-node σ n h

    here : (t : Setting) → node σ t n ≡ cond (t L) (answer σ t (then_at σ n)) (answer σ t (else_at σ n))
    here t = node-step σ N t n h T.there

    -- below the node's level nothing is yes
    below_none : (l : ℕ) → L ≤ l → s l ≡ true → ⊥
    below_none l k q = true≢false (sym q ∙ T.unset l (omega (arith, at_level)))

    -- It takes no, where the edge can answer as wanted,
    pub take_no : never (else_at σ n) b ≡ false → Taking s (nat_abs (else_at σ n)) (turn (else_at σ n) b)
    take_no w =
        record {
          some = fits.else_some;
          there = omega (arith, fits.else_low, T.there);
          left = left;
          least = least;
          unset = λ l k. T.unset l (omega (arith, at_level, fits.else_deep));
          can = λ k. never-can (else_at σ n) b k w;
        }
      where
        left : (t : Setting) → ((j : ℕ) → j < depth σ (nat_abs (else_at σ n)) → t j ≡ s j)
            → (answer σ t e ≡ wanted) ↔ (node σ t (nat_abs (else_at σ n)) ≡ turn (else_at σ n) b)
        left t g =
            let up = T.left t (λ j k. g j (omega (arith, at_level, fits.else_deep))) in
            let q : t L ≡ false = g L fits.else_deep ∙ T.unset L (omega (arith, at_level)) in
            let z : node σ t n ≡ answer σ t (else_at σ n) = here t ∙ rw q in
            let d = turn-back (else_at σ n) (node σ t (nat_abs (else_at σ n))) b in
            (λ a. d.0 (sym z ∙ up.0 a), λ a. up.1 (z ∙ d.1 a))

        least : (t : Setting) → answer σ t e ≡ wanted → (l : ℕ) → l < depth σ (nat_abs (else_at σ n)) → ((j : ℕ) → j < l → t j ≡ s j) → s l ≡ true → t l ≡ true
        least t a l k g q = of (dec_lt l L)
          where
            of : Dec (l < L) → t l ≡ true
            of (yes m) = T.least t a l (omega (arith, at_level)) g q
            of (no m) = absurd (below_none l (omega arith) q)

    -- and yes where it can't.
    pub take-yes : never (else_at σ n) b ≡ true → Taking (put s L true) (nat_abs (then_at σ n)) b
    take-yes w =
        record {
          some = fits.then_some;
          there = omega (arith, fits.then_low, T.there);
          left = left;
          least = least;
          unset = λ l k. put_other s L true l (λ z. omega (arith, fits.then_deep)) ∙ T.unset l (omega (arith, at_level, fits.then_deep));
          can = can b refl;
        }
      where
        -- the levels above the node are as they were
        as_before : (t : Setting) (l : ℕ) → l ≤ L → ((j : ℕ) → j < l → t j ≡ put s L true j) → (j : ℕ) → j < l → t j ≡ s j
        as_before t l m g j k = g j k ∙ put_other s L true j (λ z. omega arith)

        then-plain : (t : Setting) → answer σ t (then_at σ n) ≡ node σ t (nat_abs (then_at σ n))
        then-plain t = plain (then_at σ n) fits.positive (node σ t (nat_abs (then_at σ n)))

        left : (t : Setting) → ((j : ℕ) → j < depth σ (nat_abs (then_at σ n)) → t j ≡ put s L true j)
            → (answer σ t e ≡ wanted) ↔ (node σ t (nat_abs (then_at σ n)) ≡ b)
        left t g =
            let up = T.left t (rw at_level (as_before t L (omega arith) (λ j k. g j (omega (arith, fits.then_deep))))) in
            let q : t L ≡ true = g L fits.then_deep ∙ put_same s L true in
            let z : node σ t n ≡ node σ t (nat_abs (then_at σ n)) = here t ∙ rw q (then-plain t) in
            (λ a. sym z ∙ up.0 a, λ a. up.1 (z ∙ a))

        -- a setting with the wanted answer that is as this one above the node, has yes at it: no would give the other answer
        yes_there : (t : Setting) → answer σ t e ≡ wanted → ((j : ℕ) → j < L → t j ≡ s j) → (c : Bool) → t L ≡ c → c ≡ true
        yes_there t a g true q = refl
        yes_there t a g false q =
            let up : node σ t n ≡ b = (T.left t (rw at_level g)).0 a in
            let one : node σ t (nat_abs (else_at σ n)) ≡ true = rw (never-one (else_at σ n) b w) (node-one σ t) in
            let other : node σ t n ≡ not b = here t ∙ rw (q, one) (never_other (else_at σ n) b w) in
            absurd (not-both b (sym up ∙ other))

        least : (t : Setting) → answer σ t e ≡ wanted → (l : ℕ) → l < depth σ (nat_abs (then_at σ n)) → ((j : ℕ) → j < l → t j ≡ put s L true j)
            → put s L true l ≡ true → t l ≡ true
        least t a l k g q = of (dec_lt l L) (dec_lt L l)
          where
            of : Dec (l < L) → Dec (L < l) → t l ≡ true
            of (yes m) x = T.least t a l (omega (arith, at_level)) (as_before t l (omega arith) g) (sym (put_other s L true l (λ z. omega arith)) ∙ q)
            of (no m) (yes x) = absurd (below_none l (omega arith) (sym (put_other s L true l (λ z. omega arith)) ∙ q))
            of (no m) (no x) =
                let z : l ≡ L = omega arith in
                ap t z ∙ yes_there t a (as_before t L (omega arith) (λ j y. g j (omega arith))) (t L) refl

        -- then and else differ
        can : (c : Bool) → b ≡ c → nat_abs (then_at σ n) ≡ 1 → c ≡ true
        can true q k = refl
        can false q k =
            let yes = never_other (else_at σ n) b w ∙ ap not q in
            absurd (fits.differ (both_one (then_at σ n) (else_at σ n) fits.positive k (never-one (else_at σ n) b w) yes))
