-- What joining does: the edge says the operation on what the two edges say, in a store that keeps the rules and has only grown. More
-- steps than there are levels left change nothing.
use mathlib.Core.Path.{◌≡◌, refl, sym, ap, ap₂, ◌∙◌}
use mathlib.Core.Bool.{Bool, true, false, cond}
use Prim.Native.Nat.{ℕ, zero, suc, ◌+◌, ◌≤◌, ◌<◌}
use native.Mathlib.Omega.{arith}
use native.Mathlib.Nat.{le_refl, le_trans}
use lib.Dec.{ltb}
use lib.ListN.{length}
use lib.IntN.{ℤ, nat_abs}
use borrow.Author.Tests.{ltb-true, ltb-false, lt-ltb, le-ltb}
use Rattle.codes.specs.Answer.{Read, value, refused}
use Rattle.edges.specs.Edge.{turn}
use Rattle.codes.specs.Limits.{Limits}
use Rattle.store.specs.Store.{Store}
use Rattle.store.specs.Meaning.{Setting, answer}
use Rattle.store.specs.Rules.{depth, Rules}
use Rattle.store.specs.Make.{Made, made, make, Makes}
use Rattle.store.specs.Growth.{EdgeOf, Grows}
use Rattle.store.proofs.Growth.{grows-refl, grows-trans, grow-edge, grow-depth, grow-answer}
use Rattle.store.proofs.Makes.{make-gives, make-kept}
use Rattle.joined.specs.declared.Op.{Op}
use Rattle.joined.specs.Join.{apply, side, top, constantly, proceed, and_then, join_at, join_top, join_by, join_of, Ready}
use Rattle.joined.proofs.Sides.{Side, sided, put-kept, top_left, top_right, top_above, last-node, constantly-edge, constantly-depth, constantly-answer, one_answer}

-- an edge x of τ that says the operation on a and b of σ
pub record Result (o : Op) (σ : Store) (a b : ℤ) (τ : Store) (x : ℤ) : Type 0 where
  pub edge : EdgeOf τ x
  pub says : (s : Setting) → answer τ s x ≡ apply o (answer σ s a) (answer σ s b)
  pub deep : top σ a b ≤ depth τ (nat_abs x)

pub record Joined (m : Limits) (o : Op) (σ : Store) (a b : ℤ) (r : Made) : Type 0 where
  pub rules : Rules m r.after
  pub grows : Grows σ r.after
  pub long : length r.after.level ≡ length σ.level
  pub edged : (x : ℤ) → r.answer ≡ value x → Result o σ a b r.after x
  pub only : (n : ℕ) → r.answer ≡ refused n → n ≡ 40

-- one step after another, by what the first gives
pub then-cases : (P : Made → Type 0) (r : Made) (k : ℤ → Store → Made) → ((x : ℤ) → r.answer ≡ value x → P (k x r.after))
    → ((n : ℕ) → r.answer ≡ refused n → P (record { answer = refused n; after = r.after })) → P (and_then r k)
then-cases P r k f g = go r.answer refl
  where
    go : (q : Read ℤ) → r.answer ≡ q → P (proceed q r.after k)
    go (value x) e = f x e
    go (refused n) e = g n e

pub then_same : (r : Made) (k h : ℤ → Store → Made) → ((x : ℤ) → r.answer ≡ value x → k x r.after ≡ h x r.after) → and_then r k ≡ and_then r h
then_same r k h f = go r.answer refl
  where
    go : (q : Read ℤ) → r.answer ≡ q → proceed q r.after k ≡ proceed q r.after h
    go (value x) e = f x e
    go (refused n) e = refl

pub value-one : (a b : ℤ) → ◌≡◌ {A = Read ℤ} (value a) (value b) → a ≡ b
value-one a b q = cc

pub refused-one : {X : Type 0} (a b : ℕ) → ◌≡◌ {A = Read X} (refused a) (refused b) → a ≡ b
refused-one a b q = cc

pub not-value : {A : Type 0} (n : ℕ) (x : ℤ) → ◌≡◌ {A = Read ℤ} (refused n) (value x) → A
not-value n x q = let y : ◌≡◌ {A = ℕ} 0 1 = cc in absurd (omega arith)

pub no-refusal : {A : Type 0} (n : ℕ) (x : ℤ) → ◌≡◌ {A = Read ℤ} (value x) (refused n) → A
no-refusal n x q = let y : ◌≡◌ {A = ℕ} 0 1 = cc in absurd (omega arith)

module _ (m : Limits) (o : Op) where
  -- edges to node 1
  pub last-joined : (σ : Store) (a b : ℤ) → Ready m σ a b → σ.levels ≤ top σ a b → Joined m o σ a b (made (constantly (apply o (turn a true) (turn b true))) σ)
  last-joined σ a b Q h =
      let N = Q.rules.nodes in
      let y : Bool = apply o (turn a true) (turn b true) in
      let p = last-node σ N (nat_abs a) Q.left.some Q.left.there (le_trans h (top_left σ a b)) in
      let q = last-node σ N (nat_abs b) Q.right.some Q.right.there (le_trans h (top_right σ a b)) in
      record {
        rules = Q.rules;
        grows = grows-refl σ;
        long = refl;
        edged = λ x e. rw (← value-one (constantly y) x e) (record {
          edge = constantly-edge σ Q.rules.sizes.count_some y;
          says = λ s. constantly-answer σ s y ∙ ap₂ (apply o) (sym (one_answer σ s a p)) (sym (one_answer σ s b q));
          deep = rw (constantly-depth σ y) (le_trans (top_left σ a b) (rw p (le_refl σ.levels)));
        });
        only = λ n e. no-refusal n (constantly y) e;
      }

  -- a refusal on the way
  refused-joined : (σ : Store) (a b : ℤ) (τ : Store) (n : ℕ) → Rules m τ → Grows σ τ → length τ.level ≡ length σ.level → n ≡ 40
      → Joined m o σ a b (record { answer = refused n; after = τ })
  refused-joined σ a b τ n R G h e = record
      { rules = R; grows = G; long = h; edged = λ x q. not-value n x q; only = λ k q. sym (refused-one n k q) ∙ e }

  -- One level.
  module _ (σ : Store) (a b : ℤ) (Q : Ready m σ a b) (L : top σ a b < σ.levels) where
    abbrev l : ℕ
    l = top σ a b

    left-side : (y : Bool) → Side σ l y a (side σ l y a)
    left-side y = sided σ Q.rules.nodes l L y a Q.left (top_left σ a b)

    right_side : (y : Bool) → Side σ l y b (side σ l y b)
    right_side y = sided σ Q.rules.nodes l L y b Q.right (top_right σ a b)

    -- the sides in a store that has grown
    pub sides-ready : (y : Bool) (τ : Store) → Rules m τ → Grows σ τ → Ready m τ (side σ l y a) (side σ l y b)
    sides-ready y τ R G = record { rules = R; left = grow-edge G _ (left-side y).edge; right = grow-edge G _ (right_side y).edge }

    pub sides-deep : (y : Bool) (τ : Store) → Grows σ τ → l < top τ (side σ l y a) (side σ l y b)
    sides-deep y τ G = top_above τ (suc l) (side σ l y a) (side σ l y b)
        (rw (grow-depth G (nat_abs (side σ l y a)) (left-side y).edge.there) (left-side y).deep)
        (rw (grow-depth G (nat_abs (side σ l y b)) (right_side y).edge.there) (right_side y).deep)

    -- where the level has that answer, the result of the sides is that of the edges
    side-says : (y : Bool) (τ υ : Store) → Rules m τ → Grows σ τ → (x : ℤ) → Result o τ (side σ l y a) (side σ l y b) υ x
        → (s : Setting) → s l ≡ y → answer υ s x ≡ apply o (answer σ s a) (answer σ s b)
    side-says y τ υ R G x X s q = X.says s ∙ ap₂ (apply o)
        (grow-answer G Q.rules.nodes s (side σ l y a) (left-side y).edge ∙ (left-side y).says s ∙ put-kept σ Q.rules.nodes s l y a Q.left q)
        (grow-answer G Q.rules.nodes s (side σ l y b) (right_side y).edge ∙ (right_side y).says s ∙ put-kept σ Q.rules.nodes s l y b Q.right q)

    -- both sides' results may be made into a node
    pub sides-make : (t e : ℤ) (τ υ : Store) → Grows σ τ → Grows τ υ → Result o σ (side σ l true a) (side σ l true b) τ t
        → Result o τ (side σ l false a) (side σ l false b) υ e → Makes υ l t e
    sides-make t e τ υ G H T E =
        let u = H.count in record {
          then_some = T.edge.some;
          then_there = le_trans T.edge.there H.count;
          then_deep = rw (grow-depth H (nat_abs t) T.edge.there) (omega (arith, sides-deep true σ (grows-refl σ), T.deep));
          else_some = E.edge.some;
          else_there = E.edge.there;
          else_deep = omega (arith, sides-deep false τ G, E.deep);
          level_low = rw (H.levels, G.levels) L;
        }

    chosen-says : (s : Setting) (z : Bool) (p q r : Bool) → (s l ≡ true → p ≡ r) → (s l ≡ false → q ≡ r) → s l ≡ z → cond z p q ≡ r
    chosen-says s true p q r f g h = f h
    chosen-says s false p q r f g h = g h

    pub made-joined : (t e : ℤ) (τ υ : Store) → Rules m τ → Grows σ τ → length τ.level ≡ length σ.level → Rules m υ → Grows τ υ
        → length υ.level ≡ length τ.level → Result o σ (side σ l true a) (side σ l true b) τ t
        → Result o τ (side σ l false a) (side σ l false b) υ e → Joined m o σ a b (make m υ l t e)
    made-joined t e τ υ R G g S H h T E =
        let M = make-gives m υ l t e S (sides-make t e τ υ G H T E) in record {
          rules = M.rules;
          grows = grows-trans G (grows-trans H M.grows);
          long = M.long ∙ h ∙ g;
          edged = λ x q. let X = M.edged x q in record {
            edge = X.edge;
            says = λ s. X.says s ∙ chosen-says s (s l) (answer υ s t) (answer υ s e) (apply o (answer σ s a) (answer σ s b))
                (λ z. grow-answer H R.nodes s t T.edge ∙ side-says true σ τ Q.rules (grows-refl σ) t T s z)
                (λ z. side-says false τ υ R G e E s z) refl;
            deep = X.deep;
          };
          only = λ n q. (make-kept m υ l t e n q).0;
        }

    -- J joins the sides.
    module _ (J : Store → ℤ → ℤ → Made)
        (I : (τ : Store) (x y : ℤ) → Ready m τ x y → τ.levels ≡ σ.levels → top σ a b < top τ x y → Joined m o τ x y (J τ x y)) where
      sides-joined : (y : Bool) (τ : Store) → Rules m τ → Grows σ τ → Joined m o τ (side σ l y a) (side σ l y b) (J τ (side σ l y a) (side σ l y b))
      sides-joined y τ R G = I τ (side σ l y a) (side σ l y b) (sides-ready y τ R G) G.levels (sides-deep y τ G)

      level-joined : Joined m o σ a b (join_at m J σ l a b)
      level-joined =
          let A = sides-joined true σ Q.rules (grows-refl σ) in
          then-cases (Joined m o σ a b) (J σ (side σ l true a) (side σ l true b)) _
          (λ t p. let τ : Store = (J σ (side σ l true a) (side σ l true b)).after in
          let B = sides-joined false τ A.rules A.grows in
          then-cases (Joined m o σ a b) (J τ (side σ l false a) (side σ l false b)) (λ e υ. make m υ l t e)
          (λ e q. made-joined t e τ (J τ (side σ l false a) (side σ l false b)).after A.rules A.grows A.long B.rules B.grows B.long (A.edged t p) (B.edged e q))
          (λ n q. refused-joined σ a b _ n B.rules (grows-trans A.grows B.grows) (B.long ∙ A.long) (B.only n q)))
          (λ n p. refused-joined σ a b _ n A.rules A.grows A.long (A.only n p))

  pub by-joined : (f : ℕ) (σ : Store) (a b : ℤ) → Ready m σ a b → σ.levels ≤ top σ a b + f → Joined m o σ a b (join_by f m o σ a b)
  unfolding join_by
  by-joined zero σ a b Q h = last-joined σ a b Q (omega arith)
  by-joined (suc f) σ a b Q h = go (ltb (top σ a b) σ.levels) refl (λ τ x y P e d. by-joined f τ x y P (omega arith))
    where
      go : (z : Bool) → ltb (top σ a b) σ.levels ≡ z
          → ((τ : Store) (x y : ℤ) → Ready m τ x y → τ.levels ≡ σ.levels → top σ a b < top τ x y → Joined m o τ x y (join_by f m o τ x y))
          → Joined m o σ a b (join_top z m o (join_by f m o) σ a b)
      go true q I = level-joined σ a b Q (ltb-true (top σ a b) σ.levels q) (join_by f m o) I
      go false q I = last-joined σ a b Q (ltb-false (top σ a b) σ.levels q)

  pub join-joined : (σ : Store) (a b : ℤ) → Ready m σ a b → Joined m o σ a b (join_of m o σ a b)
  unfolding join_of
  join-joined σ a b Q = by-joined σ.levels σ a b Q (omega arith)

  -- One level, with joins of the sides that are the same where they are made.
  level-same : (J K : Store → ℤ → ℤ → Made) (σ : Store) (a b : ℤ) (Q : Ready m σ a b) (L : top σ a b < σ.levels)
      → ((τ : Store) (x y : ℤ) → Ready m τ x y → τ.levels ≡ σ.levels → top σ a b < top τ x y → Joined m o τ x y (J τ x y))
      → ((τ : Store) (x y : ℤ) → Ready m τ x y → τ.levels ≡ σ.levels → top σ a b < top τ x y → J τ x y ≡ K τ x y)
      → join_at m J σ (top σ a b) a b ≡ join_at m K σ (top σ a b) a b
  level-same J K σ a b Q L I S =
      let l : ℕ = top σ a b in
      let A = sides-joined σ a b Q L J I true σ Q.rules (grows-refl σ) in
      then_same (J σ (side σ l true a) (side σ l true b)) _ (λ t τ. and_then (K τ (side σ l false a) (side σ l false b)) (λ e υ. make m υ l t e))
      (λ t p. let τ : Store = (J σ (side σ l true a) (side σ l true b)).after in
      ap (λ r. and_then r (λ e υ. make m υ l t e)) (S τ (side σ l false a) (side σ l false b) (sides-ready σ a b Q L false τ A.rules A.grows)
      A.grows.levels (sides-deep σ a b Q L false τ A.grows)))
      ∙ ap (λ r. and_then r (λ t τ. and_then (K τ (side σ l false a) (side σ l false b)) (λ e υ. make m υ l t e)))
      (S σ (side σ l true a) (side σ l true b) (sides-ready σ a b Q L true σ Q.rules (grows-refl σ)) refl (sides-deep σ a b Q L true σ (grows-refl σ)))

  -- more steps than there are levels left change nothing
  by-same : (f g : ℕ) (σ : Store) (a b : ℤ) → Ready m σ a b → σ.levels ≤ top σ a b + f → σ.levels ≤ top σ a b + g → join_by f m o σ a b ≡ join_by g m o σ a b
  unfolding join_by
  by-same zero zero σ a b Q h k = refl
  by-same zero (suc g) σ a b Q h k = rw (le-ltb (top σ a b) σ.levels (omega arith))
  by-same (suc f) zero σ a b Q h k = rw (le-ltb (top σ a b) σ.levels (omega arith))
  by-same (suc f) (suc g) σ a b Q h k = go (ltb (top σ a b) σ.levels) refl (λ τ x y P e d. by-same f g τ x y P (omega arith) (omega arith))
    where
      go : (z : Bool) → ltb (top σ a b) σ.levels ≡ z
          → ((τ : Store) (x y : ℤ) → Ready m τ x y → τ.levels ≡ σ.levels → top σ a b < top τ x y → join_by f m o τ x y ≡ join_by g m o τ x y)
          → join_top z m o (join_by f m o) σ a b ≡ join_top z m o (join_by g m o) σ a b
      go true q S = level-same (join_by f m o) (join_by g m o) σ a b Q (ltb-true (top σ a b) σ.levels q) (λ τ x y P e d. by-joined f τ x y P (omega arith)) S
      go false q S = refl

  -- so joining is joining both sides and making their node
  pub join_step : (σ : Store) (a b : ℤ) → Ready m σ a b → top σ a b < σ.levels → join_of m o σ a b ≡ join_at m (join_of m o) σ (top σ a b) a b
  unfolding join_of join_by
  join_step σ a b Q L = go σ.levels refl
    where
      go : (f : ℕ) → σ.levels ≡ f → join_by f m o σ a b ≡ join_at m (λ τ x y. join_by τ.levels m o τ x y) σ (top σ a b) a b
      go zero e = absurd (omega arith)
      go (suc f) e = rw (lt-ltb (top σ a b) σ.levels L) (level-same (join_by f m o) (λ τ x y. join_by τ.levels m o τ x y) σ a b Q L
          (λ τ x y P u d. by-joined f τ x y P (omega arith)) (λ τ x y P u d. by-same f τ.levels τ x y P (omega arith) (omega arith)))
