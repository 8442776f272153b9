-- The shortcuts: each names an edge that says the operation, so that joining gives it and makes nothing (`Known`); where there is none, neither
-- edge leads to node 1, and there is a level to join at.
use mathlib.Core.Path.{◌≡◌, refl, sym, ap, ap₂, ◌∙◌}
use mathlib.Core.Bool.{Bool, true, false, not, cond, xor, ◌||◌, not-not, true≢false}
use Rattle.std.specs.Prelude.{Option, Some, None, IfSome}
use Rattle.std.proofs.lemmas.Option.{none-some}
use Prim.Native.Nat.{zero, suc, ◌≤◌, ◌<◌}
use native.Mathlib.Omega.{arith}
use lib.Dec.{eqb}
use lib.IntN.{ℤ, pos, negsuc, neg_ℤ, nat_abs, neg_ℤ-neg_ℤ}
use borrow.Author.Tests.{eqb-true, eqb-false}
use Rattle.codes.specs.Limits.{Limits}
use Rattle.edges.specs.Edge.{minus, eq_z}
use Rattle.edges.proofs.Edge.{abs_neg, eq_z-true, eq_z-false}
use Rattle.store.specs.Store.{Store}
use Rattle.store.specs.Meaning.{Setting, answer}
use Rattle.store.specs.Growth.{EdgeOf}
use Rattle.store.proofs.Meaning.{depth-node, opposite-edge, answer-opposite}
use Rattle.joined.specs.declared.Op.{Op}
use Rattle.joined.specs.declared.Op.TheVariants as op
use Rattle.joined.specs.Join.{apply, top, through, constantly, Ready, SaysJoin}
use Rattle.joined.specs.Shortcuts.{near, Apart, short_and, short_xor, short_by, short}
use Rattle.joined.proofs.Sides.{constantly-edge, constantly-answer, top_left}

-- the operations on two answers, where the answers are alike, opposite, or one of them is known
and_same : (x y : Bool) → x ≡ y → x ≡ apply op.And x y
unfolding apply
and_same true y q = q
and_same false y q = refl

and-opposite : (x y : Bool) → x ≡ not y → false ≡ apply op.And x y
unfolding apply
and-opposite x true q = rw q
and-opposite x false q = rw q

and_yes : (x y : Bool) → x ≡ true → y ≡ apply op.And x y
unfolding apply
and_yes x y q = rw q

yes_and : (x y : Bool) → y ≡ true → x ≡ apply op.And x y
unfolding apply
yes_and true y q = sym q
yes_and false y q = refl

and_no : (x y : Bool) → x ≡ false → false ≡ apply op.And x y
unfolding apply
and_no x y q = rw q

no-and : (x y : Bool) → y ≡ false → false ≡ apply op.And x y
unfolding apply
no-and true y q = sym q
no-and false y q = refl

xor-turns : (x y : Bool) → apply op.Xor x y ≡ apply op.Xor y x
unfolding apply xor
xor-turns true true = refl
xor-turns true false = refl
xor-turns false true = refl
xor-turns false false = refl

xor_same : (x y : Bool) → x ≡ y → false ≡ apply op.Xor x y
unfolding apply xor
xor_same true y q = rw (← q)
xor_same false y q = rw (← q)

xor-opposite : (x y : Bool) → x ≡ not y → true ≡ apply op.Xor x y
unfolding apply xor
xor-opposite x true q = rw q
xor-opposite x false q = rw q

xor-yes : (x y : Bool) → x ≡ true → not y ≡ apply op.Xor x y
unfolding apply xor
xor-yes x true q = rw q
xor-yes x false q = rw q

xor-no : (x y : Bool) → x ≡ false → y ≡ apply op.Xor x y
unfolding apply xor
xor-no x true q = rw q
xor-no x false q = rw q

or-by-and : (x y : Bool) → not (apply op.And (not x) (not y)) ≡ apply op.Or x y
unfolding apply
or-by-and true y = refl
or-by-and false y = not-not y

-- two edges with one node are one edge, or opposites; an edge to node 1 is 1 or -1
one-node : (a b : ℤ) → nat_abs a ≡ nat_abs b → (a ≡ neg_ℤ b → ⊥) → a ≡ b
one-node (pos n) (pos k) q f = ap pos q
one-node (pos n) (negsuc k) q f = absurd (f (ap pos q))
one-node (negsuc n) (pos zero) q f = absurd (omega (arith, q))
one-node (negsuc n) (pos (suc k)) q f = absurd (f (ap negsuc (omega (arith, q))))
one-node (negsuc n) (negsuc k) q f = ap negsuc (omega (arith, q))

is-yes : (e : ℤ) → nat_abs e ≡ 1 → (e ≡ negsuc 0 → ⊥) → e ≡ pos 1
is-yes e q f = one-node e (pos 1) q f

-- what two edges with a shortcut have
data Near (a b : ℤ) : Type 0 where
  alike : nat_abs a ≡ nat_abs b → Near a b
  left_one : nat_abs a ≡ 1 → Near a b
  right_one : nat_abs b ≡ 1 → Near a b

near-is : (a b : ℤ) → near a b ≡ true → Near a b
near-is a b h = go (eqb (nat_abs a) (nat_abs b)) refl (eqb (nat_abs a) 1) refl (eqb (nat_abs b) 1) refl h
  where
    go : (x : Bool) → eqb (nat_abs a) (nat_abs b) ≡ x → (y : Bool) → eqb (nat_abs a) 1 ≡ y → (z : Bool) → eqb (nat_abs b) 1 ≡ z → (x || y || z) ≡ true → Near a b
    go true u y v z w h = alike (eqb-true _ _ u)
    go false u true v z w h = left_one (eqb-true _ _ v)
    go false u false v true w h = right_one (eqb-true _ _ w)
    go false u false v false w h = absurd (true≢false (sym h))

near-not : (a b : ℤ) → near a b ≡ false → Apart a b
near-not a b h = go (eqb (nat_abs a) (nat_abs b)) refl (eqb (nat_abs a) 1) refl (eqb (nat_abs b) 1) refl h
  where
    go : (x : Bool) → eqb (nat_abs a) (nat_abs b) ≡ x → (y : Bool) → eqb (nat_abs a) 1 ≡ y → (z : Bool) → eqb (nat_abs b) 1 ≡ z → (x || y || z) ≡ false → Apart a b
    go true u y v z w h = absurd (true≢false h)
    go false u true v z w h = absurd (true≢false h)
    go false u false v true w h = absurd (true≢false h)
    go false u false v false w h = record { differ = eqb-false _ _ u; left = eqb-false _ _ v; right = eqb-false _ _ w }

module _ (σ : Store) (C : 1 ≤ σ.count) where
  -- an edge that always says one thing
  says-always : (a b : ℤ) (o : Op) (y : Bool) → ((s : Setting) → y ≡ apply o (answer σ s a) (answer σ s b)) → SaysJoin o σ a b (constantly y)
  says-always a b o y f = record { edge = constantly-edge σ C y; says = λ s. constantly-answer σ s y ∙ f s }

  always : (s : Setting) (e : ℤ) (y : Bool) → e ≡ constantly y → answer σ s e ≡ y
  always s e y q = ap (answer σ s) q ∙ constantly-answer σ s y

  module _ (a b : ℤ) (E : EdgeOf σ a) (F : EdgeOf σ b) where
    opposites : (s : Setting) → a ≡ neg_ℤ b → answer σ s a ≡ not (answer σ s b)
    opposites s q = ap (answer σ s) q ∙ answer-opposite σ s b F.some

    -- an and
    and_left : ((s : Setting) → answer σ s a ≡ apply op.And (answer σ s a) (answer σ s b)) → SaysJoin op.And σ a b a
    and_left f = record { edge = E; says = f }

    and_last : (eq_z a (negsuc 0) ≡ false) → (eq_z b (negsuc 0) ≡ false) → (eq_z a (neg_ℤ b) ≡ false) → (eq_z a (pos 1) ≡ false) → Near a b
        → SaysJoin op.And σ a b a
    and_last p q r t (alike e) = and_left (λ s. and_same _ _ (ap (answer σ s) (one-node a b e (eq_z-false a (neg_ℤ b) r))))
    and_last p q r t (left_one e) = absurd (eq_z-false a (pos 1) t (is-yes a e (eq_z-false a (negsuc 0) p)))
    and_last p q r t (right_one e) = and_left (λ s. yes_and _ _ (always s b true (is-yes b e (eq_z-false b (negsuc 0) q))))

    and-says : Near a b → SaysJoin op.And σ a b (short_and a b)
    unfolding short_and
    and-says N = go (eq_z a (negsuc 0)) refl (eq_z b (negsuc 0)) refl (eq_z a (neg_ℤ b)) refl (eq_z a (pos 1)) refl
      where
        go : (x : Bool) → eq_z a (negsuc 0) ≡ x → (y : Bool) → eq_z b (negsuc 0) ≡ y → (z : Bool) → eq_z a (neg_ℤ b) ≡ z → (t : Bool) → eq_z a (pos 1) ≡ t
            → SaysJoin op.And σ a b (cond (x || y || z) (negsuc 0) (cond t b a))
        go true p y q z r t u = says-always a b op.And false (λ s. and_no _ _ (always s a false (eq_z-true a (negsuc 0) p)))
        go false p true q z r t u = says-always a b op.And false (λ s. no-and _ _ (always s b false (eq_z-true b (negsuc 0) q)))
        go false p false q true r t u = says-always a b op.And false (λ s. and-opposite _ _ (opposites s (eq_z-true a (neg_ℤ b) r)))
        go false p false q false r true u = record { edge = F; says = λ s. and_yes _ _ (always s a true (eq_z-true a (pos 1) u)) }
        go false p false q false r false u = and_last p q r u N

    -- an exclusive or with yes or no, on the left
    xor-one : nat_abs a ≡ 1 → SaysJoin op.Xor σ a b (through a (neg_ℤ b))
    unfolding minus
    xor-one q = go (eq_z a (negsuc 0)) refl
      where
        by-no : a ≡ negsuc 0 → SaysJoin op.Xor σ a b (through a (neg_ℤ b))
        by-no e = rw (e, neg_ℤ-neg_ℤ b) (record { edge = F; says = λ s. xor-no _ _ (always s (negsuc 0) false refl) })

        by-yes : a ≡ pos 1 → SaysJoin op.Xor σ a b (through a (neg_ℤ b))
        by-yes e = rw e (record {
          edge = opposite-edge σ b F;
          says = λ s. answer-opposite σ s b F.some ∙ xor-yes _ _ (always s (pos 1) true refl);
        })

        go : (x : Bool) → eq_z a (negsuc 0) ≡ x → SaysJoin op.Xor σ a b (through a (neg_ℤ b))
        go true h = by-no (eq_z-true a (negsuc 0) h)
        go false h = by-yes (is-yes a q (eq_z-false a (negsuc 0) h))

  -- operands may change places
  xor-swap : (a b x : ℤ) → SaysJoin op.Xor σ b a x → SaysJoin op.Xor σ a b x
  xor-swap a b x S = record { edge = S.edge; says = λ s. S.says s ∙ xor-turns (answer σ s b) (answer σ s a) }

  xor-says : (a b : ℤ) → EdgeOf σ a → EdgeOf σ b → Near a b → SaysJoin op.Xor σ a b (short_xor a b)
  unfolding short_xor
  xor-says a b E F N = go (eq_z a b) refl (eq_z a (neg_ℤ b)) refl (eqb (nat_abs a) 1) refl
    where
      right_is : (eq_z a b ≡ false) → (eq_z a (neg_ℤ b) ≡ false) → (eqb (nat_abs a) 1 ≡ false) → Near a b → nat_abs b ≡ 1
      right_is p q r (alike e) = absurd (eq_z-false a b p (one-node a b e (eq_z-false a (neg_ℤ b) q)))
      right_is p q r (left_one e) = absurd (eqb-false _ _ r e)
      right_is p q r (right_one e) = e

      go : (x : Bool) → eq_z a b ≡ x → (y : Bool) → eq_z a (neg_ℤ b) ≡ y → (z : Bool) → eqb (nat_abs a) 1 ≡ z
          → SaysJoin op.Xor σ a b (cond x (negsuc 0) (cond y (pos 1) (cond z (through a (neg_ℤ b)) (through b (neg_ℤ a)))))
      go true p y q z r = says-always a b op.Xor false (λ s. xor_same _ _ (ap (answer σ s) (eq_z-true a b p)))
      go false p true q z r = says-always a b op.Xor true (λ s. xor-opposite _ _ (opposites a b E F s (eq_z-true a (neg_ℤ b) q)))
      go false p false q true r = xor-one a b E F (eqb-true _ _ r)
      go false p false q false r = xor-swap a b (through b (neg_ℤ a)) (xor-one b a F E (right_is p q r N))

  -- an or by an and, with the signs turned over
  near-opposites : (a b : ℤ) → Near a b → Near (neg_ℤ a) (neg_ℤ b)
  near-opposites a b (alike e) = alike (abs_neg a ∙ e ∙ sym (abs_neg b))
  near-opposites a b (left_one e) = left_one (abs_neg a ∙ e)
  near-opposites a b (right_one e) = right_one (abs_neg b ∙ e)

  or-says : (a b : ℤ) → EdgeOf σ a → EdgeOf σ b → Near a b → SaysJoin op.Or σ a b (neg_ℤ (short_and (neg_ℤ a) (neg_ℤ b)))
  or-says a b E F N =
      let S = and-says (neg_ℤ a) (neg_ℤ b) (opposite-edge σ a E) (opposite-edge σ b F) (near-opposites a b N) in
      record {
        edge = opposite-edge σ _ S.edge;
        says = λ s. answer-opposite σ s _ S.edge.some ∙ ap not (S.says s)
            ∙ ap₂ (λ u v. not (apply op.And u v)) (answer-opposite σ s a E.some) (answer-opposite σ s b F.some) ∙ or-by-and (answer σ s a) (answer σ s b);
      }

  by-says : (o : Op) (a b : ℤ) → EdgeOf σ a → EdgeOf σ b → Near a b → SaysJoin o σ a b (short_by o a b)
  unfolding short_by
  by-says op.And a b E F N = and-says a b E F N
  by-says op.Or a b E F N = or-says a b E F N
  by-says op.Xor a b E F N = xor-says a b E F N

module _ (m : Limits) (o : Op) (σ : Store) (a b : ℤ) (Q : Ready m σ a b) where
  near-says : near a b ≡ true → SaysJoin o σ a b (short_by o a b)
  near-says h = by-says σ Q.rules.sizes.count_some o a b Q.left Q.right (near-is a b h)

  -- a shortcut says the operation
  pub short-says : (r : Option ℤ) → r ≡ short o a b → IfSome r (SaysJoin o σ a b)
  unfolding short
  short-says r q = rw q (go (near a b) refl)
    where
      go : (y : Bool) → near a b ≡ y → IfSome (cond y (Some (short_by o a b)) None) (SaysJoin o σ a b)
      go true h = near-says h
      go false h = tt

  -- and where there is none, the edges are apart
  pub short_none : short o a b ≡ None → Apart a b
  unfolding short
  short_none z = go (near a b) refl z
    where
      go : (y : Bool) → near a b ≡ y → cond y (Some (short_by o a b)) None ≡ None → Apart a b
      go true h z = absurd (none-some (short_by o a b) (sym z))
      go false h z = near-not a b h

  -- so that there is a level to join at
  pub apart-high : Apart a b → top σ a b < σ.levels
  apart-high D =
      let p : 2 ≤ nat_abs a = omega (arith, Q.left.some, D.left) in
      let N = Q.rules.nodes.fits (nat_abs a) p Q.left.there in
      omega (arith, top_left σ a b, depth-node σ (nat_abs a) p, N.level_low)
