-- What making does: the edge that is made says what was asked for, in a store that keeps the rules and has only grown; and where no edge
-- is made, there was no room for a node that was not there. Document 01, 'Store and meaning'.
use mathlib.Core.Path.{◌≡◌, refl, sym, ap, ap₂, subst, ◌∙◌}
use mathlib.Core.Logic.{◌≢◌, ◌⊎◌, inl, inr, ◌↔◌}
use mathlib.Core.Bool.{Bool, true, false, not, cond, ◌&&◌, not-not}
use Prim.Native.Nat.{ℕ, zero, suc, ◌+◌, ◌≤◌, ◌<◌}
use native.Mathlib.Omega.{arith}
use lib.Dec.{ltb}
use lib.ListN.{length}
use lib.IntN.{ℤ, pos, neg_ℤ, nat_abs, neg_ℤ-neg_ℤ}
use borrow.Author.Tests.{ltb-true, ltb-false}
use Rattle.codes.specs.Answer.{Read, value, refused}
use Rattle.codes.proofs.Bytes.{both}
use Rattle.edges.specs.Edge.{minus, turn, eq_z}
use Rattle.edges.proofs.Edge.{abs_neg, minus-neg, plain-is, eq_z-true, eq_z-false}
use Rattle.store.specs.Store.{Store}
use Rattle.store.specs.Meaning.{Setting, answer}
use Rattle.codes.specs.Limits.{Limits}
use Rattle.store.specs.Rules.{Sizes, depth, Fits, Nodes, Rules}
use Rattle.store.specs.Make.{find, added, Made, made, full, room_for, placed_node, insert, negated, turned, make, Makes}
use Rattle.store.specs.Growth.{EdgeOf, Grows}
use Rattle.store.proofs.Meaning.{depth-node, node-step, opposite-edge, answer-opposite}
use Rattle.store.proofs.Growth.{grows-refl, grow-depth, grow-answer}
use Rattle.store.proofs.Find.{Holds, Absent, find_none, find-some, absent-find}
use Rattle.store.proofs.Added.{added-grows, added-holds, added-count, added-length, added-rules}

-- is there room? '40 .. every slot lent, or [the limit], is used'
pub room-true : (m : Limits) (σ : Store) → room_for m σ ≡ true → (σ.count < length σ.level) × (σ.count < m.nodes)
room-true m σ h =
    let p = both (ltb σ.count (length σ.level)) (ltb σ.count m.nodes) h in
    (ltb-true σ.count (length σ.level) p.0, ltb-true σ.count m.nodes p.1)

pub room-false : (m : Limits) (σ : Store) → Sizes m σ → room_for m σ ≡ false → (σ.count ≡ length σ.level) ⊎ (σ.count ≡ m.nodes)
room-false m σ z h = go (ltb σ.count (length σ.level)) refl h
  where
    go : (x : Bool) → ltb σ.count (length σ.level) ≡ x → x && ltb σ.count m.nodes ≡ false → (σ.count ≡ length σ.level) ⊎ (σ.count ≡ m.nodes)
    go true p q = inr (omega (arith, ltb-false σ.count m.nodes q, z.count_limit))
    go false p q = inl (omega (arith, ltb-false σ.count (length σ.level) p, z.count_slots))

-- An edge a of τ that was made from level l, then t and else e of σ.
pub record Edged (τ σ : Store) (l : ℕ) (t e a : ℤ) : Type 0 where
  pub edge : EdgeOf τ a
  pub says : (s : Setting) → answer τ s a ≡ cond (s l) (answer σ s t) (answer σ s e)
  pub deep : l ≤ depth τ (nat_abs a)

-- The rules are kept, the store has only grown, and an edge that was made says what was asked for.
pub record Gives (m : Limits) (σ : Store) (l : ℕ) (t e : ℤ) (r : Made) : Type 0 where
  pub rules : Rules m r.after
  pub grows : Grows σ r.after
  pub long : length r.after.level ≡ length σ.level
  pub edged : (a : ℤ) → r.answer ≡ value a → Edged r.after σ l t e a

value-one : (a b : ℤ) → ◌≡◌ {A = Read ℤ} (value a) (value b) → a ≡ b
value-one a b q = cc

edged-value : {τ σ : Store} {l : ℕ} {t e : ℤ} (a b : ℤ) → ◌≡◌ {A = Read ℤ} (value a) (value b) → Edged τ σ l t e a → Edged τ σ l t e b
edged-value {τ} {σ} {l} {t} {e} a b q X = subst (λ (c : ℤ). Edged τ σ l t e c) (value-one a b q) X

-- a node that holds them says what they say
holds-edged : (σ τ : Store) → Grows σ τ → Nodes σ → Nodes τ → (l : ℕ) (t e : ℤ) → Fits σ (σ.count + 1) l t e
    → (n : ℕ) → 2 ≤ n → n ≤ τ.count → Holds τ n l t e → Edged τ σ l t e (pos n)
unfolding turn
holds-edged σ τ G N M l t e F n p h H = record {
  edge = record { some = omega arith; there = h };
  says = λ s. node-step τ M s n p h ∙ rw (
    H.level,
    H.then,
    H.els,
    grow-answer G N s t (record { some = F.then_some; there = omega (arith, F.then_low) }),
    grow-answer G N s e (record { some = F.else_some; there = omega (arith, F.else_low) }),
  );
  deep = omega (arith, depth-node τ n p, H.level);
}

module _ (m : Limits) (σ : Store) (l : ℕ) (t e : ℤ) where
  insert-gives : Rules m σ → Fits σ (σ.count + 1) l t e → Gives m σ l t e (insert m σ l t e)
  unfolding insert
  insert-gives R F = go (find σ l t e) refl
    where
      new : find σ l t e ≡ 0 → (b : Bool) → room_for m σ ≡ b → Gives m σ l t e (cond b (made (pos (σ.count + 1)) (added σ l t e)) (full σ))
      new q true r =
          let z = R.sizes in
          let k = room-true m σ r in
          let G = added-grows m σ l t e z k.0 in
          let K = added-rules m σ l t e z k.0 k.1 R F (find_none σ l t e q) in
          let X = holds-edged σ (added σ l t e) G R.nodes K.nodes l t e F (σ.count + 1) (omega (arith, z.count_some))
          (omega (arith, added-count m σ l t e z k.0)) (added-holds m σ l t e z k.0) in
          record { rules = K; grows = G; long = added-length m σ l t e z k.0; edged = λ a x. edged-value (pos (σ.count + 1)) a x X }
      new q false r = record { rules = R; grows = grows-refl σ; long = refl; edged = λ a x. let y : ◌≡◌ {A = ℕ} 0 1 = cc in absurd (omega arith) }

      go : (r : ℕ) → find σ l t e ≡ r → Gives m σ l t e (placed_node m σ l t e r)
      go zero q = new q (room_for m σ) refl
      go (suc n) q =
          let s = find-some σ l t e (omega arith) in
          let H : Holds σ (suc n) l t e = rw q at s.2 in
          let X = holds-edged σ σ (grows-refl σ) R.nodes R.nodes l t e F (suc n) (omega (arith, s.0)) (omega (arith, s.1)) H in
          record { rules = R; grows = grows-refl σ; long = refl; edged = λ a x. edged-value (pos (suc n)) a x X }

  -- no edge is given exactly where no node holds them and there is no room
  insert-full : (insert m σ l t e).answer ≡ refused 40 ↔ (Absent σ l t e × (room_for m σ ≡ false))
  unfolding insert
  insert-full = (λ q. go (find σ l t e) refl q, λ x. rw (absent-find σ l t e x.0, x.1))
    where
      new : (b : Bool) → (cond b (made (pos (σ.count + 1)) (added σ l t e)) (full σ)).answer ≡ refused 40 → b ≡ false
      new true q = let y : ◌≡◌ {A = ℕ} 0 1 = cc in absurd (omega arith)
      new false q = refl

      go : (r : ℕ) → find σ l t e ≡ r → (placed_node m σ l t e r).answer ≡ refused 40 → Absent σ l t e × (room_for m σ ≡ false)
      go zero f q = (find_none σ l t e f, new (room_for m σ) q)
      go (suc n) f q = let y : ◌≡◌ {A = ℕ} 0 1 = cc in absurd (omega arith)

  -- and there the store stays as it is
  insert-kept : (k : ℕ) → (insert m σ l t e).answer ≡ refused k → (k ≡ 40) × ((insert m σ l t e).after ≡ σ)
  unfolding insert
  insert-kept k q = go (find σ l t e) q
    where
      new : (b : Bool) → (cond b (made (pos (σ.count + 1)) (added σ l t e)) (full σ)).answer ≡ refused k
          → (k ≡ 40) × ((cond b (made (pos (σ.count + 1)) (added σ l t e)) (full σ)).after ≡ σ)
      new true q = let y : ◌≡◌ {A = ℕ} 0 1 = cc in absurd (omega arith)
      new false q = (cc, refl)

      go : (r : ℕ) → (placed_node m σ l t e r).answer ≡ refused k → (k ≡ 40) × ((placed_node m σ l t e r).after ≡ σ)
      go zero q = new (room_for m σ) q
      go (suc n) q = let y : ◌≡◌ {A = ℕ} 0 1 = cc in absurd (omega arith)

-- 'a minus on then moves to both the else and the result': what the node holds for an edge x, where its then is t
abbrev pub upright : ℤ → ℤ → ℤ
upright t x = cond (minus t) (neg_ℤ x) x

not-cond : (x a b : Bool) → not (cond x (not a) (not b)) ≡ cond x a b
not-cond true a b = not-not a
not-cond false a b = not-not b

pub negated-value : (r : Read ℤ) (a : ℤ) → negated r ≡ value a → r ≡ value (neg_ℤ a)
negated-value (value b) a q = ap value (sym (neg_ℤ-neg_ℤ b) ∙ ap neg_ℤ (value-one (neg_ℤ b) a q))
negated-value (refused n) a q = let y : ◌≡◌ {A = ℕ} 0 1 = cc in absurd (omega arith)

negated-refused : (r : Read ℤ) (n : ℕ) → negated r ≡ refused n → r ≡ refused n
negated-refused (value b) n q = let y : ◌≡◌ {A = ℕ} 0 1 = cc in absurd (omega arith)
negated-refused (refused k) n q = q

turned-gives : (m : Limits) (σ : Store) (l : ℕ) (t e : ℤ) → 1 ≤ nat_abs t → 1 ≤ nat_abs e → (r : Made) → Gives m σ l (neg_ℤ t) (neg_ℤ e) r → Gives m σ l t e (turned r)
turned-gives m σ l t e p q r G = record {
  rules = G.rules;
  grows = G.grows;
  long = G.long;
  edged = λ a x.
      let X = G.edged (neg_ℤ a) (negated-value r.answer a x) in
      let n : 1 ≤ nat_abs (neg_ℤ a) = X.edge.some in
      record {
        edge = rw (neg_ℤ-neg_ℤ a) at (opposite-edge r.after (neg_ℤ a) X.edge);
        says = λ s. ap (answer r.after s) (sym (neg_ℤ-neg_ℤ a)) ∙ answer-opposite r.after s (neg_ℤ a) n ∙ ap not (X.says s)
            ∙ ap₂ (λ u v. not (cond (s l) u v)) (answer-opposite σ s t p) (answer-opposite σ s e q) ∙ not-cond (s l) (answer σ s t) (answer σ s e);
        deep = rw (abs_neg a) at X.deep;
      };
}

module _ (m : Limits) (σ : Store) (l : ℕ) (t e : ℤ) where
  -- what may be made fits, once its minus is moved
  plain_fits : Makes σ l t e → t ≢ e → minus t ≡ false → Fits σ (σ.count + 1) l t e
  plain_fits K d q = record {
    positive = plain-is t q;
    differ = d;
    then_some = K.then_some;
    then_low = omega (arith, K.then_there);
    then_deep = K.then_deep;
    else_some = K.else_some;
    else_low = omega (arith, K.else_there);
    else_deep = K.else_deep;
    level_low = K.level_low;
  }

  opposite-fits : Makes σ l t e → t ≢ e → minus t ≡ true → Fits σ (σ.count + 1) l (neg_ℤ t) (neg_ℤ e)
  opposite-fits K d q = record {
    positive = plain-is (neg_ℤ t) (minus-neg t K.then_some ∙ ap not q);
    differ = λ x. d (sym (neg_ℤ-neg_ℤ t) ∙ ap neg_ℤ x ∙ neg_ℤ-neg_ℤ e);
    then_some = rw (abs_neg t) K.then_some;
    then_low = rw (abs_neg t) (omega (arith, K.then_there));
    then_deep = rw (abs_neg t) K.then_deep;
    else_some = rw (abs_neg e) K.else_some;
    else_low = rw (abs_neg e) (omega (arith, K.else_there));
    else_deep = rw (abs_neg e) K.else_deep;
    level_low = K.level_low;
  }

  same-edged : Makes σ l t e → t ≡ e → Edged σ σ l t e t
  same-edged K q = record
      { edge = record { some = K.then_some; there = K.then_there }; says = λ s. either s (s l); deep = omega (arith, K.then_deep) }
    where
      either : (s : Setting) (x : Bool) → answer σ s t ≡ cond x (answer σ s t) (answer σ s e)
      either s true = refl
      either s false = ap (answer σ s) q

  pub make-gives : Rules m σ → Makes σ l t e → Gives m σ l t e (make m σ l t e)
  unfolding make
  make-gives R K = go (eq_z t e) refl (minus t) refl
    where
      go : (x : Bool) → eq_z t e ≡ x → (y : Bool) → minus t ≡ y
          → Gives m σ l t e (cond x (made t σ) (cond y (turned (insert m σ l (neg_ℤ t) (neg_ℤ e))) (insert m σ l t e)))
      go true p y q = let X = same-edged K (eq_z-true t e p) in
          record { rules = R; grows = grows-refl σ; long = refl; edged = λ a x. edged-value t a x X }
      go false p true q = turned-gives m σ l t e K.then_some K.else_some (insert m σ l (neg_ℤ t) (neg_ℤ e))
          (insert-gives m σ l (neg_ℤ t) (neg_ℤ e) R (opposite-fits K (eq_z-false t e p) q))
      go false p false q = insert-gives m σ l t e R (plain_fits K (eq_z-false t e p) q)

  -- '40 .. a line needs a new node and every slot lent, or [the limit], is used'
  pub record Unmade : Type 0 where
    pub differ : t ≢ e
    pub absent : Absent σ l (upright t t) (upright t e)
    pub room : room_for m σ ≡ false

  pub make-full : (make m σ l t e).answer ≡ refused 40 ↔ Unmade
  unfolding make
  make-full = go (eq_z t e) refl (minus t) refl
    where
      turned-full : (r : Made) → ((turned r).answer ≡ refused 40) ↔ (r.answer ≡ refused 40)
      turned-full r = (negated-refused r.answer 40, λ q. rw q)

      go : (x : Bool) → eq_z t e ≡ x → (y : Bool) → minus t ≡ y
          → (cond x (made t σ) (cond y (turned (insert m σ l (neg_ℤ t) (neg_ℤ e))) (insert m σ l t e))).answer ≡ refused 40 ↔ Unmade
      go true p y q = (λ z. let w : ◌≡◌ {A = ℕ} 0 1 = cc in absurd (omega arith), λ u. absurd (u.differ (eq_z-true t e p)))
      go false p true q =
          let f = insert-full m σ l (neg_ℤ t) (neg_ℤ e) in
          let g = turned-full (insert m σ l (neg_ℤ t) (neg_ℤ e)) in (
            λ z. let w = f.0 (g.0 z) in record { differ = eq_z-false t e p; absent = rw q w.0; room = w.1 },
            λ u. g.1 (f.1 (rw q at u.absent, u.room)),
          )
      go false p false q =
          let f = insert-full m σ l t e in (
            λ z. let w = f.0 z in record { differ = eq_z-false t e p; absent = rw q w.0; room = w.1 },
            λ u. f.1 (rw q at u.absent, u.room),
          )

  -- no other refusal, and with it the store stays as it is
  pub make-kept : (k : ℕ) → (make m σ l t e).answer ≡ refused k → (k ≡ 40) × ((make m σ l t e).after ≡ σ)
  unfolding make
  make-kept k = go (eq_z t e) (minus t)
    where
      go : (x y : Bool) → (cond x (made t σ) (cond y (turned (insert m σ l (neg_ℤ t) (neg_ℤ e))) (insert m σ l t e))).answer ≡ refused k
          → (k ≡ 40) × ((cond x (made t σ) (cond y (turned (insert m σ l (neg_ℤ t) (neg_ℤ e))) (insert m σ l t e))).after ≡ σ)
      go true y q = let w : ◌≡◌ {A = ℕ} 0 1 = cc in absurd (omega arith)
      go false true q = insert-kept m σ l (neg_ℤ t) (neg_ℤ e) k (negated-refused (insert m σ l (neg_ℤ t) (neg_ℤ e)).answer k q)
      go false false q = insert-kept m σ l t e k q

  module _ (R : Rules m σ) (K : Makes σ l t e) where
    pub make-rules : Rules m (make m σ l t e).after
    make-rules = (make-gives R K).rules

    pub make-grows : Grows σ (make m σ l t e).after
    make-grows = (make-gives R K).grows

    -- every old edge says what it said
    pub make-old : (s : Setting) (x : ℤ) → EdgeOf σ x → answer (make m σ l t e).after s x ≡ answer σ s x
    make-old s x E = grow-answer make-grows R.nodes s x E

    -- as many slots as before
    pub make-long : length (make m σ l t e).after.level ≡ length σ.level
    make-long = (make-gives R K).long

    module _ (a : ℤ) (q : (make m σ l t e).answer ≡ value a) where
      pub make-edge : EdgeOf (make m σ l t e).after a
      make-edge = ((make-gives R K).edged a q).edge

      pub make-answer : (s : Setting) → answer (make m σ l t e).after s a ≡ cond (s l) (answer σ s t) (answer σ s e)
      make-answer s = ((make-gives R K).edged a q).says s

      -- the edge lies at the level, or deeper where it is one of the two
      pub make-depth : l ≤ depth (make m σ l t e).after (nat_abs a)
      make-depth = ((make-gives R K).edged a q).deep

-- what may be made may be made later too
pub grow-makes : {σ τ : Store} (l : ℕ) (t e : ℤ) → Grows σ τ → Makes σ l t e → Makes τ l t e
grow-makes l t e G K =
    let u = G.count in
    record {
      then_some = K.then_some;
      then_there = omega (arith, K.then_there);
      then_deep = rw (grow-depth G (nat_abs t) K.then_there) K.then_deep;
      else_some = K.else_some;
      else_there = omega (arith, K.else_there);
      else_deep = rw (grow-depth G (nat_abs e) K.else_there) K.else_deep;
      level_low = rw G.levels K.level_low;
    }
