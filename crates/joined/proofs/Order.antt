-- The nodes that a join makes are those of its result that the store lacked, then side first, each after its children: by the joins of the
-- sides, whose nodes all lie deeper than the node that is made last.
use mathlib.Core.Path.{◌≡◌, refl, sym, ap, ◌∙◌}
use mathlib.Core.Logic.{◌⊎◌, inl, inr}
use mathlib.Core.Bool.{Bool, true, false, cond}
use Prim.Native.Nat.{ℕ, zero, suc, ◌+◌, ◌≤◌, ◌<◌}
use native.Mathlib.Omega.{arith}
use native.Mathlib.Decide.{dec_lt}
use lib.Dec.{ltb}
use lib.IntN.{ℤ, pos, neg_ℤ, nat_abs}
use borrow.Author.Tests.{ltb-true}
use Rattle.codes.specs.Answer.{Read, value, refused}
use Rattle.codes.specs.Limits.{Limits}
use Rattle.edges.specs.Edge.{minus, turn, eq_z}
use Rattle.edges.proofs.Edge.{abs_neg, eq_z-true}
use Rattle.store.specs.Store.{Store, level_at, then_at, else_at}
use Rattle.store.specs.Rules.{Sizes, depth, Rules}
use Rattle.store.specs.Make.{find, added, Made, made, full, room_for, placed_node, insert, turned, make, Makes}
use Rattle.store.specs.Growth.{EdgeOf, Grows}
use Rattle.store.proofs.Meaning.{depth-node}
use Rattle.store.proofs.Growth.{grows-refl, grow-edge, grow-depth, grow-answer}
use Rattle.store.proofs.Find.{find-some}
use Rattle.store.proofs.Added.{added-grows, added-holds, added-count}
use Rattle.store.proofs.Makes.{room-true, negated-value}
use Rattle.joined.specs.declared.Op.{Op}
use Rattle.joined.specs.Join.{apply, side, top, constantly, join_at, join_top, join_by, join_of, Ready}
use Rattle.joined.specs.Order.{nodes_under, InOrder}
use Rattle.joined.proofs.Sides.{constantly-edge}
use Rattle.joined.proofs.Joins.{Joined, then-cases, by-joined, sides-ready, sides-deep, sides-make}
use Rattle.joined.proofs.Known.{by-known}
use Rattle.joined.proofs.Coming.{Coming, done, new, coming-append, every_more, coming-old, coming-kept, coming-every, coming-firsts}
use Rattle.joined.proofs.Under.{nodes-under, old-nodes, new-nodes}

-- What making an edge of two that differ comes to, by the numbers of their nodes: node n was there, or is the next one.
data Placed (υ : Store) (l t e n : ℕ) (ω : Store) : Type 0 where
  found : 2 ≤ n → n ≤ υ.count → level_at υ n ≡ l → Placed υ l t e n ω
  next : n ≡ suc υ.count → Grows υ ω → ω.count ≡ suc υ.count → nat_abs (then_at ω (suc υ.count)) ≡ t
      → nat_abs (else_at ω (suc υ.count)) ≡ e → Placed υ l t e n ω

-- no refusal is an edge
no_edge : {A : Type 0} (n : ℕ) (x : ℤ) → ◌≡◌ {A = Read ℤ} (refused n) (value x) → A
no_edge n x q = let y : ◌≡◌ {A = ℕ} 0 1 = cc in absurd (omega arith)

one_value : (a b : ℤ) → ◌≡◌ {A = Read ℤ} (value a) (value b) → a ≡ b
one_value a b q = cc

module _ (m : Limits) (υ : Store) (z : Sizes m υ) (l : ℕ) where
  insert-placed : (t e x : ℤ) → (insert m υ l t e).answer ≡ value x → Placed υ l (nat_abs t) (nat_abs e) (nat_abs x) (insert m υ l t e).after
  unfolding insert
  insert-placed t e x q = go (find υ l t e) refl q
    where
      fresh : (b : Bool) → room_for m υ ≡ b → (cond b (made (pos (υ.count + 1)) (added υ l t e)) (full υ)).answer ≡ value x
          → Placed υ l (nat_abs t) (nat_abs e) (nat_abs x) (cond b (made (pos (υ.count + 1)) (added υ l t e)) (full υ)).after
      fresh true p q =
          let h = (room-true m υ p).0 in
          let H = added-holds m υ l t e z h in
          let c : υ.count + 1 ≡ suc υ.count = omega arith in
          next (sym (ap nat_abs (one_value (pos (υ.count + 1)) x q)) ∙ c) (added-grows m υ l t e z h) (added-count m υ l t e z h ∙ c)
          (ap (λ (n : ℕ). nat_abs (then_at (added υ l t e) n)) (sym c) ∙ ap nat_abs H.then)
          (ap (λ (n : ℕ). nat_abs (else_at (added υ l t e) n)) (sym c) ∙ ap nat_abs H.els)
      fresh false p q = no_edge 40 x q

      go : (n : ℕ) → find υ l t e ≡ n → (placed_node m υ l t e n).answer ≡ value x
          → Placed υ l (nat_abs t) (nat_abs e) (nat_abs x) (placed_node m υ l t e n).after
      go zero f q = fresh (room_for m υ) refl q
      go (suc n) f q =
          let s = find-some υ l t e (omega arith) in
          let y : find υ l t e ≡ nat_abs x = f ∙ ap nat_abs (one_value (pos (suc n)) x q) in
          found (omega (arith, s.0)) (omega (arith, s.1)) (ap (level_at υ) (sym y) ∙ s.2.level)

  -- one edge twice is that edge; of two that differ a node is placed
  make-placed : (t e x : ℤ) → (make m υ l t e).answer ≡ value x
      → ((t ≡ e) × (make m υ l t e ≡ made t υ)) ⊎ Placed υ l (nat_abs t) (nat_abs e) (nat_abs x) (make m υ l t e).after
  unfolding make
  make-placed t e x = go (eq_z t e) refl (minus t)
    where
      go : (b : Bool) → eq_z t e ≡ b → (c : Bool)
          → (cond b (made t υ) (cond c (turned (insert m υ l (neg_ℤ t) (neg_ℤ e))) (insert m υ l t e))).answer ≡ value x
          → ((t ≡ e) × (cond b (made t υ) (cond c (turned (insert m υ l (neg_ℤ t) (neg_ℤ e))) (insert m υ l t e)) ≡ made t υ))
          ⊎ Placed υ l (nat_abs t) (nat_abs e) (nat_abs x)
          (cond b (made t υ) (cond c (turned (insert m υ l (neg_ℤ t) (neg_ℤ e))) (insert m υ l t e))).after
      go true p c q = inl (eq_z-true t e p, refl)
      go false p true q = inr (rw (← abs_neg t, ← abs_neg e, ← abs_neg x)
          (insert-placed (neg_ℤ t) (neg_ℤ e) (neg_ℤ x) (negated-value (insert m υ l (neg_ℤ t) (neg_ℤ e)).answer x q)))
      go false p false q = inr (insert-placed t e x q)

-- The nodes of an edge come in their order, from store to store.
abbrev Comes : Store → Made → Type 0
Comes σ r = (x : ℤ) → r.answer ≡ value x → Coming σ.count (nodes_under r.after x) r.after.count

-- The last step, where the nodes of then and else came in their order and lie deeper: t is of τ, e of υ.
module _ (m : Limits) (σ τ υ : Store) (R : Rules m τ) (S : Rules m υ) (H : Grows τ υ) (l : ℕ) (t e : ℤ)
    (T : EdgeOf τ t) (E : EdgeOf υ e) (M : Makes υ l t e)
    (A : Coming σ.count (nodes_under τ t) τ.count) (B : Coming τ.count (nodes_under υ e) υ.count) where
  -- a node that is new in υ lies deeper than l
  new_deep : (n : ℕ) → σ.count < n → n ≤ υ.count → l < depth υ n
  new_deep n p q = go (dec_lt τ.count n)
    where
      go : Dec (τ.count < n) → l < depth υ n
      go (yes h) = let U = coming-every B (nodes-under υ S.nodes e E) n h q in omega (arith, U.deep, M.else_deep)
      go (no h) =
          let k : n ≤ τ.count = omega arith in
          let U = coming-every A (nodes-under τ R.nodes t T) n p k in
          omega (arith, U.deep, M.then_deep, grow-depth H n k, grow-depth H (nat_abs t) T.there)

  step-comes : (x : ℤ) → (make m υ l t e).answer ≡ value x → σ.count < nat_abs x
      → Coming σ.count (nodes_under (make m υ l t e).after x) (make m υ l t e).after.count
  step-comes x q h = go (make-placed m υ S.sizes l t e x q)
    where
      -- the else added nothing
      kept : t ≡ e → υ.count ≡ τ.count
      kept d = coming-kept B (every_more (λ k U. omega (arith, U.low, ap nat_abs d, T.there)) (nodes-under υ S.nodes e E))

      go : ((t ≡ e) × (make m υ l t e ≡ made t υ)) ⊎ Placed υ l (nat_abs t) (nat_abs e) (nat_abs x) (make m υ l t e).after
          → Coming σ.count (nodes_under (make m υ l t e).after x) (make m υ l t e).after.count
      go (inl d) =
          let y : t ≡ x = one_value t x (sym (ap (λ (r : Made). r.answer) d.1) ∙ q) in
          rw (d.1, ← y, old-nodes R.nodes H t T, kept d.0) A
      go (inr (found two there level)) = absurd (omega (arith, new_deep (nat_abs x) h there, depth-node υ (nat_abs x) two, level))
      go (inr (next n K c p r)) =
          rw (new-nodes υ (make m υ l t e).after S.nodes K t e x (grow-edge H t T) E n p r, c, old-nodes R.nodes H t T)
          (coming-append (coming-append A B) (new done))

module _ (m : Limits) (o : Op) where
  -- an edge that the store has already: the store stays, and all its nodes are old
  known-comes : (f : ℕ) (σ : Store) (a b x : ℤ) → Ready m σ a b → σ.levels ≤ top σ a b + f → (join_by f m o σ a b).answer ≡ value x
      → nat_abs x ≤ σ.count → Coming σ.count (nodes_under (join_by f m o σ a b).after x) (join_by f m o σ a b).after.count
  known-comes f σ a b x Q h q low =
      let D = by-joined m o f σ a b Q h in
      let X = D.edged x q in
      let E : EdgeOf σ x = record { some = X.edge.some; there = low } in
      let k = by-known m o f σ a b x Q h
      (record { edge = E; says = λ s. sym (grow-answer D.grows Q.rules.nodes s x E) ∙ X.says s }) in
      rw k (coming-old (every_more (λ n U. omega (arith, U.low)) (nodes-under σ Q.rules.nodes x E)))

  -- one level, for an edge that the store lacks, where J joins the sides
  level-comes : (J : Store → ℤ → ℤ → Made) (σ : Store) (a b : ℤ) (Q : Ready m σ a b) (L : top σ a b < σ.levels)
      → ((τ : Store) (x y : ℤ) → Ready m τ x y → τ.levels ≡ σ.levels → top σ a b < top τ x y → Joined m o τ x y (J τ x y) × Comes τ (J τ x y))
      → (x : ℤ) → (join_at m J σ (top σ a b) a b).answer ≡ value x → σ.count < nat_abs x
      → Coming σ.count (nodes_under (join_at m J σ (top σ a b) a b).after x) (join_at m J σ (top σ a b) a b).after.count
  level-comes J σ a b Q L I x =
      let l : ℕ = top σ a b in
      let G = grows-refl σ in
      let A = I σ (side σ l true a) (side σ l true b) (sides-ready m o σ a b Q L true σ Q.rules G) refl (sides-deep m o σ a b Q L true σ G) in
      then-cases Last (J σ (side σ l true a) (side σ l true b)) _
      (λ t p. let τ : Store = (J σ (side σ l true a) (side σ l true b)).after in
      let K = A.0.grows in
      let B = I τ (side σ l false a) (side σ l false b) (sides-ready m o σ a b Q L false τ A.0.rules K) K.levels
      (sides-deep m o σ a b Q L false τ K) in
      then-cases Last (J τ (side σ l false a) (side σ l false b)) (λ e υ. make m υ l t e)
      (λ e q. let T = A.0.edged t p in
      let E = B.0.edged e q in
      step-comes m σ τ (J τ (side σ l false a) (side σ l false b)).after A.0.rules B.0.rules B.0.grows l t e T.edge E.edge
      (sides-make m o σ a b Q L t e τ (J τ (side σ l false a) (side σ l false b)).after K B.0.grows T E) (A.1 t p) (B.1 e q) x)
      (λ n q z h. no_edge n x z))
      (λ n p z h. no_edge n x z)
    where
      Last : Made → Type 0
      Last r = r.answer ≡ value x → σ.count < nat_abs x → Coming σ.count (nodes_under r.after x) r.after.count

  -- edges to node 1 give one that the store has
  ones_low : (σ : Store) → Rules m σ → (y : Bool) (x : ℤ) → ◌≡◌ {A = Read ℤ} (value (constantly y)) (value x) → nat_abs x ≤ σ.count
  ones_low σ R y x q = rw (← one_value (constantly y) x q) (constantly-edge σ R.sizes.count_some y).there

  by-comes : (f : ℕ) (σ : Store) (a b : ℤ) → Ready m σ a b → σ.levels ≤ top σ a b + f → Comes σ (join_by f m o σ a b)
  unfolding join_by
  by-comes zero σ a b Q h x q = known-comes zero σ a b x Q h q (ones_low σ Q.rules (apply o (turn a true) (turn b true)) x q)
  by-comes (suc f) σ a b Q h x q = go (dec_lt σ.count (nat_abs x)) (λ τ u v P e d. by-comes f τ u v P (omega arith))
    where
      level : (z : Bool) → ltb (top σ a b) σ.levels ≡ z → σ.count < nat_abs x
          → ((τ : Store) (u v : ℤ) → Ready m τ u v → τ.levels ≡ σ.levels → top σ a b < top τ u v → Comes τ (join_by f m o τ u v))
          → (join_top z m o (join_by f m o) σ a b).answer ≡ value x
          → Coming σ.count (nodes_under (join_top z m o (join_by f m o) σ a b).after x) (join_top z m o (join_by f m o) σ a b).after.count
      level true e d I q = level-comes (join_by f m o) σ a b Q (ltb-true (top σ a b) σ.levels e)
          (λ τ u v P k j. (by-joined m o f τ u v P (omega arith), I τ u v P k j)) x q d
      level false e d I q = absurd (omega (arith, ones_low σ Q.rules (apply o (turn a true) (turn b true)) x q))

      go : Dec (σ.count < nat_abs x)
          → ((τ : Store) (u v : ℤ) → Ready m τ u v → τ.levels ≡ σ.levels → top σ a b < top τ u v → Comes τ (join_by f m o τ u v))
          → Coming σ.count (nodes_under (join_by (suc f) m o σ a b).after x) (join_by (suc f) m o σ a b).after.count
      go (no d) I = known-comes (suc f) σ a b x Q h q (omega arith)
      go (yes d) I = level (ltb (top σ a b) σ.levels) refl d I q

  -- 'New nodes are those of the result that the store lacks, then side first, each after its children.'
  pub join-order : (σ : Store) (a b x : ℤ) → Ready m σ a b → (join_of m o σ a b).answer ≡ value x → InOrder σ (join_of m o σ a b).after x
  unfolding join_of
  join-order σ a b x Q q = coming-firsts (by-comes σ.levels σ a b Q (omega arith) x q)
