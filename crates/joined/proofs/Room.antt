-- Room for a join: it gives an edge exactly where the nodes that it needs have a slot each, and are no more than the limit. It is made twice, in
-- the store as it is and in a roomier one. Document 02, request 2: '40 only where those nodes don't fit'.
use mathlib.Core.Path.{◌≡◌, refl, sym, ap, ap₂, subst, ◌∙◌}
use mathlib.Core.Logic.{◌↔◌}
use mathlib.Core.Bool.{Bool, true, false, cond}
use Prim.Native.Nat.{ℕ, zero, suc, ◌+◌, ◌≤◌, ◌<◌}
use native.Mathlib.Omega.{arith}
use native.Mathlib.Nat.{le_refl, le_trans}
use lib.Dec.{eqb, ltb}
use lib.ListN.{length}
use lib.IntN.{ℤ, nat_abs}
use borrow.Author.Tests.{ltb-true, eqb-true}
use Rattle.codes.specs.Answer.{Read, value, refused}
use Rattle.codes.specs.Limits.{Limits}
use Rattle.store.specs.Store.{Store}
use Rattle.store.specs.Rules.{Sizes, depth, Nodes}
use Rattle.store.specs.Make.{Made, make}
use Rattle.store.specs.Growth.{EdgeOf}
use Rattle.store.specs.Room.{roomier, with_room}
use Rattle.store.proofs.Growth.{grows-refl, grow-depth}
use Rattle.store.proofs.Room.{Beside, Pair, both, lacks, make-pair, make-count, roomier-beside}
use Rattle.joined.specs.declared.Op.{Op}
use Rattle.joined.specs.Join.{through, child, side, top, proceed, and_then, join_top, join_by, join_of, Ready}
use Rattle.joined.specs.Room.{most_made, count_joined, JoinFits}
use Rattle.joined.proofs.Sides.{level-node}
use Rattle.joined.proofs.Joins.{by-joined, sides-ready, sides-deep}

-- A store with room for k nodes more.
record Roomy (w : Limits) (k : ℕ) (τ : Store) : Type 0 where
  sizes : Sizes w τ
  slots : τ.count + k ≤ length τ.level
  limit : τ.count + k ≤ w.nodes

-- What a step in it gives: an edge, and room for k more is left.
record Rooms (w : Limits) (k : ℕ) (τ : Store) (r : Made) : Type 0 where
  edge : ℤ
  gives : r.answer ≡ value edge
  roomy : Roomy w k r.after
  count : τ.count ≤ r.after.count

-- room for fewer
roomy-less : (w : Limits) (j k : ℕ) (τ : Store) → k ≤ j → Roomy w j τ → Roomy w k τ
roomy-less w j k τ h R = record { sizes = R.sizes; slots = omega (arith, R.slots); limit = omega (arith, R.limit) }

beside-fewer : {m w : Limits} {σ τ : Store} (j k : ℕ) → k ≤ j → Beside m w j σ τ → Beside m w k σ τ
beside-fewer j k h B = record {
  sizes = B.sizes;
  roomy = B.roomy;
  grows = B.grows;
  count = B.count;
  slots = omega (arith, B.slots);
  limit = omega (arith, B.limit);
}

-- the roomier one of two has room
beside-roomy : {m w : Limits} {k : ℕ} {σ τ : Store} → Beside m w k σ τ → Roomy w k τ
beside-roomy B = record { sizes = B.roomy; slots = B.slots; limit = B.limit }

-- and one that has room stands beside itself
roomy-self : (w : Limits) (k : ℕ) (τ : Store) → Roomy w k τ → Beside w w k τ τ
roomy-self w k τ R = record { sizes = R.sizes; roomy = R.sizes; grows = grows-refl τ; count = refl; slots = R.slots; limit = R.limit }

-- an answer is an edge or a refusal
no_both : {C : Type 0} (n : ℕ) (x : ℤ) (r : Read ℤ) → r ≡ refused n → r ≡ value x → C
no_both n x r p q = let y : ◌≡◌ {A = ℕ} 0 1 = cc in absurd (omega arith)

-- where there is room an edge is made
make-rooms : (w : Limits) (k : ℕ) (τ : Store) (l : ℕ) (t e : ℤ) → Roomy w (suc k) τ → Rooms w k τ (make w τ l t e)
make-rooms w k τ l t e R = go (make-pair w w τ τ k (roomy-self w (suc k) τ R) l t e)
  where
    go : Pair w w k τ (make w τ l t e) (make w τ l t e) → Rooms w k τ (make w τ l t e)
    go (both a p q h B) = record { edge = a; gives = p; roomy = beside-roomy B; count = make-count w τ l t e }
    go (lacks a p q f) = no_both 40 a (make w τ l t e).answer p q

-- one step after another
rooms-then : (w : Limits) (j k : ℕ) (τ : Store) (r : Made) (K : ℤ → Store → Made) → Rooms w j τ r
    → ((a : ℤ) → Roomy w j r.after → Rooms w k r.after (K a r.after)) → Rooms w k τ (and_then r K)
rooms-then w j k τ r K A f =
    let B = f A.edge A.roomy in
    let q : and_then r K ≡ K A.edge r.after = ap (λ (x : Read ℤ). proceed x r.after K) A.gives in
    rw q (record { edge = B.edge; gives = B.gives; roomy = B.roomy; count = le_trans A.count B.count })

-- in both
pair_then : (m w : Limits) (j k : ℕ) (σ : Store) (r s : Made) (K H : ℤ → Store → Made) → Pair m w j σ r s
    → ((a : ℤ) → Beside m w j r.after s.after → Pair m w k r.after (K a r.after) (H a s.after))
    → ((a : ℤ) → Rooms w k s.after (H a s.after)) → Pair m w k σ (and_then r K) (and_then s H)
pair_then m w j k σ r s K H (both a p q h B) f g =
    rw (ap (λ (x : Read ℤ). proceed x r.after K) p, ap (λ (x : Read ℤ). proceed x s.after H) q) (go (f a B))
  where
    go : Pair m w k r.after (K a r.after) (H a s.after) → Pair m w k σ (K a r.after) (H a s.after)
    go (both b x y z C) = both b x y (z ∙ h) C
    go (lacks b x y z) = lacks b x y (λ v. z (omega (arith, h, v.0), v.1))
pair_then m w j k σ r s K H (lacks a p q n) f g =
    let T = g a in
    rw (ap (λ (x : Read ℤ). proceed x r.after K) p, ap (λ (x : Read ℤ). proceed x s.after H) q)
    (lacks T.edge refl T.gives (λ v. n (le_trans T.count v.0, le_trans T.count v.1)))

-- Both sides, each of which makes c nodes at most, and their node.
abbrev both_sides : Limits → (Store → ℤ → ℤ → Made) → Store → ℕ → (t u e v : ℤ) → Made
both_sides m J σ l t u e v = and_then (J σ t u) (λ x τ. and_then (J τ e v) (λ y υ. make m υ l x y))

module _ (w : Limits) (c k l : ℕ) (K : Store → ℤ → ℤ → Made) (I : (j : ℕ) (υ : Store) (x y : ℤ) → Roomy w (c + j) υ → Rooms w j υ (K υ x y))
    (t u e v : ℤ) where
  else-rooms : (x : ℤ) (τ : Store) → Roomy w (c + suc k) τ → Rooms w k τ (and_then (K τ e v) (λ y υ. make w υ l x y))
  else-rooms x τ R =
      rooms-then w (suc k) k τ (K τ e v) (λ y υ. make w υ l x y) (I (suc k) τ e v R) (λ y S. make-rooms w k (K τ e v).after l x y S)

  sides-rooms : (τ : Store) → Roomy w (c + (c + suc k)) τ → Rooms w k τ (both_sides w K τ l t u e v)
  sides-rooms τ R = rooms-then w (c + suc k) k τ (K τ t u) (λ x τ. and_then (K τ e v) (λ y υ. make w υ l x y)) (I (c + suc k) τ t u R)
      (λ x S. else-rooms x (K τ t u).after S)

  module _ (m : Limits) (J : Store → ℤ → ℤ → Made) where
    else-pair : (x : ℤ) (σ τ : Store) → Roomy w (c + suc k) τ → Pair m w (suc k) σ (J σ e v) (K τ e v)
        → Pair m w k σ (and_then (J σ e v) (λ y υ. make m υ l x y)) (and_then (K τ e v) (λ y υ. make w υ l x y))
    else-pair x σ τ R P =
        pair_then m w (suc k) k σ (J σ e v) (K τ e v) (λ y υ. make m υ l x y) (λ y υ. make w υ l x y) P
        (λ y B. make-pair m w (J σ e v).after (K τ e v).after k B l x y)
        (λ y. make-rooms w k (K τ e v).after l x y (I (suc k) τ e v R).roomy)

    sides-pair : (σ τ : Store) → Roomy w (c + (c + suc k)) τ → Pair m w (c + suc k) σ (J σ t u) (K τ t u)
        → (Beside m w (c + suc k) (J σ t u).after (K τ t u).after
        → Pair m w (suc k) (J σ t u).after (J (J σ t u).after e v) (K (K τ t u).after e v))
        → Pair m w k σ (both_sides m J σ l t u e v) (both_sides w K τ l t u e v)
    sides-pair σ τ R P f =
        let S = (I (c + suc k) τ t u R).roomy in
        pair_then m w (c + suc k) k σ (J σ t u) (K τ t u) (λ x τ. and_then (J τ e v) (λ y υ. make m υ l x y))
        (λ x τ. and_then (K τ e v) (λ y υ. make w υ l x y)) P (λ x B. else-pair x (J σ t u).after (K τ t u).after S (f B))
        (λ x. else-rooms x (K τ t u).after S)

-- a join in a store that has room
by-rooms : (w : Limits) (o : Op) (f k : ℕ) (τ : Store) (a b : ℤ) → Roomy w (most_made f + k) τ → Rooms w k τ (join_by f w o τ a b)
unfolding join_by most_made
by-rooms w o zero k τ a b R = record { edge = _; gives = refl; roomy = roomy-less w (0 + k) k τ (omega arith) R; count = le_refl τ.count }
by-rooms w o (suc f) k τ a b R = go (ltb (top τ a b) τ.levels) (λ j υ x y. by-rooms w o f j υ x y)
  where
    go : (z : Bool) → ((j : ℕ) (υ : Store) (x y : ℤ) → Roomy w (most_made f + j) υ → Rooms w j υ (join_by f w o υ x y))
        → Rooms w k τ (join_top z w o (join_by f w o) τ a b)
    go true I =
        let l : ℕ = top τ a b in
        sides-rooms w (most_made f) k l (join_by f w o) I (side τ l true a) (side τ l true b) (side τ l false a) (side τ l false b) τ
        (roomy-less w (most_made f + (most_made f + 1) + k) (most_made f + (most_made f + suc k)) τ (omega arith) R)
    go false I = record {
      edge = _;
      gives = refl;
      roomy = roomy-less w (most_made f + (most_made f + 1) + k) k τ (omega arith) R;
      count = le_refl τ.count;
    }

-- what lies where, and the sides, are the same in both
module _ {m w : Limits} {k : ℕ} {σ τ : Store} (B : Beside m w k σ τ) where
  top-beside : (a b : ℤ) → EdgeOf σ a → EdgeOf σ b → top τ a b ≡ top σ a b
  unfolding top
  top-beside a b E F = rw (grow-depth B.grows (nat_abs a) E.there, grow-depth B.grows (nat_abs b) F.there)

  child-beside : (n : ℕ) → 2 ≤ n → n ≤ σ.count → (y : Bool) → child τ y n ≡ child σ y n
  child-beside n two h true = B.grows.then n two h
  child-beside n two h false = B.grows.els n two h

  side-beside : Nodes σ → (l : ℕ) → l < σ.levels → (y : Bool) (a : ℤ) → EdgeOf σ a → side τ l y a ≡ side σ l y a
  unfolding side
  side-beside N l L y a E = rw (grow-depth B.grows (nat_abs a) E.there) (go (eqb (depth σ (nat_abs a)) l) refl)
    where
      go : (z : Bool) → eqb (depth σ (nat_abs a)) l ≡ z
          → cond z (through a (child τ y (nat_abs a))) a ≡ cond z (through a (child σ y (nat_abs a))) a
      go false q = refl
      go true q =
          let two = level-node σ N (nat_abs a) E.some (omega (arith, eqb-true (depth σ (nat_abs a)) l q)) in
          ap (through a) (child-beside (nat_abs a) two E.there y)

-- a join in both
module _ (m w : Limits) (o : Op) where
  pub by-pair : (f k : ℕ) (σ τ : Store) (a b : ℤ) → Ready m σ a b → σ.levels ≤ top σ a b + f → Beside m w (most_made f + k) σ τ
      → Pair m w k σ (join_by f m o σ a b) (join_by f w o τ a b)
  unfolding join_by most_made
  by-pair zero k σ τ a b Q h B = both _ refl refl refl (beside-fewer (0 + k) k (omega arith) B)
  by-pair (suc f) k σ τ a b Q h B =
      let e : ltb (top τ a b) τ.levels ≡ ltb (top σ a b) σ.levels = ap₂ ltb (top-beside B a b Q.left Q.right) B.grows.levels in
      subst (λ (z : Bool). Pair m w k σ (join_top (ltb (top σ a b) σ.levels) m o (join_by f m o) σ a b) (join_top z w o (join_by f w o) τ a b))
      (sym e)
      (go (ltb (top σ a b) σ.levels) refl (λ j υ ω x y P d C. by-pair f j υ ω x y P d C))
    where
      go : (z : Bool) → ltb (top σ a b) σ.levels ≡ z
          → ((j : ℕ) (υ ω : Store) (x y : ℤ) → Ready m υ x y → υ.levels ≤ top υ x y + f → Beside m w (most_made f + j) υ ω
          → Pair m w j υ (join_by f m o υ x y) (join_by f w o ω x y))
          → Pair m w k σ (join_top z m o (join_by f m o) σ a b) (join_top z w o (join_by f w o) τ a b)
      go false q I = both _ refl refl refl (beside-fewer (most_made f + (most_made f + 1) + k) k (omega arith) B)
      go true q I =
          let l : ℕ = top σ a b in
          let L = ltb-true (top σ a b) σ.levels q in
          let N = Q.rules.nodes in
          let G = grows-refl σ in
          let S = sides-ready m o σ a b Q L true σ Q.rules G in
          let d : σ.levels ≤ top σ (side σ l true a) (side σ l true b) + f = omega (arith, sides-deep m o σ a b Q L true σ G) in
          let J = by-joined m o f σ (side σ l true a) (side σ l true b) S d in
          let C = beside-fewer (most_made f + (most_made f + 1) + k) (most_made f + (most_made f + suc k)) (omega arith) B in
          rw (top-beside B a b Q.left Q.right)
          (rw (side-beside B N l L true a Q.left, side-beside B N l L true b Q.right)
          (rw (side-beside B N l L false a Q.left, side-beside B N l L false b Q.right)
          (sides-pair w (most_made f) k l (join_by f w o) (by-rooms w o f) (side σ l true a) (side σ l true b) (side σ l false a) (side σ l false b)
          m (join_by f m o) σ τ (beside-roomy C) (I (most_made f + suc k) σ τ (side σ l true a) (side σ l true b) S d C)
          (λ D. I (suc k) _ _ (side σ l false a) (side σ l false b) (sides-ready m o σ a b Q L false _ J.rules J.grows)
          (omega (arith, sides-deep m o σ a b Q L false _ J.grows, J.grows.levels)) D))))

module _ (m : Limits) (o : Op) (σ : Store) (a b : ℤ) (Q : Ready m σ a b) where
  -- the most that it can make
  abbrev most : ℕ
  most = most_made σ.levels

  -- the join in the store as it is and in a roomier one
  abbrev Both : Type 0
  Both = Pair m (with_room most σ) 0 σ (join_of m o σ a b) (join_of (with_room most σ) o (roomier most σ) a b)

  join-pair : Both
  unfolding join_of roomier
  join-pair = by-pair m (with_room most σ) o σ.levels 0 σ (roomier most σ) a b Q (omega arith)
      (beside-fewer most (most + 0) (omega arith) (roomier-beside m most σ Q.rules.sizes))

  -- '40 only where those nodes don't fit': an edge is given exactly where they do
  pub join-room : ((x : ℤ) × ((join_of m o σ a b).answer ≡ value x)) ↔ JoinFits m o σ a b
  unfolding count_joined
  join-room = go join-pair
    where
      go : Both → ((x : ℤ) × ((join_of m o σ a b).answer ≡ value x)) ↔ JoinFits m o σ a b
      go (both x p q h B) = (
        λ v. record { slots = omega (arith, B.count, B.sizes.count_slots, h); limit = omega (arith, B.count, B.sizes.count_limit) },
        λ v. (x, p),
      )
      go (lacks x p q n) = (λ v. no_both 40 v.0 _ p v.1, λ v. absurd (n (v.slots, v.limit)))

  -- and then the store has that many
  pub join-count : (x : ℤ) → (join_of m o σ a b).answer ≡ value x → (join_of m o σ a b).after.count ≡ count_joined o σ a b
  unfolding count_joined
  join-count x e = go join-pair
    where
      go : Both → (join_of m o σ a b).after.count ≡ (join_of (with_room most σ) o (roomier most σ) a b).after.count
      go (both y p q h B) = sym B.count
      go (lacks y p q n) = no_both 40 x _ p e
