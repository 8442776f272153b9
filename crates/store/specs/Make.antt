-- Making nodes. Document 01, 'Store and meaning': 'A node not found takes the next number. Equal children give that child; a minus on
-- then moves to both the else and the result.'
use Rattle.std.specs.Prelude.{ℕ, zero, suc, ◌+◌, ◌-◌, ◌≤◌, ◌<◌, Bool, cond, ◌&&◌, eqb, ltb, length, set, ℤ, pos, neg_ℤ, nat_abs}
use Rattle.codes.specs.Answer.{Read, value, refused}
use Rattle.edges.specs.Edge.{minus, eq_z, bucket_of}
use Rattle.store.specs.Store.{Store, level_at, then_at, else_at, next_at, head_at}
use Rattle.codes.specs.Limits.{Limits}
use Rattle.store.specs.Rules.{depth, bucket}

-- does node n have this level, then and else?
abbrev pub holds : Store → ℕ → ℤ → ℤ → ℕ → Bool
holds σ l t e n = eqb (level_at σ n) l && eq_z (then_at σ n) t && eq_z (else_at σ n) e

-- the newest of the nodes 2 to k that has them, or 0
unfoldable pub find_up_to : Store → ℕ → ℤ → ℤ → ℕ → ℕ
find_up_to σ l t e zero = 0
find_up_to σ l t e (suc zero) = 0
find_up_to σ l t e (suc (suc k)) = cond (holds σ l t e (suc (suc k))) (suc (suc k)) (find_up_to σ l t e (suc k))

unfoldable pub find : Store → ℕ → ℤ → ℤ → ℕ
find σ l t e = find_up_to σ l t e σ.count

-- the store with one node more, in the next slot and at the front of its chain
unfoldable pub added : Store → ℕ → ℤ → ℤ → Store
added σ l t e = record {
  levels = σ.levels;
  count = σ.count + 1;
  level = set σ.level σ.count l;
  then = set σ.then σ.count t;
  els = set σ.els σ.count e;
  next = set σ.next σ.count (head_at σ (bucket_of l t e));
  heads = set σ.heads (bucket_of l t e) (σ.count + 1);
}

-- the edge, or '40 .. a line needs a new node and every slot lent, or [the limit], is used', and the store afterwards
pub record Made : Type 0 where
  pub answer : Read ℤ
  pub after : Store

abbrev pub made : ℤ → Store → Made
made a σ = record { answer = value a; after = σ }

abbrev pub full : Store → Made
full σ = record { answer = refused 40; after = σ }

-- is there a slot for one node more?
abbrev pub room_for : Limits → Store → Bool
room_for m σ = ltb σ.count (length σ.level) && ltb σ.count m.nodes

abbrev pub placed_node : Limits → Store → ℕ → ℤ → ℤ → ℕ → Made
placed_node m σ l t e zero = cond (room_for m σ) (made (pos (σ.count + 1)) (added σ l t e)) (full σ)
placed_node m σ l t e (suc n) = made (pos (suc n)) σ

-- a node with a positive then: found, or 'takes the next number'
unfoldable pub insert : Limits → Store → ℕ → ℤ → ℤ → Made
insert m σ l t e = placed_node m σ l t e (find σ l t e)

-- the same node under a minus
abbrev pub negated : Read ℤ → Read ℤ
negated (value a) = value (neg_ℤ a)
negated (refused n) = refused n

abbrev pub turned : Made → Made
turned r = record { answer = negated r.answer; after = r.after }

-- The edge of a level, a then and an else.
unfoldable pub make : Limits → Store → ℕ → ℤ → ℤ → Made
make m σ l t e = cond (eq_z t e) (made t σ) (cond (minus t) (turned (insert m σ l (neg_ℤ t) (neg_ℤ e))) (insert m σ l t e))

-- what may be made: two edges of the store, deeper than the level, and a level of the store
pub record Makes (σ : Store) (l : ℕ) (t e : ℤ) : Type 0 where
  pub then_some : 1 ≤ nat_abs t
  pub then_there : nat_abs t ≤ σ.count
  pub then_deep : l < depth σ (nat_abs t)
  pub else_some : 1 ≤ nat_abs e
  pub else_there : nat_abs e ≤ σ.count
  pub else_deep : l < depth σ (nat_abs e)
  pub level_low : l < σ.levels

-- The store with its newest node taken back: its slot is zero again, and its chain starts where it went on.
unfoldable pub dropped : Store → Store
dropped σ = record {
  levels = σ.levels;
  count = σ.count - 1;
  level = set σ.level (σ.count - 1) 0;
  then = set σ.then (σ.count - 1) (pos 0);
  els = set σ.els (σ.count - 1) (pos 0);
  next = set σ.next (σ.count - 1) 0;
  heads = set σ.heads (bucket σ σ.count) (next_at σ σ.count);
}

-- the newest k nodes taken back
unfoldable pub back : ℕ → Store → Store
back zero σ = σ
back (suc k) σ = back k (dropped σ)
