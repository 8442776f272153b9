-- Joins that compute. Document 02, request 2: 'New nodes are those of the result that the store lacks, then side first, each after its children',
-- and '40 only where those nodes don't fit'.
use mathlib.Core.Path.{◌≡◌, refl}
use mathlib.Core.Bool.{true, xor}
use Prim.Native.Nat.{ℕ}
use native.Mathlib.Omega.{arith}
use lib.IntN.{ℤ, pos, negsuc}
use Rattle.codes.specs.Answer.{Read, value, refused}
use Rattle.codes.specs.Limits.{limits}
use Rattle.edges.specs.Edge.{minus, turn, eq_z, bits, bucket_at}
use Rattle.store.specs.Store.{Store}
use Rattle.store.specs.Empty.{empty}
use Rattle.store.specs.Rules.{Rules}
use Rattle.store.specs.Keeps.{rules-keeps}
use Rattle.store.specs.Make.{Made, Makes, holds, find, find_up_to, added, insert, make}
use Rattle.store.proofs.Empty.{empty-keeps}
use Rattle.store.proofs.Makes.{make-rules}
use Rattle.joined.specs.declared.Op.TheVariants as op
use Rattle.joined.specs.Join.{apply, side, top, join_by, join_of}
use Rattle.joined.specs.Roots.{refused_with, join_roots}

-- a store with one node more
abbrev with : Store → ℕ → ℤ → ℤ → Store
with σ l t e = (make limits σ l t e).after

-- what a join gives: an edge, or a refusal, and a count of nodes
record JoinGives (r : Made) (a : Read ℤ) (n : ℕ) : Type 0 where
  answer : r.answer ≡ a
  count : r.after.count ≡ n

-- the first two levels' nodes
abbrev two : ℕ → Store
two slots = with (with (empty 2 slots) 0 (pos 1) (negsuc 0)) 1 (pos 1) (negsuc 0)

-- An exclusive or that needs one node, in a store with one slot left. The then of that node would be -3, so the minus moves to the result.
xor-gives : JoinGives (join_of limits op.Xor (two 4) (pos 2) (pos 3)) (value (negsuc 3)) 4
unfolding join_of join_by side top apply xor make insert find find_up_to added empty minus turn eq_z bucket_at bits
xor-gives = record { answer = refl; count = refl }

xor-node : holds (join_of limits op.Xor (two 4) (pos 2) (pos 3)).after 0 (pos 3) (negsuc 2) 4 ≡ true
unfolding join_of join_by side top apply xor make insert find find_up_to added empty minus turn eq_z bucket_at bits
xor-node = refl

-- 'then side first': all that is new under then, then all that is new under else, then the node, though the node under else lies deeper
abbrev four : Store
four = with (with (with (with (empty 4 8) 1 (pos 1) (negsuc 0)) 2 (pos 1) (negsuc 0)) 0 (pos 2) (pos 3)) 3 (pos 1) (negsuc 0)

abbrev and_four : Made
and_four = join_of limits op.And four (pos 4) (pos 5)

and-four : JoinGives and_four (value (pos 8)) 8
unfolding join_of join_by side top apply xor make insert find find_up_to added empty minus turn eq_z bucket_at bits
and-four = record { answer = refl; count = refl }

and-four-nodes : (holds and_four.after 1 (pos 5) (negsuc 0) 6 ≡ true)
    × ((holds and_four.after 2 (pos 5) (negsuc 0) 7 ≡ true)
    × (holds and_four.after 0 (pos 6) (pos 7) 8 ≡ true))
unfolding join_of join_by side top apply xor make insert find find_up_to added empty minus turn eq_z bucket_at bits
and-four-nodes = (refl, (refl, refl))

-- the same where both new children lie at one level
abbrev three : Store
three = with (with (with (empty 3 7) 1 (pos 1) (negsuc 0)) 0 (pos 2) (negsuc 1)) 2 (pos 1) (negsuc 0)

abbrev and_three : Made
and_three = join_of limits op.And three (pos 3) (pos 4)

and-three : JoinGives and_three (value (pos 7)) 7
unfolding join_of join_by side top apply xor make insert find find_up_to added empty minus turn eq_z bucket_at bits
and-three = record { answer = refl; count = refl }

and-three-nodes : (holds and_three.after 1 (pos 4) (negsuc 0) 5 ≡ true)
    × ((holds and_three.after 1 (pos 1) (negsuc 3) 6 ≡ true)
    × (holds and_three.after 0 (pos 5) (negsuc 5) 7 ≡ true))
unfolding join_of join_by side top apply xor make insert find find_up_to added empty minus turn eq_z bucket_at bits
and-three-nodes = (refl, (refl, refl))

-- '40 only where those nodes don't fit': in a full store a join that needs no node is answered
abbrev one : Store
one = with (empty 1 2) 0 (pos 1) (negsuc 0)

full-and : JoinGives (join_of limits op.And one (pos 2) (negsuc 1)) (value (negsuc 0)) 2
unfolding join_of join_by side top apply xor make insert find find_up_to added empty minus turn eq_z bucket_at bits
full-and = record { answer = refl; count = refl }

full-or : JoinGives (join_of limits op.Or one (pos 2) (pos 2)) (value (pos 2)) 2
unfolding join_of join_by side top apply xor make insert find find_up_to added empty minus turn eq_z bucket_at bits
full-or = record { answer = refl; count = refl }

-- and one that needs a node is refused
full-xor : JoinGives (join_of limits op.Xor (two 3) (pos 2) (pos 3)) (refused 40) 3
unfolding join_of join_by side top apply xor make insert find find_up_to added empty minus turn eq_z bucket_at bits
full-xor = record { answer = refl; count = refl }

-- roots to node 1
ones : JoinGives (join_of limits op.And (two 3) (pos 1) (pos 1)) (value (pos 1)) 3
unfolding join_of join_by side top apply xor make insert find find_up_to added empty minus turn eq_z bucket_at bits
ones = record { answer = refl; count = refl }

-- two roots joined in that full store: 'On any refusal .. the store is unchanged'
two-rules : Rules limits (two 3)
unfolding empty make insert find find_up_to added minus eq_z bucket_at bits
two-rules = make-rules limits (with (empty 2 3) 0 (pos 1) (negsuc 0)) 1 (pos 1) (negsuc 0)
    (make-rules limits (empty 2 3) 0 (pos 1) (negsuc 0) ((empty-keeps 2 3).1 (omega arith, omega arith)) first) second
  where
    first : Makes (empty 2 3) 0 (pos 1) (negsuc 0)
    first = record {
      then_some = omega arith;
      then_there = omega arith;
      then_deep = omega arith;
      else_some = omega arith;
      else_there = omega arith;
      else_deep = omega arith;
      level_low = omega arith;
    }

    second : Makes (with (empty 2 3) 0 (pos 1) (negsuc 0)) 1 (pos 1) (negsuc 0)
    second = record {
      then_some = omega arith;
      then_there = omega arith;
      then_deep = omega arith;
      else_some = omega arith;
      else_there = omega arith;
      else_deep = omega arith;
      level_low = omega arith;
    }

roots-full : join_roots limits op.Xor (two 3) (pos 2) (pos 3) ≡ refused_with 40 (two 3)
unfolding join_roots join_of join_by side top apply xor make insert find find_up_to added empty minus turn eq_z bucket_at bits
roots-full = rw (rules-keeps limits (two 3) two-rules) refl
