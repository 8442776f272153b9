-- The results of joins that need no node: of two edges that have one node, or of which one leads to node 1. That they are what a join gives is
-- proved (`joined/proofs/Shortcut`); no promise of a call names them.
use Rattle.std.specs.Prelude.{Bool, cond, Option, Some, None, ◌||◌, ◌≢◌, eqb, ℤ, pos, negsuc, neg_ℤ, nat_abs}
use Rattle.edges.specs.Edge.{eq_z}
use Rattle.joined.specs.Join.{through}
use Rattle.joined.specs.declared.Op.{Op}
use Rattle.joined.specs.declared.Op.TheVariants as op

-- have two edges a shortcut?
abbrev pub near : ℤ → ℤ → Bool
near a b = eqb (nat_abs a) (nat_abs b) || eqb (nat_abs a) 1 || eqb (nat_abs b) 1

-- two edges that have none
pub record Apart (a b : ℤ) : Type 0 where
  pub differ : nat_abs a ≢ nat_abs b
  pub left : nat_abs a ≢ 1
  pub right : nat_abs b ≢ 1

-- The and of edges that are near: no, where one of them is no or they are opposites; else the one that isn't yes.
unfoldable pub short_and : ℤ → ℤ → ℤ
short_and a b = cond (eq_z a (negsuc 0) || eq_z b (negsuc 0) || eq_z a (neg_ℤ b)) (negsuc 0) (cond (eq_z a (pos 1)) b a)

-- Their exclusive or: no where they are one edge, yes where they are opposites; else one of them leads to node 1, and the other is turned over where
-- that one is yes.
unfoldable pub short_xor : ℤ → ℤ → ℤ
short_xor a b =
    cond (eq_z a b) (negsuc 0) (cond (eq_z a (neg_ℤ b)) (pos 1) (cond (eqb (nat_abs a) 1) (through a (neg_ℤ b)) (through b (neg_ℤ a))))

-- An or is the opposite of the and of the opposites.
unfoldable pub short_by : Op → ℤ → ℤ → ℤ
short_by op.And a b = short_and a b
short_by op.Or a b = neg_ℤ (short_and (neg_ℤ a) (neg_ℤ b))
short_by op.Xor a b = short_xor a b

-- The result where there is a shortcut.
unfoldable pub short : Op → ℤ → ℤ → Option ℤ
short o a b = cond (near a b) (Some (short_by o a b)) None
