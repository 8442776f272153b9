-- Joins. Document 02, request 2: 'A call takes two roots of a store and gives the root of their and, their or, or their exclusive or; another
-- gives the opposite of one root. At every setting the answer is that operation on the two answers. New nodes are those of the result that the
-- store lacks, then side first, each after its children.' Nothing is remembered here and nothing is left out: how the code gets there sooner is
-- no part of what a join is.
use Rattle.std.specs.Prelude.{ℕ, zero, suc, ◌≡◌, Bool, true, false, cond, ◌&&◌, ◌||◌, eqb, ltb, ℤ, pos, negsuc, neg_ℤ, nat_abs}
use Rattle.std.specs.Bool.{xor}
use Rattle.codes.specs.Answer.{Read, value, refused}
use Rattle.codes.specs.Limits.{Limits}
use Rattle.edges.specs.Edge.{minus, turn}
use Rattle.store.specs.Store.{Store, then_at, else_at}
use Rattle.store.specs.Meaning.{Setting, answer}
use Rattle.store.specs.Rules.{depth, Rules}
use Rattle.store.specs.Growth.{EdgeOf}
use Rattle.store.specs.Make.{Made, made, make}
use Rattle.joined.specs.declared.Op.{Op}
use Rattle.joined.specs.declared.Op.TheVariants as op

-- 'that operation on the two answers'
unfoldable pub apply : Op → Bool → Bool → Bool
apply op.And x y = x && y
apply op.Or x y = x || y
apply op.Xor x y = xor x y

-- the then edge of a node, or its else edge
abbrev pub child : Store → Bool → ℕ → ℤ
child σ y n = cond y (then_at σ n) (else_at σ n)

-- an edge x of a node, seen through the edge a to that node: a minus of a turns it over
abbrev pub through : ℤ → ℤ → ℤ
through a x = cond (minus a) (neg_ℤ x) x

-- the side of an edge at a level: what is left of it where the level is yes, or where it is no. An edge whose node lies deeper doesn't look there.
unfoldable pub side : Store → ℕ → Bool → ℤ → ℤ
side σ l y a = cond (eqb (depth σ (nat_abs a)) l) (through a (child σ y (nat_abs a))) a

-- the smaller of the levels of two edges; node 1 is 'deeper than every level'
unfoldable pub top : Store → ℤ → ℤ → ℕ
top σ a b = cond (ltb (depth σ (nat_abs a)) (depth σ (nat_abs b))) (depth σ (nat_abs a)) (depth σ (nat_abs b))

-- 'Node 1 is yes': the edge that says yes, or no, at every setting
abbrev pub constantly : Bool → ℤ
constantly y = cond y (pos 1) (negsuc 0)

-- one step after another, each in the store that the last one left; the first refusal decides
abbrev pub proceed : Read ℤ → Store → (ℤ → Store → Made) → Made
proceed (value a) σ k = k a σ
proceed (refused n) σ k = record { answer = refused n; after = σ }

abbrev pub and_then : Made → (ℤ → Store → Made) → Made
and_then r k = proceed r.answer r.after k

-- 'then side first, each after its children': at a level the then sides are joined, then the else sides, then the node is made
abbrev pub join_at : Limits → (Store → ℤ → ℤ → Made) → Store → ℕ → ℤ → ℤ → Made
join_at m J σ l a b =
    and_then (J σ (side σ l true a) (side σ l true b)) (λ t τ. and_then (J τ (side σ l false a) (side σ l false b)) (λ e υ. make m υ l t e))

-- two edges to node 1: the operation on yes and no
abbrev pub join_ones : Op → Store → ℤ → ℤ → Made
join_ones o σ a b = made (constantly (apply o (turn a true) (turn b true))) σ

-- one step down, where a level of the store is the smaller one
abbrev pub join_top : Bool → Limits → Op → (Store → ℤ → ℤ → Made) → Store → ℤ → ℤ → Made
join_top true m o J σ a b = join_at m J σ (top σ a b) a b
join_top false m o J σ a b = join_ones o σ a b

-- Sides lie deeper, so as many steps down as there are levels are enough; the first number counts them, so that this ends whatever the slots
-- hold.
unfoldable pub join_by : ℕ → Limits → Op → Store → ℤ → ℤ → Made
join_by zero m o σ a b = join_ones o σ a b
join_by (suc f) m o σ a b = join_top (ltb (top σ a b) σ.levels) m o (join_by f m o) σ a b

-- A join: its edge, or 40, and the store afterwards.
unfoldable pub join_of : Limits → Op → Store → ℤ → ℤ → Made
join_of m o σ a b = join_by σ.levels m o σ a b

-- what may be joined: two edges of a store that keeps the rules
pub record Ready (m : Limits) (σ : Store) (a b : ℤ) : Type 0 where
  pub rules : Rules m σ
  pub left : EdgeOf σ a
  pub right : EdgeOf σ b

-- 'At every setting the answer is that operation on the two answers': an edge x of the store says the operation on what a and b say
pub record SaysJoin (o : Op) (σ : Store) (a b x : ℤ) : Type 0 where
  pub edge : EdgeOf σ x
  pub says : (s : Setting) → answer σ s x ≡ apply o (answer σ s a) (answer σ s b)
