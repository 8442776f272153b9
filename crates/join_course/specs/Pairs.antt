-- The pairs of edges that wait while their sides are joined.
use Rattle.std.specs.Prelude.{ℕ, zero, suc, ◌+◌, ◌-◌, ◌*◌, Bool, true, false, cond, Option, Some, None, List, [], ◌∷◌, length, get_or, ℤ, pos}
use Rattle.codes.specs.Limits.{Limits}
use Rattle.edges.specs.Edge.{eq_z}
use Rattle.store.specs.Store.{Store}
use Rattle.store.specs.Make.{Made, make}
use Rattle.joined.specs.declared.Op.{Op}
use Rattle.joined.specs.Join.{and_then, join_of}
use Rattle.join_course.specs.declared.Waiting.{Waiting}

-- a pair that waits
abbrev pub waiting : ℤ → ℤ → ℕ → ℤ → ℤ → ℤ → ℕ → Waiting
waiting a b l t c d line = record { left = a; right = b; level = l; then = t; els = record { left = c; right = d }; line = line }

-- the first n pairs of a list, the last first
unfoldable pub first_pairs : List Waiting → ℕ → List Waiting
first_pairs w zero = []
first_pairs w (suc n) = get_or w n (waiting (pos 0) (pos 0) 0 (pos 0) (pos 0) (pos 0) 0) ∷ first_pairs w n

-- does a pair wait for its then sides?
abbrev pub lacks_then : Waiting → Bool
lacks_then p = eq_z p.then (pos 0)

-- what is left to do for a pair, with a result of its sides: the else sides and the node, or the node
abbrev pub finish_by : Bool → Limits → Op → Waiting → ℤ → Store → Made
finish_by true m o p x τ = and_then (join_of m o τ p.els.left p.els.right) (λ e υ. make m υ p.level x e)
finish_by false m o p x τ = make m τ p.level p.then x

abbrev pub finish : Limits → Op → Waiting → ℤ → Store → Made
finish m o p x τ = finish_by (lacks_then p) m o p x τ

-- what is left to do for all, the last first
unfoldable pub resume : Limits → Op → List Waiting → Made → Made
resume m o [] r = r
resume m o (p ∷ ps) r = resume m o ps (and_then r (finish m o p))

-- the same pair with the result of its then sides
abbrev pub given : ℤ → Waiting → Waiting
given x p = waiting p.left p.right p.level x p.els.left p.els.right p.line

-- How many steps are left at most: for a pair with so many levels below it its sides' steps, and one step each to come to them and to make its
-- node; for one that waits for its then sides those of its else sides and two more; for one that waits for its else sides one.
unfoldable pub steps_below : ℕ → ℕ
steps_below zero = 1
steps_below (suc d) = 3 + 2 * steps_below d

unfoldable pub steps_of : ℕ → List Waiting → ℕ
steps_of v [] = 0
steps_of v (p ∷ ps) = cond (lacks_then p) (2 + steps_below (v - suc (length ps))) 1 + steps_of v ps

-- of a store with v levels, where pairs wait, and there is a result or a pair that is to be joined
abbrev pub steps_left : ℕ → List Waiting → Option ℤ → ℕ
steps_left v ps None = steps_below (v - length ps) + steps_of v ps
steps_left v ps (Some x) = steps_of v ps
