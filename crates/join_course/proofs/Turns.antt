-- The course of a join, a turn at a time: from where it stands each turn leads to where it stands, and the steps left get fewer.
use mathlib.Core.Path.{◌≡◌, refl, sym}
use Rattle.std.specs.Prelude.{Option, Some, None}
use Rattle.std.proofs.lemmas.Option.{none-some, same_Some}
use mathlib.Core.Bool.{true, false}
use mathlib.Core.List.{List, [], ◌∷◌}
use Prim.Native.Nat.{ℕ, zero, suc, ◌+◌, ◌-◌, ◌*◌, ◌≤◌, ◌<◌}
use native.Mathlib.Omega.{arith}
use lib.ListN.{length}
use lib.IntN.{ℤ, pos}
use Rattle.codes.specs.Limits.{Limits}
use Rattle.edges.proofs.Edge.{eq_z-refl, eq_z-ne}
use Rattle.store.specs.Store.{Store}
use Rattle.store.specs.Rules.{Rules}
use Rattle.store.specs.Make.{Made, made}
use Rattle.joined.specs.declared.Op.{Op}
use Rattle.joined.specs.Join.{top, join_of, Ready}
use Rattle.join_course.specs.declared.Waiting.{Waiting}
use Rattle.join_course.specs.Pairs.{waiting, lacks_then, given, resume, steps_below, steps_of, steps_left}
use Rattle.join_course.specs.Course.{Going, Coming, JoinStands, going, coming, Goes, known, down, over}
use Rattle.join_course.proofs.Grown.{waiting_few}
use Rattle.join_course.proofs.Steps.{edge-some, known-comes, down-goes, over-goes}

module _ (m : Limits) (o : Op) (whole : Made) (τ : Store) (ps : List Waiting) (a b : ℤ) where
  -- which of the two it is
  pub going_of : (r : Option ℤ) → JoinStands m o whole τ ps a b r → r ≡ None → Going m o whole τ ps a b
  going_of _ (going S) q = S
  going_of _ (coming {x} C) q = absurd (none-some x (sym q))

  pub coming-of : (r : Option ℤ) (x : ℤ) → JoinStands m o whole τ ps a b r → r ≡ Some x → Coming m o whole τ ps x
  coming-of _ x (going S) q = absurd (none-some x q)
  coming-of _ x (coming {x = y} C) q = rw (same_Some y x q) at C

-- It starts with the pair, and nothing waits.
pub stands-start : (m : Limits) (o : Op) (σ : Store) (a b : ℤ) → Ready m σ a b → JoinStands m o (join_of m o σ a b) σ [] a b None
unfolding resume
stands-start m o σ a b Q = going (record { left = Q.left; right = Q.right; waiting = tt; sides = tt; rest = refl })

-- Where nothing waits any more, what comes back is the whole.
pub stands-end : (m : Limits) (o : Op) (whole : Made) (τ : Store) (x : ℤ) → Coming m o whole τ [] x → made x τ ≡ whole
unfolding resume
stands-end m o whole τ x C = C.rest

-- a step that makes no node
pub goes_on : (m : Limits) (o : Op) (whole : Made) (τ : Store) → Rules m τ → (ps : List Waiting) (a b : ℤ) (r : Option ℤ)
    → JoinStands m o whole τ ps a b r → (qs : List Waiting) (c d : ℤ) (x : Option ℤ) → Goes o τ ps a b r qs c d x → JoinStands m o whole τ qs c d x
goes_on m o whole τ R ps a b r S _ _ _ _ (known {x} q X) = coming (known-comes m o whole τ R ps a b x (going_of m o whole τ ps a b r S q) X)
goes_on m o whole τ R ps a b r S _ c d _ (down {l = l} {line = line} {e = e} {g = g} q L u v w x y) =
    going (rw (v, w) (down-goes m o whole τ R ps a b (going_of m o whole τ ps a b r S q) L l line e g u x y))
goes_on m o whole τ R ps a b r S _ c d _ (over {p = p} {qs = qs} {x = x} e f h) =
    going (over-goes m o whole τ R p qs x (rw e at (coming-of m o whole τ ps a b r x S f)) h)

of-lacking : (v : ℕ) (p : Waiting) (ps : List Waiting) → lacks_then p ≡ true → steps_of v (p ∷ ps) ≡ 2 + steps_below (v - suc (length ps)) + steps_of v ps
unfolding steps_of
of-lacking v p ps q = rw q

of-having : (v : ℕ) (p : Waiting) (ps : List Waiting) → lacks_then p ≡ false → steps_of v (p ∷ ps) ≡ 1 + steps_of v ps
unfolding steps_of
of-having v p ps q = rw q

below_suc : (v n : ℕ) → n < v → steps_below (v - n) ≡ 3 + 2 * steps_below (v - suc n)
unfolding steps_below
below_suc v n h = let q : v - n ≡ suc (v - suc n) = omega arith in rw q

below-some : (d : ℕ) → 1 ≤ steps_below d
unfolding steps_below
below-some zero = omega arith
below-some (suc d) = omega arith

pub goes-less : (m : Limits) (o : Op) (whole : Made) (τ : Store) (ps : List Waiting) (a b : ℤ) (r : Option ℤ) → JoinStands m o whole τ ps a b r
    → (qs : List Waiting) (c d : ℤ) (x : Option ℤ) → Goes o τ ps a b r qs c d x → steps_left τ.levels qs x < steps_left τ.levels ps r
goes-less m o whole τ ps a b r S _ _ _ _ (known q X) = rw q (omega (arith, below-some (τ.levels - length ps)))
goes-less m o whole τ ps a b r S _ c d _ (down {l = l} {line = line} {e = e} {g = g} q L u v w x y) =
    let n = waiting_few o τ ps (top τ a b) (going_of m o whole τ ps a b r S q).waiting in
    rw q
    (omega (arith, of-lacking τ.levels (waiting a b l (pos 0) e g line) ps (eq_z-refl (pos 0)), below_suc τ.levels (length ps) (omega arith)))
goes-less m o whole τ ps a b r S _ c d _ (over {p = p} {qs = qs} {x = x} e f h) =
    let C = coming-of m o whole τ ps a b r x S f in
    rw (f, e) (omega (arith, of-lacking τ.levels p qs h, of-having τ.levels (given x p) qs (eq_z-ne x (pos 0) (edge-some τ x C.edge))))

-- a node that is made
pub made-less : (v : ℕ) (p : Waiting) (ps : List Waiting) (x z : ℤ) → lacks_then p ≡ false → steps_left v ps (Some z) < steps_left v (p ∷ ps) (Some x)
made-less v p ps x z h = omega (arith, of-having v p ps h)
