-- The shortcuts in the form in which the code finds them, with edges as they are read back from their bits.
use mathlib.Core.Path.{◌≡◌, sym, ap, ◌∙◌}
use mathlib.Core.Bool.{Bool, true, false, cond, ◌||◌}
use native.Mathlib.Omega.{arith}
use lib.Dec.{eqb}
use lib.IntN.{ℤ, pos, negsuc, neg_ℤ, nat_abs}
use borrow.Author.Tests.{eq-eqb, ne_eqb}
use mir.Val.{SFits, to_z, of_z}
use mir.ValLaws.{to_z-of_z}
use Rattle.std.specs.Prelude.{Some, None, IfSome}
use Rattle.edges.specs.Edge.{IsEdge, minus, eq_z}
use Rattle.edges.specs.Width.{edge_width}
use Rattle.edges.proofs.Edge.{edge-neg}
use Rattle.joined.specs.declared.Op.{Op}
use Rattle.joined.specs.declared.Op.TheVariants as op
use Rattle.joined.specs.Join.{through}
use Rattle.joined.specs.Shortcuts.{near, short_and, short_xor, short_by, short}
use Rattle.join_steps.proofs.ReadBack.{read_back, read_back-is, one_of, through-kept}

-- an edge that was turned over
pub opposite-back : (e c : ℤ) → IsEdge e → c ≡ neg_ℤ (read_back e) → read_back c ≡ neg_ℤ e
opposite-back e c h q = ap read_back (q ∙ ap neg_ℤ (read_back-is e h)) ∙ read_back-is (neg_ℤ e) (edge-neg e h)

pub opposite-kept : (e c : ℤ) → IsEdge e → c ≡ neg_ℤ (read_back e) → IsEdge (read_back c)
opposite-kept e c h q = rw (opposite-back e c h q) (edge-neg e h)

-- an edge of a node, seen through an edge to that node
module _ (a x : ℤ) (f : SFits edge_width a) (X : IsEdge x) (z : Bool) (m : z ≡ minus (read_back a)) where
  sign-is : minus a ≡ z
  sign-is = sym (m ∙ ap minus (to_z-of_z edge_width a f))

  pub through-minus : z ≡ true → (v : ℤ) → v ≡ neg_ℤ (read_back x) → read_back v ≡ through a x
  through-minus h v q = rw (sign-is, h) (opposite-back x v X q)

  pub through_plain : z ≡ false → read_back x ≡ through a x
  through_plain h = rw (sign-is, h) (read_back-is x X)

module _ (a b : ℤ) (A : IsEdge a) (B : IsEdge b) where
  -- a test, with an edge, with the opposite of one, and with 1 or -1
  test-edge : {x : Bool} → x ≡ eq_z (read_back a) (read_back b) → x ≡ eq_z a b
  test-edge p = rw (read_back-is a A, read_back-is b B) at p

  test-opposite : (c : ℤ) → c ≡ neg_ℤ (read_back b) → {x : Bool} → x ≡ eq_z (read_back a) (read_back c) → x ≡ eq_z a (neg_ℤ b)
  test-opposite c r p = rw (read_back-is a A, opposite-back b c B r) at p

  test_known : (e : ℤ) → IsEdge e → (k : ℤ) → {x : Bool} → x ≡ eq_z (read_back e) k → x ≡ eq_z e k
  test_known e E k p = rw (read_back-is e E) at p

  -- the and: whether it is no, and else which edge it is
  module _ {x y z : Bool} (p : x ≡ eq_z (read_back a) (negsuc 0)) (q : y ≡ eq_z (read_back b) (negsuc 0)) (c : ℤ) (r : c ≡ neg_ℤ (read_back b))
      (s : z ≡ eq_z (read_back a) (read_back c)) where
    none_is : (eq_z a (negsuc 0) || eq_z b (negsuc 0) || eq_z a (neg_ℤ b)) ≡ (x || y || z)
    none_is = rw (test_known a A (negsuc 0) p, test_known b B (negsuc 0) q, test-opposite c r s)

    pub and_none : (x || y || z) ≡ true → negsuc 0 ≡ short_and a b
    unfolding short_and
    and_none h = rw (none_is ∙ h)

    module _ (h : (x || y || z) ≡ false) {t : Bool} (u : t ≡ eq_z (read_back a) (pos 1)) where
      pub and-other : t ≡ true → read_back b ≡ short_and a b
      unfolding short_and
      and-other k = rw (none_is ∙ h, sym (test_known a A (pos 1) u) ∙ k) (read_back-is b B)

      pub and_first : t ≡ false → read_back a ≡ short_and a b
      unfolding short_and
      and_first k = rw (none_is ∙ h, sym (test_known a A (pos 1) u) ∙ k) (read_back-is a A)

  -- the exclusive or, one test after another
  module _ {x : Bool} (p : x ≡ eq_z (read_back a) (read_back b)) where
    pub xor_same : x ≡ true → negsuc 0 ≡ short_xor a b
    unfolding short_xor
    xor_same h = rw (sym (test-edge p) ∙ h)

    module _ (h : x ≡ false) (c : ℤ) (r : c ≡ neg_ℤ (read_back b)) {y : Bool} (q : y ≡ eq_z (read_back a) (read_back c)) where
      pub xor-opposite : y ≡ true → pos 1 ≡ short_xor a b
      unfolding short_xor
      xor-opposite k = rw (sym (test-edge p) ∙ h, sym (test-opposite c r q) ∙ k)

      module _ (k : y ≡ false) (n : _) (N : n ≡ nat_abs (read_back a)) (v : ℤ) where
        number_is : n ≡ nat_abs a
        number_is = N ∙ ap nat_abs (read_back-is a A)

        pub xor-left : n ≡ 1 → v ≡ through (read_back a) (read_back c) → read_back v ≡ short_xor a b
        unfolding short_xor
        xor-left e w =
            rw (sym (test-edge p) ∙ h, sym (test-opposite c r q) ∙ k, eq-eqb (nat_abs a) 1 (sym number_is ∙ e), w, read_back-is a A, opposite-back b c B r)
            (read_back-is (through a (neg_ℤ b)) (through-kept a (neg_ℤ b) (edge-neg b B)))

        pub xor-right : (n ≡ 1 → ⊥) → (d : ℤ) → d ≡ neg_ℤ (read_back a) → v ≡ through (read_back b) (read_back d) → read_back v ≡ short_xor a b
        unfolding short_xor
        xor-right e d u w =
            rw (sym (test-edge p) ∙ h, sym (test-opposite c r q) ∙ k, ne_eqb (nat_abs a) 1 (λ g. e (number_is ∙ g)), w, read_back-is b B, opposite-back a d A u)
            (read_back-is (through b (neg_ℤ a)) (through-kept b (neg_ℤ a) (edge-neg a A)))

-- a shortcut is an edge of the width
no_edge : IsEdge (negsuc 0)
no_edge = omega arith

and_kept : (a b : ℤ) → IsEdge a → IsEdge b → IsEdge (short_and a b)
unfolding short_and
and_kept a b A B = one_of (eq_z a (negsuc 0) || eq_z b (negsuc 0) || eq_z a (neg_ℤ b)) _ _ no_edge (one_of (eq_z a (pos 1)) b a B A)

xor-kept : (a b : ℤ) → IsEdge a → IsEdge b → IsEdge (short_xor a b)
unfolding short_xor
xor-kept a b A B =
    one_of (eq_z a b) _ _ no_edge (one_of (eq_z a (neg_ℤ b)) _ _ (omega arith)
    (one_of (eqb (nat_abs a) 1) _ _ (through-kept a (neg_ℤ b) (edge-neg b B)) (through-kept b (neg_ℤ a) (edge-neg a A))))

by-kept : (o : Op) (a b : ℤ) → IsEdge a → IsEdge b → IsEdge (short_by o a b)
unfolding short_by
by-kept op.And a b A B = and_kept a b A B
by-kept op.Or a b A B = edge-neg (short_and (neg_ℤ a) (neg_ℤ b)) (and_kept (neg_ℤ a) (neg_ℤ b) (edge-neg a A) (edge-neg b B))
by-kept op.Xor a b A B = xor-kept a b A B

edge_if : (x : Bool) (a : ℤ) → IsEdge a → IfSome (cond x (Some a) None) IsEdge
edge_if true a A = A
edge_if false a A = tt

pub short-kept : (o : Op) (a b : ℤ) → IsEdge a → IsEdge b → IfSome (short o a b) IsEdge
unfolding short
short-kept o a b A B = edge_if (near a b) (short_by o a b) (by-kept o a b A B)

-- the shortcuts by the operation
module _ (a b : ℤ) (A : IsEdge a) (B : IsEdge b) (o : Op) {y : Bool} (n : y ≡ near (read_back a) (read_back b)) where
  near-read : near a b ≡ y
  near-read = sym (rw (read_back-is a A, read_back-is b B) at n)

  pub by-none : y ≡ false → None ≡ short o a b
  unfolding short
  by-none h = rw (near-read ∙ h)

  module _ (h : y ≡ true) (x : ℤ) where
    pub by_and : o ≡ op.And → x ≡ short_and (read_back a) (read_back b) → Some (read_back x) ≡ short o a b
    unfolding short short_by
    by_and e q = rw (near-read ∙ h, e, q, read_back-is a A, read_back-is b B) (ap Some (read_back-is (short_and a b) (and_kept a b A B)))

    pub by-xor : o ≡ op.Xor → x ≡ short_xor (read_back a) (read_back b) → Some (read_back x) ≡ short o a b
    unfolding short short_by
    by-xor e q = rw (near-read ∙ h, e, q, read_back-is a A, read_back-is b B) (ap Some (read_back-is (short_xor a b) (xor-kept a b A B)))

    -- an or, by the and of the opposites c and d
    module _ (c d : ℤ) (C : c ≡ neg_ℤ (read_back a)) (D : d ≡ neg_ℤ (read_back b)) (q : x ≡ short_and (read_back c) (read_back d)) where
      and-opposites : x ≡ short_and (neg_ℤ a) (neg_ℤ b)
      and-opposites = rw (opposite-back a c A C, opposite-back b d B D) at q

      and-opposites-kept : IsEdge x
      and-opposites-kept = rw and-opposites (and_kept (neg_ℤ a) (neg_ℤ b) (edge-neg a A) (edge-neg b B))

      pub or_kept : IsEdge (read_back x)
      or_kept = rw (read_back-is x and-opposites-kept) and-opposites-kept

      pub by-or : o ≡ op.Or → (v : ℤ) → v ≡ neg_ℤ (read_back x) → Some (read_back v) ≡ short o a b
      unfolding short short_by
      by-or e v r = rw (near-read ∙ h, e) (ap Some (opposite-back x v and-opposites-kept r ∙ ap neg_ℤ and-opposites))
