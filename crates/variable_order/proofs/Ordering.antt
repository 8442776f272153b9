-- Laws of an order that is checked from its first entry to its last, while a table is filled with each level's variable.
use mathlib.Core.Path.{◌≡◌, refl, sym, ap, ◌∙◌}
use mathlib.Core.Bool.{Bool, true, false, not}
use mathlib.Core.List.{List, [], ◌∷◌, ◌++◌, map}
use Prim.Native.Nat.{ℕ, zero, suc, ◌+◌, ◌≤◌, ◌<◌}
use native.Mathlib.Numerals.{add-one}
use native.Mathlib.Omega.{arith}
use native.Mathlib.Decide.{ℕ_discrete}
use lib.ListN.{length, get_or, take, set, replicate, length-set, get_or-replicate, get_or-map}
use lib.Seq.{take-suc, take_all, length-take-le, get_or-set_same, get_or-set_other}
use lib.Dec.{eqb}
use borrow.Author.Tests.{eq-eqb, ne_eqb}
use Rattle.seats.specs.Seats.{seat_of, Seats}
use Rattle.support.proofs.Distinct.{Marked, marked_start, marked_more, marked-over, marked-twice, marked-end}
use Rattle.variable_order.specs.Order.{is_order}
use Rattle.seats.proofs.NumberSeats.{seat-last, seat-other}

-- a level that has a variable
abbrev met : ℕ → Bool
met v = not (eqb v 0)

-- where no level has one, none is marked
unmet : (n : ℕ) → map met (replicate n 0) ≡ replicate n false
unmet zero = refl
unmet (suc n) = ap (λ l. false ∷ l) (unmet n)

-- a level that is given one is marked
met-set : (vars : List ℕ) (x v : ℕ) → map met (set vars x (v + 1)) ≡ set (map met vars) x true
met-set [] x v = refl
met-set (w ∷ vars) zero v = rw (ne_eqb (v + 1) 0 (λ e. omega arith))
met-set (w ∷ vars) (suc x) v = ap (λ l. met w ∷ l) (met-set vars x v)

-- The first v entries are below the number of levels and differ, so that the rest decides; the table, n long, has the variables of their levels.
pub record Ordering (levels : ℕ) (order : List ℕ) (n : ℕ) (vars : List ℕ) (v : ℕ) : Type 0 where
  pub long : length vars ≡ n
  pub marked : Marked levels n order (map met vars) v
  pub seats : (x : ℕ) → x < n → get_or vars x 0 ≡ seat_of x (take v order)

module _ (levels : ℕ) (order vars : List ℕ) where
  -- at first the table is zeros
  pub ordering-start : vars ≡ replicate (length vars) 0 → Ordering levels order (length vars) vars 0
  unfolding seat_of
  ordering-start h = record {
    long = refl;
    marked = rw (ap (map met) h ∙ unmet (length vars)) (marked_start levels (length vars) order);
    seats = λ x p. ap (λ t. get_or t x 0) h ∙ get_or-replicate (length vars) x 0 0 p;
  }

  module _ {n v : ℕ} (o : Ordering levels order n vars v) (h : v < length order) where
    -- an entry that isn't below the number of levels
    pub ordering-over : length order ≡ levels → levels ≤ get_or order v 0 → false ≡ is_order levels order
    unfolding is_order
    ordering-over e k = rw (eq-eqb _ _ e) (sym (marked-over levels n order (map met vars) v o.marked h k))

    -- an entry that stood before
    pub ordering-twice : length order ≡ levels → (get_or vars (get_or order v 0) 0 ≡ 0 → ⊥) → false ≡ is_order levels order
    unfolding is_order
    ordering-twice e k =
        rw (eq-eqb _ _ e)
        (sym (marked-twice levels n order (map met vars) v o.marked h (get_or-map met vars (get_or order v 0) 0 ∙ ap not (ne_eqb _ 0 k))))

    -- one entry more: its level has this variable
    pub ordering-more : levels ≤ n → get_or order v 0 < levels → get_or vars (get_or order v 0) 0 ≡ 0
        → Ordering levels order n (set vars (get_or order v 0) (v + 1)) (v + 1)
    ordering-more g k e = record {
      long = length-set vars (get_or order v 0) (v + 1) ∙ o.long;
      marked =
          rw (met-set vars (get_or order v 0) v)
          (marked_more levels n order (map met vars) v o.marked g h k (get_or-map met vars (get_or order v 0) 0 ∙ ap not (eq-eqb _ _ e)));
      seats = λ x p. rw (add-one v, take-suc order v 0 h) (seats x p (ℕ_discrete x (get_or order v 0)));
    }
      where
        seats : (x : ℕ) → x < n → Dec (x ≡ get_or order v 0)
            → get_or (set vars (get_or order v 0) (suc v)) x 0 ≡ seat_of x (take v order ++ (get_or order v 0 ∷ []))
        seats x p (yes q) =
            rw q
            (get_or-set_same vars (get_or order v 0) (suc v) 0 (omega (arith, o.long))
            ∙ sym (seat-last (get_or order v 0) (take v order) (sym (o.seats (get_or order v 0) (omega arith)) ∙ e)
            ∙ ap suc (length-take-le v order (omega arith))))
        seats x p (no q) =
            get_or-set_other vars (get_or order v 0) x (suc v) 0 q ∙ o.seats x p ∙ sym (seat-other x (get_or order v 0) (take v order) q)

  module _ {n v : ℕ} (o : Ordering levels order n vars v) (h : length order ≤ v) where
    -- all entries are checked
    pub ordering-end : length order ≡ levels → true ≡ is_order levels order
    unfolding is_order
    ordering-end e = rw (eq-eqb _ _ e) (sym (marked-end levels n order (map met vars) v o.marked h))

    -- and the table has each level's variable
    pub ordering-seats : Seats order vars
    ordering-seats x p = o.seats x (omega (arith, o.long)) ∙ ap (seat_of x) (take_all v order h)

-- too few entries, or too many
pub order-uneven : (levels : ℕ) (order : List ℕ) → (length order ≡ levels → ⊥) → false ≡ is_order levels order
unfolding is_order
order-uneven levels order h = rw (ne_eqb (length order) levels h)
