-- How long names are together, of all variables and of some.
use mathlib.Core.Path.{◌≡◌, refl, ap, ◌∙◌}
use mathlib.Core.Bool.{Bool, true, false, cond}
use mathlib.Core.List.{List, [], ◌∷◌, map}
use Prim.Native.Nat.{ℕ, zero, suc, ◌+◌, ◌-◌, ◌≤◌, ◌<◌}
use native.Mathlib.Numerals.{add-one}
use native.Mathlib.Omega.{arith}
use lib.ListN.{length, get_or, drop, set, length-append}
use lib.Seq.{get_or-set_other}
use Rattle.seats.specs.Seats.{seat_of}
use Rattle.reached.specs.Meet.{is_in}
use Rattle.variable_order.specs.Order.{is_order}
use Rattle.export_size.specs.Size.{sum}
use Rattle.variable_order.proofs.Permutation.{level-found}
use Rattle.writers.specs.Words.{spaced}
use Rattle.heading.specs.Heading.{ids_from, variables_from, chosen_names}

abbrev total : List (List ℕ) → ℕ
total names = sum (map length names)

-- the names from v on: its own, and those after it
total-drop : (names : List (List ℕ)) (v : ℕ) → total (drop v names) ≡ length (get_or names v []) + total (drop (suc v) names)
unfolding sum
total-drop [] zero = refl
total-drop [] (suc v) = refl
total-drop (n ∷ names) zero = refl
total-drop (n ∷ names) (suc v) = total-drop names v

total-next : (names : List (List ℕ)) (v : ℕ) → total (drop v names) ≡ length (get_or names v []) + total (drop (v + 1) names)
total-next names v = rw (add-one v) (total-drop names v)

-- all names: that of v, and the others
total-set : (names : List (List ℕ)) (v : ℕ) → total names ≡ length (get_or names v []) + total (set names v [])
unfolding sum
total-set [] v = refl
total-set (n ∷ names) zero = omega arith
total-set (n ∷ names) (suc v) = omega (arith, total-set names v)

-- one word more: its space, its bytes, and the others
pub spaced-length : (w : List ℕ) (ws : List (List ℕ)) → length (spaced (w ∷ ws)) ≡ suc (length w + length (spaced ws))
unfolding spaced
spaced-length w ws = ap suc (length-append w (spaced ws))

-- words together: a space before each
pub spaced-total : (ws : List (List ℕ)) → length (spaced ws) ≡ length ws + total ws
unfolding spaced sum
spaced-total [] = refl
spaced-total (w ∷ ws) = spaced-length w ws ∙ omega (arith, spaced-total ws)

-- the names of the support variables from v on are among those of all variables from v on
pub ids-names : (support order : List ℕ) (names : List (List ℕ)) (v : ℕ)
    → length (spaced (chosen_names (ids_from support v order) names)) ≤ length order + total (drop v names)
unfolding ids_from chosen_names spaced
ids-names support [] names v = omega arith
ids-names support (l ∷ order) names v = go (is_in l support) (ids-names support order names (v + 1))
  where
    go : (b : Bool) → length (spaced (chosen_names (ids_from support (v + 1) order) names)) ≤ length order + total (drop (v + 1) names)
        → length (spaced (chosen_names (cond b (v ∷ ids_from support (v + 1) order) (ids_from support (v + 1) order)) names)) ≤ suc (length order) + total (drop v names)
    go true h = omega (arith, spaced-length (get_or names v []) (chosen_names (ids_from support (v + 1) order) names), total-next names v)
    go false h = omega (arith, total-next names v)

-- Levels of an order have different variables.
module _ (order : List ℕ) (p : is_order (length order) order ≡ true) where
  variables-differ : (l m : ℕ) → l < m → m < length order → seat_of m order - 1 ≡ seat_of l order - 1 → ⊥
  variables-differ l m h k e =
      omega (arith, level-found (length order) order p l (omega arith), level-found (length order) order p m k, ap (λ v. get_or order v 0) e)

  -- so the names of those at the levels from m on stay as they are where that of the variable at a level before is taken out
  names_apart : (k l m : ℕ) (names : List (List ℕ)) → l < m → m + k ≤ length order
      → chosen_names (variables_from k m order) (set names (seat_of l order - 1) []) ≡ chosen_names (variables_from k m order) names
  unfolding variables_from chosen_names
  names_apart zero l m names h b = refl
  names_apart (suc k) l m names h b =
      rw (get_or-set_other names (seat_of l order - 1) (seat_of m order - 1) [] [] (variables-differ l m h (omega arith)))
      (ap (λ t. get_or names (seat_of m order - 1) [] ∷ t) (names_apart k l (m + 1) names (omega arith) (omega arith)))

  -- and the names of the variables at k levels are among all
  pub variables-names : (k l : ℕ) (names : List (List ℕ)) → l + k ≤ length order
      → length (spaced (chosen_names (variables_from k l order) names)) ≤ k + total names
  unfolding variables_from chosen_names spaced
  variables-names zero l names b = omega arith
  variables-names (suc k) l names b =
      let v = seat_of l order - 1 in
      let h = rw (names_apart k l (l + 1) names (omega arith) (omega arith)) at (variables-names k (l + 1) (set names v []) (omega arith)) in
      omega (arith, spaced-length (get_or names v []) (chosen_names (variables_from k (l + 1) order) names), total-set names v, h)
