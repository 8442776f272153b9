-- The refusals of an export, by the first of its tests that fails.
use mathlib.Core.Path.{◌≡◌, ap, ◌∙◌}
use mathlib.Core.Bool.{Bool, true, false}
use mathlib.Core.List.{List}
use Prim.Native.Nat.{ℕ, ◌≤◌}
use native.Mathlib.Omega.{arith}
use lib.ListN.{length, replicate, length-replicate}
use lib.IntN.{ℤ}
use Rattle.codes.specs.Limits.{limits, var_limit}
use Rattle.codes.specs.Faults.{first_fault}
use Rattle.store.specs.Store.{Store}
use Rattle.store.specs.Keeps.{keeps, keeps-true}
use Rattle.seats.specs.Seats.{Seats}
use Rattle.variable_order.specs.Order.{is_order, SeatsIf}
use Rattle.heading.specs.Tables.{Lent}
use Rattle.exported.specs.Export.{roots_fit, long_enough, names_fit, export_fault}

module _ (σ : Store) (roots : List ℤ) (order : List ℕ) (p : Lent) (slots numbers out : ℕ) where
  pub refused-short : long_enough σ roots p slots numbers out ≡ false → 1 ≡ export_fault limits σ roots order p slots numbers out
  unfolding export_fault first_fault
  refused-short a = rw a

  module _ (a : long_enough σ roots p slots numbers out ≡ true) where
    pub refused-store : keeps limits σ ≡ false → 3 ≡ export_fault limits σ roots order p slots numbers out
    unfolding export_fault first_fault
    refused-store b = rw (a, b)

    module _ (b : keeps limits σ ≡ true) where
      pub refused-root : roots_fit σ.count roots ≡ false → 4 ≡ export_fault limits σ roots order p slots numbers out
      unfolding export_fault first_fault
      refused-root c = rw (a, b, c)

      module _ (c : roots_fit σ.count roots ≡ true) where
        pub refused-order : is_order σ.levels order ≡ false → 6 ≡ export_fault limits σ roots order p slots numbers out
        unfolding export_fault first_fault
        refused-order d = rw (a, b, c, d)

        module _ (d : is_order σ.levels order ≡ true) where
          pub refused-name : names_fit σ roots p ≡ false → 5 ≡ export_fault limits σ roots order p slots numbers out
          unfolding export_fault first_fault
          refused-name e = rw (a, b, c, d, e)

          pub refused_none : names_fit σ roots p ≡ true → 0 ≡ export_fault limits σ roots order p slots numbers out
          unfolding export_fault first_fault
          refused_none e = rw (a, b, c, d, e)

-- a store that keeps the rules has no more levels than a table of variables has room for
pub vars_long : (σ : Store) (vars : List ℕ) → keeps limits σ ≡ true → vars ≡ replicate var_limit 0 → σ.levels ≤ length vars
vars_long σ vars k z =
    let long : length vars ≡ var_limit = ap length z ∙ length-replicate {A = ℕ} var_limit 0 in
    omega (arith, (keeps-true limits σ k).sizes.levels_limit)

-- the table of an order that is one
pub seats-there : {r : Bool} (order vars : List ℕ) → r ≡ true → SeatsIf r order vars → Seats order vars
seats-there order vars e h = rw e at h
