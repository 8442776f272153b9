-- An example is refused with a number exactly where the rule of that refusal is broken, and none before it.
use mathlib.Core.Path.{◌≡◌, refl, sym, subst}
use mathlib.Core.Logic.{◌↔◌}
use mathlib.Core.Bool.{Bool}
use Prim.Native.Nat.{ℕ}
use native.Mathlib.Omega.{arith}
use lib.IntN.{ℤ}
use Rattle.codes.specs.Answer.{refused}
use Rattle.codes.specs.Limits.{Limits}
use Rattle.store.specs.Store.{Store}
use Rattle.example_walk.specs.Example.{answers_as, example_of}
use Rattle.example_walk.proofs.First.{none_first, none-exact}
use Rattle.example_walk.proofs.Laws.{example-cases}
use Rattle.joined.proofs.Joins.{refused-one}
use Rattle.calls.specs.Refusals.{ExampleRefused, setting_short, example_broken, example_bad, no_setting}

module _ (m : Limits) (e : ℤ) (wanted : Bool) (long : ℕ) (σ : Store) where
  abbrev Refused : ℕ → Type 0
  Refused = ExampleRefused m e wanted long σ

  -- what it is refused for
  example-why : (n : ℕ) → example_of m σ e wanted long ≡ refused n → Refused n
  example-why n = example-cases m σ e wanted long (λ r. r ≡ refused n → Refused n)
      (λ h q. subst Refused (refused-one 1 n q) (setting_short h))
      (λ h w q. subst Refused (refused-one 3 n q) (example_broken h w))
      (λ h R w q. subst Refused (refused-one 4 n q) (example_bad h R w))
      (λ h R E q. let w = none-exact (answers_as σ e wanted) σ.levels q in subst Refused (sym w.0) (no_setting h R E w.1))

  -- and that it is refused so
  why-example : {n : ℕ} → Refused n → example_of m σ e wanted long ≡ refused n
  why-example (setting_short k) =
      example-cases m σ e wanted long (λ r. r ≡ refused 1) (λ h. refl) (λ h w. absurd (omega arith)) (λ h R w. absurd (omega arith)) (λ h R E. absurd (omega arith))
  why-example (example_broken k w) =
      example-cases m σ e wanted long (λ r. r ≡ refused 3) (λ h. absurd (omega arith)) (λ h v. refl) (λ h R v. absurd (w R)) (λ h R E. absurd (w R))
  why-example (example_bad k Q w) =
      example-cases m σ e wanted long (λ r. r ≡ refused 4) (λ h. absurd (omega arith)) (λ h v. absurd (v Q)) (λ h R v. refl) (λ h R E. absurd (w E))
  why-example (no_setting k Q F w) =
      example-cases m σ e wanted long (λ r. r ≡ refused 41) (λ h. absurd (omega arith)) (λ h v. absurd (v Q)) (λ h R v. absurd (v F))
      (λ h R E. none_first (answers_as σ e wanted) σ.levels w)

  -- An example is refused with a number exactly so.
  pub example-refused-exactly : (n : ℕ) → (example_of m σ e wanted long ≡ refused n) ↔ Refused n
  example-refused-exactly n = (example-why n, λ w. why-example w)
