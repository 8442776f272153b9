-- A tipping point is refused with a number exactly where the rule of that refusal is broken, and none before it.
use mathlib.Core.Path.{◌≡◌, refl, sym, subst}
use mathlib.Core.Logic.{◌↔◌}
use mathlib.Core.List.{List}
use Prim.Native.Nat.{ℕ}
use lib.IntN.{ℤ}
use Rattle.codes.specs.Answer.{refused}
use Rattle.codes.specs.Limits.{Limits}
use Rattle.store.specs.Store.{Store}
use Rattle.store.specs.Meaning.{setting_of}
use Rattle.tipping.specs.Tip.{tips, tip_of}
use Rattle.tipping.proofs.Least.{none-lowest, none-exact}
use Rattle.tipping.proofs.Laws.{tip-cases}
use Rattle.joined.proofs.Joins.{refused-one}
use Rattle.calls.specs.Refusals.{TipRefused, tip_broken, tip_bad, no_flip}

module _ (m : Limits) (e : ℤ) (s : List ℕ) (σ : Store) where
  abbrev Refused : ℕ → Type 0
  Refused = TipRefused m e s σ

  -- what it is refused for
  tip-why : (n : ℕ) → tip_of m σ e s ≡ refused n → Refused n
  tip-why n = tip-cases m σ e s (λ r. r ≡ refused n → Refused n)
      (λ w q. subst Refused (refused-one 3 n q) (tip_broken w))
      (λ R w q. subst Refused (refused-one 4 n q) (tip_bad R w))
      (λ A q.
      let w = none-exact (tips σ e (setting_of s)) σ.levels n q in
      subst Refused (sym w.0) (no_flip A.rules A.edge A.setting w.1))

  -- and that it is refused so
  why-tip : {n : ℕ} → Refused n → tip_of m σ e s ≡ refused n
  why-tip (tip_broken w) = tip-cases m σ e s (λ r. r ≡ refused 3) (λ v. refl) (λ R v. absurd (w R)) (λ A. absurd (w A.rules))
  why-tip (tip_bad Q w) = tip-cases m σ e s (λ r. r ≡ refused 4) (λ v. absurd (v Q)) (λ R v. refl) (λ A. absurd (w (A.edge, A.setting)))
  why-tip (no_flip Q E S w) =
      tip-cases m σ e s (λ r. r ≡ refused 42) (λ v. absurd (v Q)) (λ R v. absurd (v (E, S))) (λ A. none-lowest (tips σ e (setting_of s)) σ.levels w)

  -- A tipping point is refused with a number exactly so.
  pub tip-refused-exactly : (n : ℕ) → (tip_of m σ e s ≡ refused n) ↔ Refused n
  tip-refused-exactly n = (tip-why n, λ w. why-tip w)
