-- Laws of the counts of a list's entries.
use mathlib.Core.Path.{◌≡◌}
use Prim.Native.Nat.{ℕ}
use lib.Dec.{eqb}
use borrow.Author.Tests.{eqb-true, eq-eqb, ne_eqb}
use Rattle.header_checks.specs.Whole.{count_fault, given_fault}
use Rattle.codes.proofs.Refusals.{unless-fails, unless_holds, unless-none}

module _ (want n : ℕ) where
  -- there are as many entries as there must be
  pub count-right : n ≡ want → count_fault want n ≡ 0
  count-right e = unless_holds 21 (eq-eqb n want e)

  -- there aren't
  pub count-wrong : (n ≡ want → ⊥) → count_fault want n ≡ 21
  count-wrong h = unless-fails 21 (ne_eqb n want h)

  -- where there is no refusal there are
  pub count_none : count_fault want n ≡ 0 → n ≡ want
  count_none h = eqb-true n want (unless-none (eqb n want) 20 h)

  -- a list that isn't given
  pub given-missing : n ≡ 0 → given_fault want n ≡ 0
  given-missing e = rw (eq-eqb n 0 e)

  -- a list that is given
  pub given-counts : (n ≡ 0 → ⊥) → given_fault want n ≡ count_fault want n
  given-counts h = rw (ne_eqb n 0 h)
