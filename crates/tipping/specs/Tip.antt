-- The point that tips the round. Document 02, request 6: 'For a root and a setting the call gives the lowest level whose flip alone turns the answer
-- over.'
use Rattle.std.specs.Prelude.{ℕ, zero, suc, Bool, cond, not, ◌&&◌, List, eqb, ℤ}
use Rattle.std.specs.Bool.{xor}
use Rattle.codes.specs.Answer.{Read, value, refused}
use Rattle.codes.specs.Limits.{Limits}
use Rattle.store.specs.Store.{Store}
use Rattle.store.specs.Keeps.{keeps}
use Rattle.store.specs.Meaning.{Setting, setting_of, answer}
use Rattle.store.specs.Growth.{is_root}
use Rattle.evaluation.specs.Evaluation.{is_setting}

-- a setting with one level flipped, 'alone'
abbrev pub flipped : Setting → ℕ → Setting
flipped s l j = cond (eqb j l) (not (s j)) (s j)

-- 'whose flip alone turns the answer over': the answers at the setting and at the flipped one differ
abbrev pub tips : Store → ℤ → Setting → ℕ → Bool
tips σ e s l = xor (answer σ (flipped s l) e) (answer σ s e)

-- 'the lowest level', of n levels from l on; '42, no single flip does'
unfoldable pub lowest_from : (ℕ → Bool) → ℕ → ℕ → Read ℕ
lowest_from p l zero = refused 42
lowest_from p l (suc n) = cond (p l) (value l) (lowest_from p (suc l) n)

-- The answer for a root and a lent setting: 'Errors: 42 .. after 3 and 4.'
unfoldable pub tip_of : Limits → Store → ℤ → List ℕ → Read ℕ
tip_of m σ e s =
    cond (keeps m σ) (cond (is_root σ e && is_setting σ s) (lowest_from (tips σ e (setting_of s)) 0 σ.levels) (refused 4)) (refused 3)
