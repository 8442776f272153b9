-- The public evaluation. Document 01: 'Evaluation gives 3, 4.'
use Rattle.std.specs.Prelude.{ℕ, Bool, true, cond, ◌&&◌, List, [], ◌∷◌, eqb, leb, length, ℤ}
use Rattle.codes.specs.Answer.{Read, value, refused}
use Rattle.store.specs.Store.{Store}
use Rattle.codes.specs.Limits.{Limits}
use Rattle.store.specs.Keeps.{keeps}
use Rattle.store.specs.Meaning.{setting_of, answer}
use Rattle.store.specs.Growth.{is_root}

-- each byte is 00 or 01
unfoldable pub only_bits : List ℕ → Bool
only_bits [] = true
only_bits (b ∷ bs) = leb b 1 && only_bits bs

-- '4 .. a setting isn't one byte 00 or 01 per level'
abbrev pub is_setting : Store → List ℕ → Bool
is_setting σ s = eqb (length s) σ.levels && only_bits s

-- what refuses an evaluation, 0 for nothing
unfoldable pub evaluation_fault : Limits → Store → ℤ → List ℕ → ℕ
evaluation_fault m σ e s = cond (keeps m σ) (cond (is_root σ e && is_setting σ s) 0 4) 3

unfoldable pub evaluation : Limits → Store → ℤ → List ℕ → Read Bool
evaluation m σ e s = cond (keeps m σ) (cond (is_root σ e && is_setting σ s) (value (answer σ (setting_of s) e)) (refused 4)) (refused 3)
