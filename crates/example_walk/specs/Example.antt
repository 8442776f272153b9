-- A walk that would count. Document 02, request 4: 'Given a root and a wanted answer, the call gives the first setting with that answer, level 0
-- compared first and no before yes.'
use Rattle.std.specs.Prelude.{ℕ, zero, suc, ◌-◌, Bool, true, false, cond, not, List, [], ◌∷◌, ◌++◌, map, ltb, length, replicate, ℤ}
use Rattle.std.specs.Bool.{xor}
use Rattle.codes.specs.Answer.{Read, value, refused}
use Rattle.codes.specs.Limits.{Limits}
use Rattle.store.specs.Store.{Store}
use Rattle.store.specs.Keeps.{keeps}
use Rattle.store.specs.Meaning.{answer}
use Rattle.store.specs.Settings.{chosen}
use Rattle.store.specs.Growth.{is_root}
use Rattle.evaluation.specs.SettingBytes.{bytes_of}

-- The settings of so many levels in their order: 'level 0 compared first and no before yes'.
unfoldable pub settings : ℕ → List (List Bool)
settings zero = [] ∷ []
settings (suc n) = map (λ s. false ∷ s) (settings n) ++ map (λ s. true ∷ s) (settings n)

-- 'the first setting'; '41, no setting gives the wanted answer'
unfoldable pub first_of : (List Bool → Bool) → List (List Bool) → Read (List Bool)
first_of p [] = refused 41
first_of p (s ∷ ss) = cond (p s) (value s) (first_of p ss)

-- 'with that answer'
abbrev pub answers_as : Store → ℤ → Bool → List Bool → Bool
answers_as σ e wanted s = not (xor (answer σ (chosen s) e) wanted)

-- The answer for a root, a wanted answer, and a lent setting of so many bytes: 'A lent setting shorter than the levels meets 1, before 3. Errors:
-- 41 .. after 3 and 4.'
unfoldable pub example_of : Limits → Store → ℤ → Bool → ℕ → Read (List Bool)
example_of m σ e wanted long =
    cond (ltb long σ.levels) (refused 1)
    (cond (keeps m σ) (cond (is_root σ e) (first_of (answers_as σ e wanted) (settings σ.levels)) (refused 4)) (refused 3))

-- what the lent setting holds afterwards: a byte for each level, zeros beyond them, and zeros on a refusal
abbrev pub left_setting : ℕ → Read (List Bool) → List ℕ
left_setting long (value s) = bytes_of s ++ replicate (long - length s) 0
left_setting long (refused n) = replicate long 0
