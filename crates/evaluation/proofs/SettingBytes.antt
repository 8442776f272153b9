-- Settings as bytes, and as lists of yes and no.
use mathlib.Core.Path.{◌≡◌, refl, sym, ap, fun_ext, ◌∙◌}
use mathlib.Core.Logic.{◌↔◌}
use mathlib.Core.Bool.{Bool, true, false}
use mathlib.Core.List.{List, [], ◌∷◌}
use Prim.Native.Nat.{ℕ, zero, suc}
use native.Mathlib.Omega.{arith}
use lib.Dec.{eqb}
use lib.ListN.{length, length-map, get_or, get_or-map}
use borrow.Author.Tests.{eq-eqb, eqb-true, leb-true}
use Rattle.codes.proofs.Bytes.{both}
use Rattle.store.specs.Store.{Store}
use Rattle.store.specs.Meaning.{setting_of}
use Rattle.store.specs.Settings.{chosen}
use Rattle.evaluation.specs.Evaluation.{only_bits, is_setting}
use Rattle.evaluation.specs.SettingBytes.{byte_of, bytes_of}

-- the bytes of a list of yes and no are 00 or 01
bytes_bits : (s : List Bool) → only_bits (bytes_of s) ≡ true
unfolding only_bits
bytes_bits [] = refl
bytes_bits (true ∷ s) = bytes_bits s
bytes_bits (false ∷ s) = bytes_bits s

-- They are a setting of a store exactly where the list has one entry per level.
pub bytes-setting : (σ : Store) (s : List Bool) → (is_setting σ (bytes_of s) ≡ true) ↔ (length s ≡ σ.levels)
bytes-setting σ s = (
  λ q. sym (length-map s byte_of) ∙ eqb-true _ _ (both (eqb (length (bytes_of s)) σ.levels) (only_bits (bytes_of s)) q).0,
  λ q. rw (eq-eqb (length (bytes_of s)) σ.levels (length-map s byte_of ∙ q)) (bytes_bits s),
)

-- a byte says what it was made of
byte-back : (b : Bool) → eqb (byte_of b) 1 ≡ b
byte-back true = refl
byte-back false = refl

-- As a setting they say what the list says.
pub setting-chosen : (s : List Bool) → setting_of (bytes_of s) ≡ chosen s
setting-chosen s = fun_ext (λ l. ap (λ n. eqb n 1) (get_or-map byte_of s l false) ∙ byte-back (get_or s l false))

-- Every setting is such bytes.
pub setting-bytes : (b : List ℕ) → only_bits b ≡ true → (s : List Bool) × (b ≡ bytes_of s)
unfolding only_bits
setting-bytes [] q = ([], refl)
setting-bytes (zero ∷ b) q = let w = setting-bytes b q in (false ∷ w.0, ap (λ l. zero ∷ l) w.1)
setting-bytes (suc zero ∷ b) q = let w = setting-bytes b q in (true ∷ w.0, ap (λ l. suc zero ∷ l) w.1)
setting-bytes (suc (suc n) ∷ b) q = absurd (omega (arith, leb-true (suc (suc n)) 1 (both _ (only_bits b) q).0))
