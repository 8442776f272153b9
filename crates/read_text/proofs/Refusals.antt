-- Which of document 01's numbers a text is refused with: '18 (added) a name or `.dd` value isn't UTF-8. 19 (added) over a limit.'
use mathlib.Core.Path.{◌≡◌, refl}
use mathlib.Core.Bool.{Bool, true, false, cond}
use mathlib.Core.List.{List, []}
use mathlib.Core.Logic.{◌⊎◌, inl, inr}
use Prim.Native.Nat.{ℕ}
use native.Mathlib.Omega.{arith}
use lib.ListN.{length}
use Rattle.codes.specs.Answer.{value, refused}
use Rattle.read_lines.specs.Words.{Word, words}
use Rattle.read_text.specs.Text.{is_utf8, Place, place, name_of, name_list, placed, text_at}
use Rattle.read_lists.proofs.Refusals.{judge-refuses}

utf8-refuses : (b : Bool) (p : Place) (n : ℕ) → cond b (value p) (refused 18) ≡ refused n → n ≡ 18
utf8-refuses true p n e = absurd (let z : ◌≡◌ {A = ℕ} 0 1 = cc in omega arith)
utf8-refuses false p n e = cc

-- A name by itself is refused with 18,
pub name-refuses : (w : Word) (n : ℕ) → name_of w ≡ refused n → n ≡ 18
name-refuses w n e = utf8-refuses (is_utf8 w.bytes) (place w.start (length w.bytes)) n e

-- a list of names with 18 or 19,
pub name-list-refuses : (max at : ℕ) (s : List ℕ) (n : ℕ) → (name_list max at s).answer ≡ refused n → (n ≡ 18) ⊎ (n ≡ 19)
unfolding name_list
name-list-refuses max at s n e =
    judge-refuses name_of max (λ k. (k ≡ 18) ⊎ (k ≡ 19)) (λ w k q. inl (name-refuses w k q)) (inr refl) [] (words at s) n e

-- a text with 18.
pub text-refuses : (at : ℕ) (s : List ℕ) (n : ℕ) → text_at at s ≡ refused n → n ≡ 18
unfolding text_at
text-refuses at s n e = utf8-refuses (is_utf8 s) (placed at s) n e
