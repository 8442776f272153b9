-- Which of document 01's numbers a list is refused with. 'The file's writer, line by line', 15, 16 and 19.
use mathlib.Core.Path.{◌≡◌, refl}
use mathlib.Core.Bool.{Bool, true, false}
use mathlib.Core.List.{List, [], ◌∷◌, ◌++◌}
use mathlib.Core.Logic.{◌⊎◌, inl, inr, ⊎_elim}
use Prim.Native.Nat.{ℕ, ◌^◌}
use native.Mathlib.Omega.{arith}
use lib.ListN.{length}
use lib.Dec.{ltb}
use borrow.Author.Tests.{ltb-true, ltb-false}
use Rattle.codes.specs.Answer.{Read, value, refused}
use Rattle.read_lines.specs.Words.{Word, words}
use Rattle.read_numbers.specs.declared.Role.TheVariants.{Entry}
use Rattle.read_lists.specs.Lists.{Listed, listed, judged, judge, u32_of, u32_list}
use Rattle.read_lists.proofs.Another.{another-more, another-full}
use Rattle.read_numbers.proofs.Refusals.{number-refuses}

-- Words are refused with what an entry is refused with, or with 19.
module _ {A : Type 0} (read : Word → Read A) (max : ℕ) (P : ℕ → Type 0) (entry : (w : Word) (n : ℕ) → read w ≡ refused n → P n) (limit : P 19) where
  abbrev Refuses : Listed A → Type 0
  Refuses l = (n : ℕ) → l.answer ≡ refused n → P n

  judged-refuses : (es : List A) (w : Word) (r : Read A) → read w ≡ r → (go_on : List A → Listed A) → ((fs : List A) → Refuses (go_on fs))
      → Refuses (judged max es r go_on)
  judged-refuses es w (value a) q go_on h n e = of (ltb (length es) max) refl
    where
      of : (b : Bool) → ltb (length es) max ≡ b → P n
      of true k = h (es ++ (a ∷ [])) n (rw (another-more max es a go_on (listed (refused 19)) (ltb-true _ _ k)) at e)
      of false k =
          let w : (listed (refused 19) es).answer ≡ refused n = rw (another-full max es a go_on (listed (refused 19)) (ltb-false _ _ k)) at e in
          let z : 19 ≡ n = cc in rw (← z) limit
  judged-refuses es w (refused k) q go_on h n e = let z : k ≡ n = cc in entry w n (rw z at q)

  pub judge-refuses : (es : List A) (ws : List Word) (n : ℕ) → (judge read max es ws).answer ≡ refused n → P n
  unfolding judge
  judge-refuses es [] n e = absurd (let z : ◌≡◌ {A = ℕ} 0 1 = cc in omega arith)
  judge-refuses es (w ∷ ws) n e = judged-refuses es w (read w) refl (λ fs. judge read max fs ws) (λ fs. judge-refuses fs ws) n e

-- A list of numbers is refused with 15, 16 or 19.
pub u32-list-refuses : (max : ℕ) (s : List ℕ) (n : ℕ) → (u32_list max s).answer ≡ refused n → (n ≡ 15) ⊎ (n ≡ 16) ⊎ (n ≡ 19)
unfolding u32_list
u32-list-refuses max s n e =
    judge-refuses u32_of max (λ k. (k ≡ 15) ⊎ (k ≡ 16) ⊎ (k ≡ 19))
    (λ w k q. ⊎_elim (λ z. inr (inl z.1)) inl (number-refuses Entry (2 ^ 32) w.bytes k q)) (inr (inr refl)) [] (words 0 s) n e
