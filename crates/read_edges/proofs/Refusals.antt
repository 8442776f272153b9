-- Which of document 01's numbers an edge list is refused with. 'The file's writer, line by line', 15, 16, 17 and 19.
use mathlib.Core.Path.{◌≡◌, refl, sym, ◌∙◌}
use mathlib.Core.Bool.{Bool, true, false}
use mathlib.Core.List.{List, [], ◌∷◌}
use mathlib.Core.Logic.{◌⊎◌, inl, inr, ⊎_elim}
use Prim.Native.Nat.{ℕ, ◌^◌}
use native.Mathlib.Omega.{arith}
use lib.ListN.{length}
use lib.IntN.{ℤ}
use lib.Dec.{eqb}
use borrow.Author.Tests.{eqb-true, eqb-false}
use Rattle.codes.specs.Answer.{Read, value, refused}
use Rattle.read_lines.specs.Words.{Word, words}
use Rattle.read_lines.proofs.Spaced.{words-few}
use Rattle.read_numbers.specs.declared.Role.TheVariants.{Magnitude}
use Rattle.read_numbers.specs.Number.{foreign, number}
use Rattle.read_numbers.proofs.Refusals.{number-refuses}
use Rattle.read_lists.proofs.Judged.{few-judged}
use Rattle.read_lists.proofs.Refusals.{judge-refuses}
use Rattle.read_edges.specs.Edges.{with_sign, magnitude_of, after_minus, entry_bytes, entry_of, edge_list, pair_of, children}
use Rattle.read_edges.proofs.Entries.{entry-plain, entry-minus}
use Rattle.read_edges.proofs.EdgeList.{edge-judged}

-- an entry's faults: too large, a foreign character, a minus out of its place
abbrev Faults : ℕ → Type 0
Faults n = (n ≡ 15) ⊎ (n ≡ 16) ⊎ (n ≡ 17)

foreign-faults : (x n : ℕ) → n ≡ foreign Magnitude x → Faults n
foreign-faults x n e = of (eqb x 45) refl
  where
    of : (b : Bool) → eqb x 45 ≡ b → Faults n
    of true k = inr (inr (rw k at e))
    of false k = inr (inl (rw k at e))

magnitude-refuses : (minus : Bool) (d : List ℕ) (n : ℕ) → magnitude_of minus d ≡ refused n → Faults n
magnitude-refuses minus d n e = of (number Magnitude (2 ^ 63) d) refl e
  where
    of : (r : Read ℕ) → number Magnitude (2 ^ 63) d ≡ r → with_sign minus r ≡ refused n → Faults n
    of (value v) q z = absurd (let y : ◌≡◌ {A = ℕ} 0 1 = cc in omega arith)
    of (refused k) q z =
        let y : k ≡ n = cc in
        ⊎_elim (λ p. foreign-faults p.0 n p.1) inl (number-refuses Magnitude (2 ^ 63) d n (rw y at q))

after-refuses : (d : List ℕ) (n : ℕ) → after_minus d ≡ refused n → Faults n
after-refuses [] n e = inr (inr (cc))
after-refuses (x ∷ d) n e = magnitude-refuses true (x ∷ d) n e

bytes-refuses : (w : List ℕ) (n : ℕ) → entry_bytes w ≡ refused n → Faults n
unfolding entry_bytes
bytes-refuses [] n e = magnitude-refuses false [] n e
bytes-refuses (x ∷ d) n e = of (eqb x 45) refl
  where
    of : (b : Bool) → eqb x 45 ≡ b → Faults n
    of true k = after-refuses d n (sym (entry-minus x d (eqb-true _ _ k)) ∙ e)
    of false k = magnitude-refuses false (x ∷ d) n (sym (entry-plain x d (eqb-false _ _ k)) ∙ e)

-- A root list is refused with 15, 16, 17 or 19,
pub edge-list-refuses : (max : ℕ) (s : List ℕ) (n : ℕ) → (edge_list max s).answer ≡ refused n → (n ≡ 15) ⊎ (n ≡ 16) ⊎ (n ≡ 17) ⊎ (n ≡ 19)
unfolding edge_list
edge-list-refuses max s n e =
    judge-refuses entry_of max (λ k. (k ≡ 15) ⊎ (k ≡ 16) ⊎ (k ≡ 17) ⊎ (k ≡ 19))
    (λ w k q. ⊎_elim inl (λ p. inr (⊎_elim inl (λ y. inr (inl y)) p)) (bytes-refuses w.bytes k q))
    (inr (inr (inr refl))) [] (words 0 s) n e

-- a child list with 15, 16 or 17: it 'is read whole, then counted'.
module _ (s : List ℕ) where
  no-entry-19 : (w : Word) → entry_of w ≡ refused 19 → ⊥
  no-entry-19 w e = ⊎_elim (λ z. omega arith) (⊎_elim (λ z. omega arith) (λ z. omega arith)) (bytes-refuses w.bytes 19 e)

  -- There are no more words than bytes.
  pub children-few : (edge_list (length s) s).answer ≡ refused 19 → ⊥
  children-few e = few-judged entry_of (length s) (words-few 0 s) no-entry-19 (edge-judged (length s) s) e

  pub children-refuses : (n : ℕ) → children s ≡ refused n → (n ≡ 15) ⊎ (n ≡ 16) ⊎ (n ≡ 17)
  unfolding children
  children-refuses n e = of (edge_list (length s) s).entries (edge_list (length s) s).answer refl e
    where
      few : (edge_list (length s) s).answer ≡ refused n → (n ≡ 19) → (n ≡ 15) ⊎ (n ≡ 16) ⊎ (n ≡ 17)
      few q z = absurd (children-few (rw z at q))

      of : (es : List ℤ) (a : Read ℕ) → (edge_list (length s) s).answer ≡ a → pair_of es a ≡ refused n → (n ≡ 15) ⊎ (n ≡ 16) ⊎ (n ≡ 17)
      of es (value v) q z = absurd (let y : ◌≡◌ {A = ℕ} 0 1 = cc in omega arith)
      of es (refused k) q z =
          let y : k ≡ n = cc in
          let w : (edge_list (length s) s).answer ≡ refused n = rw y at q in
          ⊎_elim inl (λ a. ⊎_elim (λ b. inr (inl b)) (λ b. ⊎_elim (λ c. inr (inr c)) (few w) b) a) (edge-list-refuses (length s) s n w)
