-- Laws of marks: a list that marks the numbers of another.
use mathlib.Core.Path.{◌≡◌, ap, ◌∙◌}
use mathlib.Core.Bool.{true, false, not}
use mathlib.Core.List.{List, [], ◌∷◌, ◌++◌}
use Prim.Native.Nat.{ℕ, ◌+◌, ◌-◌, ◌≤◌, ◌<◌}
use native.Mathlib.Omega.{arith}
use native.Mathlib.Decide.{ℕ_discrete}
use borrow.Author.Tests.{eq-eqb, ne_eqb}
use lib.Dec.{eqb}
use lib.ListN.{length, get_or, set, replicate, length-set, get_or-replicate}
use lib.Seq.{get_or-set_same, get_or-set_other}
use Rattle.reached.specs.Meet.{is_in, Marks}
use Rattle.reached.proofs.Members.{in-none, last-in, before_same}

-- zeros mark no number
pub marks-none : (marks : List ℕ) → marks ≡ replicate (length marks) 0 → Marks [] marks
marks-none marks h i k =
    let z : get_or marks i 0 ≡ 0 = ap (λ l. get_or l i 0) h ∙ get_or-replicate (length marks) i 0 0 k in
    in-none (i + 1) ∙ rw (eq-eqb _ 0 z)

module _ (seen marks : List ℕ) (n : ℕ) (m : Marks seen marks) (s : 1 ≤ n) (h : n ≤ length marks) where
  -- the mark of a number
  marked : is_in n seen ≡ not (eqb (get_or marks (n - 1) 0) 0)
  marked = let e : n - 1 + 1 ≡ n = omega arith in rw e at (m (n - 1) (omega arith))

  -- a number with a mark
  pub marks-in : (get_or marks (n - 1) 0 ≡ 0 → ⊥) → is_in n seen ≡ true
  marks-in z = marked ∙ rw (ne_eqb _ 0 z)

  -- a number without one
  pub marks-out : get_or marks (n - 1) 0 ≡ 0 → is_in n seen ≡ false
  marks-out z = marked ∙ rw (eq-eqb _ 0 z)

  -- one mark more
  pub marks-more : (x : ℕ) → 1 ≤ x → Marks (seen ++ (n ∷ [])) (set marks (n - 1) x)
  marks-more x o i k = go (ℕ_discrete (i + 1) n)
    where
      p : i < length marks
      p = rw (length-set marks (n - 1) x) at k

      go : Dec (i + 1 ≡ n) → is_in (i + 1) (seen ++ (n ∷ [])) ≡ not (eqb (get_or (set marks (n - 1) x) i 0) 0)
      go (yes e) =
          let q : n - 1 ≡ i = omega arith in
          let z : x ≡ 0 → ⊥ = λ f. omega arith in
          last-in (i + 1) n seen e ∙ rw (q, get_or-set_same marks i x 0 p, ne_eqb x 0 z)
      go (no e) =
          let q : i ≡ n - 1 → ⊥ = omega (arith, e) in
          before_same (i + 1) n seen e ∙ rw (get_or-set_other marks (n - 1) i x 0 q) (m i p)
