-- Which numbers `recode` refuses with: never 2, 3, 4 or 6, since its level list fits, its store keeps the rules, its roots are edges of that
-- store, and its variable order is a permutation.
use mathlib.Core.Path.{◌≡◌, refl, sym, ◌∙◌}
use mathlib.Core.Logic.{◌⊎◌, inl, inr, ⊎_elim, ◌≢◌}
use mathlib.Core.Bool.{Bool, true, false, cond}
use mathlib.Core.List.{List}
use Prim.Native.Nat.{ℕ, zero, suc, ◌≤◌}
use native.Mathlib.Omega.{arith}
use lib.Dec.{ltb}
use lib.ListN.{length}
use Rattle.codes.specs.Limits.{limits, input_limit}
use Rattle.header_lines.specs.Sweep.{SweepEnd, at_nodes, refused_at, lines_of, end_of}
use Rattle.header_lines.proofs.HeaderEnd.{lines-numbers}
use Rattle.header_checks.specs.Whole.{whole_fault}
use Rattle.header_checks.proofs.WholeNumbers.{whole_numbers}
use Rattle.store.specs.Store.{Store}
use Rattle.header.specs.Header as head
use Rattle.header.specs.Header.{HeaderAnswer, table_of, settled, judged_header, read_of, after, length_fault}
use Rattle.exported.specs.Export.{Export, export_by, export_fault_of, export_file_of, export_of}
use Rattle.calls.proofs.HeaderStands.{no_header, lists-answer}
use Rattle.recoding.specs.Recode.{refusal, input_most, head_read, loaded_at, reload_of, export_again, of_read, refuse_file, after_load, after_header, recode_of}
use Rattle.recoding.specs.RecodeNumbers.{RecodeNumber}
use Rattle.recoding.proofs.Fitting.{refused_none}
use Rattle.recoding.proofs.RecodeLoads.{load-refuses, export-refuses}

-- a refusal of the header by itself is one of the file's writer
module _ (f : List ℕ) (n line : ℕ) where
  -- of the header as a whole
  settled-low : (next lines m : ℕ) → whole_fault limits f (table_of f) ≡ m → settled f (table_of f) next lines m ≡ head.refusal n line → 10 ≤ n
  settled-low next lines zero e q = no_header (sym q)
  settled-low next lines (suc m) e q =
      let s : suc m ≡ n = cc in
      ⊎_elim (λ z. absurd (omega arith)) (λ w. omega (arith, w.0)) (whole_numbers limits f (table_of f) (suc m) e)

  -- of a line
  judged-low : (e : SweepEnd) → end_of f (lines_of f) ≡ e → judged_header limits f e ≡ head.refusal n line → 10 ≤ n
  judged-low (at_nodes next lines) e q = settled-low next lines (whole_fault limits f (table_of f)) refl q
  judged-low (refused_at m at) e q =
      let s : m ≡ n = cc in
      ⊎_elim (λ w. omega (arith, w.0)) (λ w. omega (arith, w.0.0)) (lines-numbers f (lines_of f) m at e)

  -- or 19, of the input's length
  after-low : (k : ℕ) → ((k ≡ 0) ⊎ (k ≡ 19)) → after limits k f ≡ head.refusal n line → 10 ≤ n
  unfolding read_of
  after-low zero w q = judged-low (end_of f (lines_of f)) refl q
  after-low (suc k) w q =
      let s : suc k ≡ n = cc in
      ⊎_elim (λ z. absurd (omega arith)) (λ z. omega arith) w

  -- the input's length is refused with 19 or not
  length-19 : (length_fault limits (length f) ≡ 0) ⊎ (length_fault limits (length f) ≡ 19)
  unfolding length_fault
  length-19 = go (ltb input_limit (length f)) refl
    where
      go : (b : Bool) → ltb input_limit (length f) ≡ b → (length_fault limits (length f) ≡ 0) ⊎ (length_fault limits (length f) ≡ 19)
      go true e = inr (rw (length_fault, e))
      go false e = inl (rw (length_fault, e))

  -- the header that is read first
  head-low : (head_read limits f).answer ≡ head.refusal n line → 10 ≤ n
  unfolding head_read head.load_header
  head-low q = after-low (length_fault limits (length f)) length-19 (sym (lists-answer f (after limits (length_fault limits (length f)) f)) ∙ q)

-- one refusal is the other
same_number : {n line k at : ℕ} → refusal k at ≡ refusal n line → k ≡ n
same_number e = cc

module _ (f : List ℕ) (lent n line : ℕ) where
  -- an export refuses with the number of its fault
  export-number : (x : Export) (τ : Store) → of_read (export_of limits x τ).answer ≡ refusal n line
      → (k : ℕ) × ((export_fault_of limits x τ ≡ suc k) × (suc k ≡ n))
  export-number x τ w = go (export_fault_of limits x τ) refl w
    where
      go : (k : ℕ) → export_fault_of limits x τ ≡ k → of_read (export_by k (export_file_of x τ) x.out).answer ≡ refusal n line
          → (k : ℕ) × ((export_fault_of limits x τ ≡ suc k) × (suc k ≡ n))
      go zero e w = refused_none (sym w)
      go (suc k) e w = (k, (e, same_number w))

  module _ (h : head.Header) (read : (head_read limits f).answer ≡ head.header h) where
    -- by what the load answered
    reload-number : (a : HeaderAnswer) → (reload_of limits f h).answer ≡ a → (after_load limits f (reload_of limits f h) a lent).answer ≡ refusal n line
        → RecodeNumber n
    unfolding loaded_at
    reload-number (head.refusal k at) e w =
        let s = same_number w in
        ⊎_elim (λ z. inl (sym s ∙ z)) (λ z. inr (inr (omega arith))) (load-refuses f h read k at e)
    reload-number (head.header g) e w =
        let r = export-number (export_again f g (reload_of limits f h) lent) (reload_of limits f h).after w in
        ⊎_elim (λ z. inl (sym r.1.1 ∙ z)) (λ z. inr (inl (sym r.1.1 ∙ z))) (export-refuses f h read g e _ _ _ _ r.0 r.1.0)

  -- by what the header's reading answered
  head-number : (a : HeaderAnswer) → (head_read limits f).answer ≡ a → (after_header limits f a lent).answer ≡ refusal n line → RecodeNumber n
  head-number (head.refusal k at) e w = inr (inr (omega (arith, same_number w, head-low f k at e)))
  head-number (head.header h) e w = reload-number h e (reload_of limits f h).answer refl w

  -- A refusal of `recode` is 1, 5 or from 10 on.
  pub recode-number : (recode_of limits f lent).answer ≡ refusal n line → RecodeNumber n
  unfolding recode_of
  recode-number w = go (ltb input_most (length f)) w
    where
      go : (long : Bool) → (cond long (refuse_file 19 0 lent) (after_header limits f (head_read limits f).answer lent)).answer ≡ refusal n line
          → RecodeNumber n
      go true w = inr (inr (omega (arith, same_number w)))
      go false w = head-number (head_read limits f).answer refl w

  -- So the program never answers 2, 3, 4 or 6: its own level list, store, roots and variable order are never at fault.
  pub recode-never : (recode_of limits f lent).answer ≡ refusal n line → (n ≢ 2) × ((n ≢ 3) × ((n ≢ 4) × (n ≢ 6)))
  recode-never w = go (recode-number w)
    where
      go : RecodeNumber n → (n ≢ 2) × ((n ≢ 3) × ((n ≢ 4) × (n ≢ 6)))
      go (inl a) = (λ z. omega arith, (λ z. omega arith, (λ z. omega arith, λ z. omega arith)))
      go (inr (inl a)) = (λ z. omega arith, (λ z. omega arith, (λ z. omega arith, λ z. omega arith)))
      go (inr (inr a)) = (λ z. omega arith, (λ z. omega arith, (λ z. omega arith, λ z. omega arith)))
