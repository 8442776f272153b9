-- The end of a file: `.end`, and white space after it.
use mathlib.Core.Path.{◌≡◌, sym, ◌∙◌}
use mathlib.Core.Bool.{Bool, true, false}
use mathlib.Core.List.{List}
use Prim.Native.Nat.{ℕ, ◌-◌, ◌<◌}
use native.Mathlib.Omega.{arith}
use lib.Dec.{eqb}
use lib.ListN.{length, take, drop, length-take, length-drop}
use lib.Pointwise.{pointwise}
use lib.Seq.{take_all}
use Rattle.std.specs.List.{slice_range}
use Rattle.std.proofs.lemmas.List.{drop-drop}
use Rattle.read_text.specs.Alike.{alike}
use Rattle.read_text.proofs.Alike.{alike-lengths, pointwise_alike}
use Rattle.imported.specs.Import.{blank_all, end_word, ends_well}

-- no byte at the position, nor after it
pub ends-past : (f : List ℕ) (at : ℕ) → length f < at → false ≡ ends_well f at
unfolding ends_well
ends-past f at h = rw (alike-lengths (take 4 (drop at f)) end_word (λ e. absurd (omega (arith, e, length-take 4 (drop at f), length-drop at f))))

-- The rest from the position on, whose first four bytes the library compares with `.end`.
module _ (f : List ℕ) (at : ℕ) {rest : List ℕ} (r : rest ≡ slice_range f at (length f)) {b : Bool} (p : pointwise eqb (take 4 rest) end_word ≡ b) where
  rest-is : rest ≡ drop at f
  rest-is = r ∙ take_all (length f - at) (drop at f) (simp length-drop (omega arith))

  word-is : alike (take 4 (drop at f)) end_word ≡ b
  word-is = rw (← rest-is) (sym (pointwise_alike (take 4 rest) end_word) ∙ p)

  -- another word
  pub ends-other : b ≡ false → false ≡ ends_well f at
  unfolding ends_well
  ends-other q = rw (word-is, q)

  -- it is there
  pub ends_so : b ≡ true → {after : List ℕ} → after ≡ drop 4 rest → {c : Bool} → c ≡ blank_all after → c ≡ ends_well f at
  unfolding ends_well
  ends_so q t k = rw (word-is, q, ← drop-drop 4 at f, ← rest-is, ← t) k
