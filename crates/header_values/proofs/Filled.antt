-- Lists that were read into lent lists: what the reader gave is what the key's last value says.
use mathlib.Core.Path.{◌≡◌, refl, sym, ap, ◌∙◌}
use mathlib.Core.List.{List, []}
use Prim.Native.Nat.{ℕ, ◌≤◌}
use native.Mathlib.Omega.{arith}
use lib.ListN.{length, take, replicate}
use Rattle.std.specs.Prelude.{Result, Ok, Err}
use Rattle.std.specs.Result.{result_unwrap_or}
use Rattle.codes.specs.Answer.{Read, value, refused}
use Rattle.codes.specs.Lent.{laid}
use Rattle.codes.specs.Refusals.{read_of}
use Rattle.codes.specs.declared.refusal.Refusal.{Refusal}
use Rattle.read_lists.specs.Lists.{Listed}
use Rattle.header_values.specs.Values.{value_or, entries_by, entries_of, pad}
use Rattle.header_values.proofs.Counted.{refused_none}
use Rattle.header_values.proofs.Padded.{take-laid, pad-again}

-- a count that was read, or 0
pub unwrapped : (r : Result ℕ Refusal) → result_unwrap_or r 0 ≡ value_or 0 (read_of r)
unwrapped (Ok n) = refl
unwrapped (Err r) = refl

-- a list that was read keeps its entries,
by-given : {A : Type 0} (es : List A) (r : Read ℕ) {n : ℕ} → value n ≡ r → es ≡ entries_by es r
by-given es (value m) e = refl
by-given es (refused m) e = refused_none (sym e)

-- a refused one has none
by-none : {A : Type 0} (es : List A) (r : Read ℕ) {n : ℕ} → refused n ≡ r → [] ≡ entries_by es r
by-none es (value m) e = refused_none e
by-none es (refused m) e = refl

-- Where the entries of a list, or a part of each, were laid over the front of a lent list:
module _ {A B : Type 0} (g : List A → List B) (z : g [] ≡ []) (same : (es : List A) → length (g es) ≡ length es) where
  by_front : (es : List A) (a : Read ℕ) {r : ℕ} (old : List B) {dst : List B} → r ≡ length (entries_by es a) → dst ≡ laid (g es) old
      → length (entries_by es a) ≤ length old → take r dst ≡ g (entries_by es a)
  by_front es (value n) old c d h = rw (c ∙ sym (same es), d) (take-laid (g es) old (omega (arith, same es)))
  by_front es (refused n) old c d h = rw c (sym z)

  -- as many as there are stand at the front of a list that has room for them
  pub given-front : (l : Listed A) {r : ℕ} (old : List B) {dst : List B} → r ≡ length (entries_of l) → dst ≡ laid (g l.entries) old
      → length (entries_of l) ≤ length old → take r dst ≡ g (entries_of l)
  given-front l old c d h = by_front l.entries l.answer old c d h

module _ {A : Type 0} (l : Listed A) (g : List A → List ℕ) (k : ℕ) {old dst : List ℕ} (o : old ≡ replicate k 0) (d : dst ≡ laid (g l.entries) old) where
  -- a lent list of zeros holds them, and zeros,
  pub given-pad : {n : ℕ} → value n ≡ l.answer → dst ≡ pad k (g (entries_of l))
  given-pad r = d ∙ ap (laid (g l.entries)) o ∙ ap (λ es. pad k (g es)) (by-given l.entries l.answer r)

  -- and so it does where they were refused and it was cleared again
  pub emptied-pad : {n : ℕ} {out : List ℕ} → g [] ≡ [] → refused n ≡ l.answer → out ≡ replicate (length dst) 0 → out ≡ pad k (g (entries_of l))
  emptied-pad z r c = pad-again k (g l.entries) o d c ∙ ap (pad k) (sym z ∙ ap g (by-none l.entries l.answer r))
