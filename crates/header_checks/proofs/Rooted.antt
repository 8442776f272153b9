-- Laws of the checks of the roots.
use mathlib.Core.Path.{◌≡◌, sym, ap, ◌∙◌}
use mathlib.Core.List.{List}
use Prim.Native.Nat.{ℕ, ◌≤◌}
use native.Mathlib.Omega.{arith}
use lib.IntN.{ℤ}
use lib.ListN.{length, take, length-take}
use Rattle.codes.specs.Limits.{root_limit}
use Rattle.header_lines.specs.Sweep.{Span}
use Rattle.header_keys.specs.declared.Key.TheVariants.{Rootnames}
use Rattle.file_roots.specs.Roots.{roots_fault}
use Rattle.header_values.specs.Values.{nnodes_in, nroots_in, names_in, roots_in}
use Rattle.codes.specs.Faults.{first_fault}
use Rattle.header_checks.specs.Whole.{count_fault, given_fault, root_faults}
use Rattle.codes.specs.Refusals.{number_of}
use Rattle.codes.specs.declared.refusal.Refusal.{Refusal}
use Rattle.codes.proofs.Faults.{last-check}
use Rattle.codes.proofs.Numbered.{refuses-with, passes-on}

-- a list that begins with n entries reaches as far
pub front-reach : {A : Type 0} (dst : List A) {n : ℕ} {rs : List A} → n ≡ length rs → take n dst ≡ rs → n ≤ length dst
front-reach dst {n} e r = omega (arith, length-take n dst, ap length r)

-- and its front has n entries
pub front-count : {A : Type 0} (dst : List A) {n : ℕ} {rs : List A} → n ≡ length rs → take n dst ≡ rs → n ≡ length (take n dst)
front-count dst e r = e ∙ sym (ap length r)

module _ (f : List ℕ) (t : List Span) where
  -- how many roots there must be, and how many there are
  module _ {nroots n : ℕ} (w : nroots ≡ nroots_in f t) (p : n ≡ length (roots_in f t)) where
    -- too many roots or too few
    pub roots-wrong : (x : Refusal) → number_of x ≡ count_fault nroots n → number_of x ≡ first_fault (root_faults f t)
    unfolding root_faults
    roots-wrong x e = refuses-with x _ (rw (w, p) at e)

    -- as many as there must be: the answer about them
    module _ (h : 0 ≡ count_fault nroots n) {nnodes : ℕ} {roots : List ℤ} (v : nnodes ≡ nnodes_in f t) (r : roots ≡ roots_in f t) where
      -- one has a fault
      pub root-unfit : (x : Refusal) → number_of x ≡ roots_fault nnodes roots → number_of x ≡ first_fault (root_faults f t)
      unfolding root_faults
      root-unfit x e = refuses-with x _ (rw (v, r) at e) ∙ passes-on _ (rw (w, p) at h)

      -- none has one: the names of the roots decide
      pub roots-pass : 0 ≡ roots_fault nnodes roots → {a y : ℕ} → a ≡ length (names_in root_limit f t Rootnames) → y ≡ given_fault nroots a
          → y ≡ first_fault (root_faults f t)
      unfolding root_faults
      roots-pass e k g = rw (w, k) at g ∙ last-check _ ∙ passes-on _ (rw (v, r) at e) ∙ passes-on _ (rw (w, p) at h)
