-- The roots of an export, checked from the first to the last.
use mathlib.Core.Path.{◌≡◌, sym, ◌∙◌}
use mathlib.Core.Bool.{Bool, true, false, ◌&&◌}
use mathlib.Core.List.{List}
use Prim.Native.Nat.{ℕ, ◌+◌, ◌≤◌, ◌<◌}
use native.Mathlib.Numerals.{add-one}
use lib.Dec.{leb}
use lib.ListN.{length, get_or, drop, drop_of_length-le}
use lib.Seq.{drop-cons}
use lib.IntN.{ℤ, pos, nat_abs}
use borrow.Author.Tests.{le-leb, lt-leb}
use Rattle.codes.specs.Limits.{root_limit}
use Rattle.exported.specs.Export.{all_roots, roots_fit}

-- an edge of a store with this count
abbrev is_root : ℕ → ℤ → Bool
is_root count r = leb 1 (nat_abs r) && leb (nat_abs r) count

module _ (count : ℕ) (roots : List ℤ) where
  -- the first i are fit, so that the rest decides
  pub record RootsFrom (i : ℕ) : Type 0 where
    pub rest : roots_fit count roots ≡ all_roots count (drop i roots)

  -- there are too many
  pub roots-many : root_limit < length roots → false ≡ roots_fit count roots
  unfolding roots_fit
  roots-many h = rw (lt-leb (length roots) root_limit h)

  -- there are not: then each decides
  pub roots-start : length roots ≤ root_limit → RootsFrom 0
  unfolding roots_fit
  roots-start h = record { rest = rw (le-leb (length roots) root_limit h) }

  module _ (i : ℕ) (k : RootsFrom i) where
    -- the root at i decides, and then those after it
    turned : i < length roots → roots_fit count roots ≡ (is_root count (get_or roots i (pos 0)) && all_roots count (drop (i + 1) roots))
    unfolding all_roots
    turned h = k.rest ∙ rw (add-one i, drop-cons roots i (pos 0) h)

    -- one root more is fit
    pub roots-more : i < length roots → is_root count (get_or roots i (pos 0)) ≡ true → RootsFrom (i + 1)
    roots-more h t = record { rest = turned h ∙ rw t }

    -- a root is unfit
    pub roots-unfit : i < length roots → is_root count (get_or roots i (pos 0)) ≡ false → false ≡ roots_fit count roots
    roots-unfit h t = sym (turned h ∙ rw t)

    -- all roots are fit
    pub roots-end : length roots ≤ i → true ≡ roots_fit count roots
    unfolding all_roots
    roots-end h = sym (k.rest ∙ rw (drop_of_length-le roots h))
