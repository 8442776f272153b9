-- A list in two parts: its first entries, and the rest.
use mathlib.Core.Path.{◌≡◌, refl, sym, ap, ◌∙◌}
use mathlib.Core.List.{List, [], ◌∷◌, ◌++◌, map, append-nil}
use Prim.Native.Nat.{ℕ, ◌-◌, ◌≤◌, ◌<◌}
use native.Mathlib.Omega.{arith}
use lib.ListN.{length, get_or, length-append, get_or-append}
use lib.Seq.{append_snoc, get_or-append_seam}
use Rattle.seats.specs.Seats.{seat_of}
use Rattle.export_nodes.proofs.Renumbered.{seat-back}
use Rattle.seats.proofs.MappedEntries.{mapped_at}

-- the two make the whole
pub record Parts (l before rest : List ℕ) : Type 0 where
  pub whole : before ++ rest ≡ l

-- at first nothing stands before
pub parts-start : (l : List ℕ) → Parts l [] l
parts-start l = record { whole = refl }

-- in the end all of it does
pub parts-end : (l : List ℕ) → Parts l l []
parts-end l = record { whole = append-nil l }

module _ {l before rest : List ℕ} {n : ℕ} (p : Parts l before (n ∷ rest)) where
  -- the first entry of the rest ..
  pub parts_low : length before < length l
  parts_low = omega (arith, length-append before (n ∷ rest), ap length p.whole)

  pub parts-here : get_or l (length before) 0 ≡ n
  parts-here = ap (λ m. get_or m (length before) 0) (sym p.whole) ∙ get_or-append_seam before n rest 0

  -- .. joins those before it
  pub parts_more : Parts l (before ++ (n ∷ [])) rest
  parts_more = record { whole = append_snoc before n rest ∙ p.whole }

-- Where a number stands among the first entries, what a list says of those it says of the number.
pub seat-early : (x : ℕ) (l : List ℕ) → 1 ≤ seat_of x l → {A : Type 0} (g : ℕ → A) (d : A) {before rest : List ℕ} → Parts l before rest
    → seat_of x l ≤ length before → get_or (map g before) (seat_of x l - 1) d ≡ g x
seat-early x l h g d {before} {rest} p k =
    let s = seat_of x l - 1 in
    let i : s < length before = omega arith in
    mapped_at g before s 0 d i
    ∙ ap g (sym (get_or-append before rest 0 s i) ∙ ap (λ m. get_or m s 0) p.whole ∙ seat-back x l h)
