-- A list that is being changed entry by entry.
use mathlib.Core.Path.{◌≡◌, sym, ◌∙◌}
use mathlib.Core.List.{List, map}
use Prim.Native.Nat.{ℕ, ◌≤◌, ◌<◌}
use native.Mathlib.Omega.{arith}
use lib.ListN.{length, get_or, length-map, get_or-map}
use lib.Seq.{ext_get_or}
use Rattle.imported.proofs.ChildEdge.{within}

-- its first i entries are what g makes of them, and the others are as they were
pub record Mapped {A : Type 0} (d : A) (g : A → A) (old l : List A) (i : ℕ) : Type 0 where
  pub long : length l ≡ length old
  pub done : (k : ℕ) → k < i → k < length old → get_or l k d ≡ g (get_or old k d)
  pub rest : (k : ℕ) → i ≤ k → get_or l k d ≡ get_or old k d

-- all of them
pub mapped_end : {A : Type 0} {d : A} {g : A → A} {old l : List A} {i : ℕ} → Mapped d g old l i → length l ≤ i → l ≡ map g old
mapped_end {d = d} {g = g} {old = old} {l = l} c h = ext_get_or d l (map g old) (c.long ∙ sym (length-map old g)) same
  where
    same : (k : ℕ) → k < length l → get_or l k d ≡ get_or (map g old) k d
    same k p =
        c.done k (omega arith) (omega (arith, c.long)) ∙ sym (get_or-map g old k d)
        ∙ within (map g old) k (g d) d (omega (arith, c.long, length-map old g))
