-- The last value of each key: a line more, and the table's entries.
use mathlib.Core.Path.{◌≡◌, refl}
use mathlib.Core.Bool.{cond}
use mathlib.Core.List.{List, [], ◌∷◌, ◌++◌, map}
use Prim.Native.Nat.{◌<◌}
use lib.Dec.{eqb}
use lib.ListN.{get_or, set}
use Rattle.header_keys.specs.declared.Key.{Key}
use Rattle.header_keys.specs.Keys.{slot_of, entry_of}
use Rattle.header_lines.specs.Sweep.{Span, no_span, Said, last_from, last_of, lasts, keys}
use Rattle.header_lines.proofs.Entries.{entry_at, entry_set}

-- the law from any last value so far
last-from-more : (v : Span) (k : Key) (ss : List Said) (s : Said)
    → last_from v k (ss ++ (s ∷ [])) ≡ cond (eqb (slot_of k) (entry_of s.key)) s.value (last_from v k ss)
unfolding last_from
last-from-more v k [] s = refl
last-from-more v k (t ∷ ss) s = last-from-more (cond (eqb (slot_of k) (entry_of t.key)) t.value v) k ss s

-- the last value of a key, after a line more
last_more : (k : Key) (ss : List Said) (s : Said)
    → last_of k (ss ++ (s ∷ [])) ≡ cond (eqb (slot_of k) (entry_of s.key)) s.value (last_of k ss)
unfolding last_of
last_more k ss s = last-from-more no_span k ss s

-- a list with a part of each last value, after a line more: the entry of the line's key is set
pub lasts-more : {B : Type 0} (part : Span → B) (ss : List Said) (s : Said)
    → set (map part (lasts ss)) (entry_of s.key) (part s.value) ≡ map part (lasts (ss ++ (s ∷ [])))
unfolding lasts
lasts-more part ss s = simp last_more (entry_set part (λ k. last_of k ss) s.key s.value)

-- the table's entry of a key is the key's last value
pub last-at : (k : Key) (ss : List Said) → slot_of k < keys → get_or (lasts ss) (slot_of k) no_span ≡ last_of k ss
unfolding lasts
last-at k ss h = entry_at (λ j. last_of j ss) no_span k h
