-- Turns, computed by hand: a store of document 01's size, with two levels, two nodes beside node 1 and three slots, turned into four slots.
use mathlib.Core.Path.{◌≡◌, refl}
use mathlib.Core.Bool.{true}
use mathlib.Core.List.{List, [], ◌∷◌}
use Prim.Native.Nat.{ℕ}
use lib.ListN.{replicate, set}
use lib.IntN.{pos, negsuc}
use Rattle.codes.specs.Answer.{refused}
use Rattle.codes.specs.Faults.{first_fault}
use Rattle.codes.specs.Lent.{laid}
use Rattle.store.specs.Store.{Store, store}
use Rattle.widened.specs.Widen.{NewLengths, takes, widen_fault, widened, zeroed, widen_answer}

-- node 2 says level 1, in bucket 1 + 3 × 1 - 5 = 255; node 3 says both levels, in bucket 0 + 3 × 2 - 5 = 1
abbrev heads : List ℕ
heads = set (set (replicate 256 0) 255 2) 1 3

abbrev small : Store
small = store 2 3 (0 ∷ 1 ∷ 0 ∷ []) (pos 0 ∷ pos 1 ∷ pos 2 ∷ []) (pos 0 ∷ negsuc 0 ∷ negsuc 0 ∷ []) (0 ∷ 0 ∷ 0 ∷ []) heads

abbrev lengths : ℕ → ℕ → NewLengths
lengths slots heads = record { level = slots; then = slots; els = slots; next = slots; heads = heads }

-- every node stands in its slot, and the fourth slot is zero
turned-small : widened 4 small
    ≡ store 2 3 (0 ∷ 1 ∷ 0 ∷ 0 ∷ []) (pos 0 ∷ pos 1 ∷ pos 2 ∷ pos 0 ∷ []) (pos 0 ∷ negsuc 0 ∷ negsuc 0 ∷ pos 0 ∷ []) (0 ∷ 0 ∷ 0 ∷ 0 ∷ []) heads
unfolding widened laid
turned-small = refl

-- as many slots as nodes are enough, one less is refused, and so are 257 heads
enough : takes (lengths 3 256) 3 ≡ true
enough = refl

slot-short : widen_answer (lengths 2 256) small ≡ refused 1
unfolding widen_fault first_fault
slot-short = refl

head-over : widen_answer (lengths 4 257) small ≡ refused 1
unfolding widen_fault first_fault
head-over = refl

-- what a refusal leaves
left-zero : zeroed (lengths 2 3) 5 ≡ store 5 0 (0 ∷ 0 ∷ []) (pos 0 ∷ pos 0 ∷ []) (pos 0 ∷ pos 0 ∷ []) (0 ∷ 0 ∷ []) (0 ∷ 0 ∷ 0 ∷ [])
unfolding zeroed
left-zero = refl
