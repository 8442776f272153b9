-- Laws of a line's support position, and of its place above its children.
use mathlib.Core.Path.{◌≡◌, refl, ◌∙◌}
use mathlib.Core.Bool.{Bool, true, false}
use mathlib.Core.List.{List, [], ◌∷◌}
use Prim.Native.Nat.{ℕ, zero, suc, ◌-◌, ◌≤◌, ◌<◌}
use native.Mathlib.Omega.{arith}
use lib.ListN.{length, get_or}
use lib.IntN.{ℤ, pos, neg_ℤ, nat_abs, ◌-ℤ◌}
use Rattle.edges.specs.Width.{edge_width, edge_limit}
use mir.Val.{SFits, to_z, of_z}
use mir.Facts.{to_z_pos, to_z-of_z}
use borrow.Author.Tests.{lt-ltb, le-ltb}
use types.Run.{OneOf, miss}
use denote.Enum.Declared.{tag_of}
use Rattle.codes.specs.Answer.{Step, got, fails}
use Rattle.codes.specs.declared.Code.{Code}
use Rattle.codes.specs.declared.Code.TheVariants.{Terminal, AbsoluteID, RelativeID, Relative1}
use Rattle.codes.specs.contracts.Code.{the_type}
use Rattle.edges.proofs.Edge.{abs_neg}
use Rattle.edges.proofs.Signed.{edge-back, negation-fits, negation-back}
use Rattle.read_edges.specs.Edges.{signed}
use Rattle.node_lines.specs.Line.{Line, inner, deeper}
use Rattle.import_bin.specs.Bin.{counts_from, counted_down, position_by, placed_at, resolved}

-- What a relative variable counts down from, by the seats of the children.

-- then is a terminal: else's position
pub counts-else : (count t e : ℕ) → t ≡ 0 → (e ≡ 0 → ⊥) → counts_from count t e ≡ e - 1
counts-else count t zero z h = absurd (h refl)
counts-else count t (suc e) z h = rw z (omega arith)

-- else is a terminal: then's position
pub counts-then : (count t e : ℕ) → (t ≡ 0 → ⊥) → e ≡ 0 → counts_from count t e ≡ t - 1
counts-then count zero e h z = absurd (h refl)
counts-then count (suc t) e h z = rw z (omega arith)

-- then's position is smaller
pub counts-less : (count t e : ℕ) → (t ≡ 0 → ⊥) → t < e → counts_from count t e ≡ t - 1
counts-less count zero e h k = absurd (h refl)
counts-less count (suc t) zero h k = absurd (omega arith)
counts-less count (suc t) (suc e) h k = rw (lt-ltb t e (omega arith)) (omega arith)

-- then's position isn't smaller: else's
pub counts-other : (count t e : ℕ) → (e ≡ 0 → ⊥) → (t ≡ 0 → ⊥) → e ≤ t → counts_from count t e ≡ e - 1
counts-other count t zero h z k = absurd (h refl)
counts-other count zero (suc e) h z k = absurd (z refl)
counts-other count (suc t) (suc e) h z k = rw (le-ltb t e (omega arith)) (omega arith)

module _ (from v : ℕ) where
  -- counting down below 0
  down-under : from < v → counted_down from v ≡ fails 34
  down-under h = rw (lt-ltb from v)

  -- counting down to 0 or more
  down_fits : v ≤ from → counted_down from v ≡ got (from - v) 0
  down_fits h = rw (le-ltb from v)

-- codes 2 and 3 count down
by_down : (code : Code) (from v : ℕ) → OneOf (2 ∷ 3 ∷ []) (tag_of the_type code) → position_by code from v ≡ counted_down from v
by_down Terminal from v h = absurd (miss (2 ∷ 3 ∷ []) 0 tt h)
by_down AbsoluteID from v h = absurd (miss (2 ∷ 3 ∷ []) 1 tt h)
by_down RelativeID from v h = refl
by_down Relative1 from v h = refl

-- The support position, by its code.
module _ (code : Code) (from v : ℕ) where
  -- code 1 writes it
  pub position-written : code ≡ AbsoluteID → position_by code from v ≡ got v 0
  position-written e = rw e

  module _ (h : OneOf (2 ∷ 3 ∷ []) (tag_of the_type code)) where
    -- codes 2 and 3 count down, below 0
    pub position-under : from < v → position_by code from v ≡ fails 34
    position-under k = by_down code from v h ∙ down-under from v k

    -- and to 0 or more
    pub position-down : v ≤ from → position_by code from v ≡ got (from - v) 0
    position-down k = by_down code from v h ∙ down_fits from v k

-- A number below the limit of edges is an edge, and so is its negation.
module _ (n : ℕ) (h : n < edge_limit) where
  -- the negation, which the code takes from 0, fits
  pub minus-fits : SFits edge_width (pos 0 -ℤ to_z edge_width n)
  minus-fits = negation-fits edge_width (pos n) h

  -- and is read back as the negation
  pub minus_is : to_z edge_width (of_z edge_width (pos 0 -ℤ to_z edge_width n)) ≡ neg_ℤ (pos n)
  minus_is = negation-back edge_width (pos n) h

  -- without a minus the number is read as it is
  pub plain-is : to_z edge_width n ≡ pos n
  plain-is = to_z_pos edge_width h

  -- with either sign the magnitude is the number
  signed-small : (complement : Bool) → nat_abs (signed complement n) < edge_limit
  signed-small true = rw (abs_neg (pos n)) h
  signed-small false = h

  -- either is read back as it was
  pub signed_back : (complement : Bool) {r : ℤ} → r ≡ signed complement n → to_z edge_width (of_z edge_width r) ≡ signed complement n
  signed_back complement k = rw k (edge-back edge_width (signed complement n) (signed-small complement))

module _ (levels seats : List ℕ) (t e : ℕ) (els : ℤ) (next p : ℕ) where
  -- a position beyond the level list
  pub placed_past : length levels ≤ p → placed_at levels seats t e els next p ≡ fails 34
  placed_past h = rw (le-ltb p (length levels))

  module _ (h : p < length levels) where
    -- then isn't deeper
    pub placed-then : deeper levels seats (get_or levels p 0) t ≡ false → placed_at levels seats t e els next p ≡ fails 36
    placed-then a = rw (lt-ltb p (length levels), a)

    module _ (a : deeper levels seats (get_or levels p 0) t ≡ true) where
      -- else isn't deeper
      pub placed-else : deeper levels seats (get_or levels p 0) e ≡ false → placed_at levels seats t e els next p ≡ fails 36
      placed-else b = rw (lt-ltb p (length levels), a, b)

      -- both are, and the children are edges
      pub placed-fits : deeper levels seats (get_or levels p 0) e ≡ true → {r : ℤ} → r ≡ signed false t → t < edge_limit → SFits edge_width els
          → placed_at levels seats t e els next p ≡ got (inner p (to_z edge_width (of_z edge_width r)) (to_z edge_width (of_z edge_width els))) next
      placed-fits b k l f = rw (lt-ltb p (length levels), a, b, k, to_z_pos edge_width l, to_z-of_z f)

-- A line with both children read, from what the code found: the seats of the children, what is counted down from, and the position.
module _ (count : ℕ) (levels seats : List ℕ) (code : Code) (v : ℕ) (complement : Bool) (t e next : ℕ) {a b from : ℕ}
    (ea : a ≡ get_or seats (t - 1) 0) (eb : b ≡ get_or seats (e - 1) 0) (ef : from ≡ counts_from count a b)
    {rp : Step ℕ} (ep : rp ≡ position_by code from v) where
  -- a position that is refused
  pub resolved-refused : {k : ℕ} → rp ≡ fails k → fails k ≡ resolved count levels seats code v complement t e next
  resolved-refused ip = rw (← ea, ← eb, ← ef, ← ep, ip)

  -- a position at which the line is placed
  pub resolved-placed : {p m : ℕ} {els : ℤ} {r : Step Line} → rp ≡ got p m → els ≡ signed complement e
      → r ≡ placed_at levels seats t e els next p → r ≡ resolved count levels seats code v complement t e next
  resolved-placed ip k l = rw (← ea, ← eb, ← ef, ← ep, ip, ← k) l
