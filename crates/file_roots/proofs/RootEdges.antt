-- Laws of roots: their faults, and the edges that they are.
use mathlib.Core.Path.{◌≡◌, refl, sym, ap, ◌∙◌}
use mathlib.Core.Logic.{◌↔◌}
use mathlib.Core.Bool.{Bool, true, false, cond}
use mathlib.Core.List.{List, [], ◌∷◌, ◌++◌, map, append-nil, append_assoc}
use Prim.Native.Nat.{ℕ, zero, suc, ◌+◌, ◌^◌, ◌≤◌, ◌<◌}
use native.Mathlib.Omega.{arith}
use native.Mathlib.Decide.{dec_lt, ℕ_discrete}
use native.Mathlib.Numerals.{add-one}
use lib.IntN.{ℤ, pos, nat_abs}
use lib.ListN.{length, get_or, drop, set, length-append, drop_of_length-le}
use lib.Seq.{drop-cons, set_out}
use lib.Dec.{ltb}
use borrow.Author.Tests.{ltb-false, lt-ltb, le-ltb, eq-eqb, ne_eqb}
use mir.Syntax.{Width}
use mir.Val.{SFits, hbits, to_z, of_z}
use mir.ValLaws.{to_z-of_z}
use Rattle.edges.proofs.Signed.{edge-fits, edge-back, abs-back}
use Rattle.codes.specs.Limits.{node_limit}
use Rattle.codes.specs.Lent.{laid}
use Rattle.codes.proofs.Lent.{length-laid, laid_more, laid_none}
use Rattle.file_roots.specs.Roots.{RootsAllowed, roots_fault, edge_of}

module _ (n : ℕ) (r : ℤ) (rs : List ℤ) where
  -- a root that is 0
  root-zero : nat_abs r ≡ 0 → roots_fault n (r ∷ rs) ≡ 25
  unfolding roots_fault
  root-zero h = rw (eq-eqb (nat_abs r) 0 h)

  -- a root beyond the nodes
  root_over : (nat_abs r ≡ 0 → ⊥) → n < nat_abs r → roots_fault n (r ∷ rs) ≡ 26
  unfolding roots_fault
  root_over h k = rw (ne_eqb (nat_abs r) 0 h, lt-ltb n (nat_abs r) k)

  -- a root without a fault: the others decide
  root-fits : (nat_abs r ≡ 0 → ⊥) → nat_abs r ≤ n → roots_fault n (r ∷ rs) ≡ roots_fault n rs
  unfolding roots_fault
  root-fits h k = rw (ne_eqb (nat_abs r) 0 h, le-ltb n (nat_abs r) k)

module _ (n : ℕ) (rs : List ℤ) (i : ℕ) (s : roots_fault n rs ≡ roots_fault n (drop i rs)) where
  -- no roots are left
  pub faults-end : length rs ≤ i → roots_fault n rs ≡ 0
  unfolding roots_fault
  faults-end h = s ∙ rw (drop_of_length-le rs h)

  module _ (h : i < length rs) {m : ℕ} (e : m ≡ nat_abs (get_or rs i (pos 0))) where
    -- the first root that is left is 0
    pub faults-zero : m ≡ 0 → roots_fault n rs ≡ 25
    faults-zero z = s ∙ ap (roots_fault n) (drop-cons rs i (pos 0) h) ∙ root-zero n _ _ (sym e ∙ z)

    module _ (z : m ≡ 0 → ⊥) where
      -- it is beyond the nodes
      pub faults-over : n < m → roots_fault n rs ≡ 26
      faults-over k = s ∙ ap (roots_fault n) (drop-cons rs i (pos 0) h) ∙ root_over n _ _ (λ q. z (e ∙ q)) (rw e at k)

      -- it has no fault
      pub faults-more : m ≤ n → roots_fault n rs ≡ roots_fault n (drop (i + 1) rs)
      faults-more k = rw add-one (s ∙ ap (roots_fault n) (drop-cons rs i (pos 0) h) ∙ root-fits n _ _ (λ q. z (e ∙ q)) (rw e at k))

-- a root beyond the nodes that a file may have is no edge
pub edge_none : (r : ℤ) → node_limit < nat_abs r → edge_of r ≡ pos 0
unfolding edge_of
edge_none r h = rw (lt-ltb node_limit (nat_abs r) h)

-- any other is itself as an edge
pub edge_same : (r : ℤ) → nat_abs r ≤ node_limit → edge_of r ≡ r
unfolding edge_of
edge_same r h = rw (le-ltb node_limit (nat_abs r) h)

-- The cast of a root r of one width to an edge of another.
module _ (w v : Width) (r : ℤ) (f : SFits w r) where
  -- its magnitude m, as the code found it
  abs_is : {m : ℕ} → m ≡ nat_abs (to_z w (of_z w r)) → m ≡ nat_abs r
  abs_is p = p ∙ abs-back w r f

  -- beyond the nodes that a file may have
  pub cast-none : {m : ℕ} → m ≡ nat_abs (to_z w (of_z w r)) → node_limit < m → edge_of r ≡ pos 0
  cast-none p h = edge_none r (rw (abs_is p) at h)

  module _ {m : ℕ} (p : m ≡ nat_abs (to_z w (of_z w r))) (h : m ≤ node_limit) (k : node_limit < 2 ^ hbits v) where
    -- any other fits the width of an edge
    pub cast_fits : SFits v (to_z w (of_z w r))
    cast_fits = rw (to_z-of_z w r f) (edge-fits v r (omega (arith, abs_is p)))

    -- and is itself there
    pub cast_is : to_z v (of_z v (to_z w (of_z w r))) ≡ edge_of r
    cast_is = rw (to_z-of_z w r f, edge-back v r (omega (arith, abs_is p))) (sym (edge_same r (omega (arith, abs_is p))))

-- an edge names one of the nodes that a file may have
pub edge-small : (r : ℤ) → nat_abs (edge_of r) ≤ node_limit
unfolding edge_of
edge-small r = go (ltb node_limit (nat_abs r)) refl
  where
    go : (b : Bool) → ltb node_limit (nat_abs r) ≡ b → nat_abs (cond b (pos 0) r) ≤ node_limit
    go true e = omega arith
    go false e = ltb-false node_limit (nat_abs r) e

-- an edge, as the code reads it
pub edge-read : (w v : Width) (r : ℤ) → SFits w r → node_limit < 2 ^ hbits v
    → {e : ℤ} → e ≡ edge_of (to_z w (of_z w r)) → to_z v (of_z v e) ≡ edge_of r
edge-read w v r f k p =
    ap (λ z. to_z v (of_z v z)) (p ∙ ap edge_of (to_z-of_z w r f)) ∙ edge-back v (edge_of r) (omega (arith, edge-small r))

-- the first i roots lie in a lent list, as edges
pub record Edged (rs old dst : List ℤ) (i : ℕ) : Type 0 where
  pub entries : List ℤ
  pub count : length entries ≡ i
  pub lies : dst ≡ laid entries old
  pub rest : map edge_of rs ≡ entries ++ map edge_of (drop i rs)

module _ (rs old : List ℤ) where
  -- at first there are none
  pub edged-start : Edged rs old old 0
  edged-start = record { entries = []; count = refl; lies = laid_none old; rest = refl }

  module _ (dst : List ℤ) (i : ℕ) (s : Edged rs old dst i) where
    -- the lent list keeps its length
    pub edged-length : length dst ≡ length old
    edged-length = rw s.lies (length-laid s.entries old)

    -- in the end all of them lie there
    pub edged-end : length rs ≤ i → dst ≡ laid (map edge_of rs) old
    edged-end h = s.lies ∙ ap (λ es. laid es old) (sym (s.rest ∙ rw (drop_of_length-le rs h) (append-nil s.entries)))

    module _ (h : i < length rs) where
      -- one root more
      pub edged-more : {e : ℤ} → e ≡ edge_of (get_or rs i (pos 0)) → Edged rs old (set dst i e) (i + 1)
      edged-more {e} q = record {
        entries = s.entries ++ (e ∷ []);
        count = length-append s.entries (e ∷ []) ∙ ap (λ k. k + 1) s.count;
        lies = rw (s.lies, ← s.count) (laid_more s.entries old e);
        rest = rw (add-one, append_assoc) (s.rest ∙ ap (λ l. s.entries ++ map edge_of l) (drop-cons rs i (pos 0) h) ∙ rw q);
      }

      -- one root more, where the lent list doesn't reach so far
      pub edged-past : length dst ≤ i → Edged rs old dst (i + 1)
      edged-past k = rw (set_out dst i (edge_of (get_or rs i (pos 0))) k) at (edged-more refl)

-- where no root has a fault the first one names a node and the others have none
no-fault : (n : ℕ) (r : ℤ) (rs : List ℤ) → roots_fault n (r ∷ rs) ≡ 0 → ((1 ≤ nat_abs r) × (nat_abs r ≤ n)) × (roots_fault n rs ≡ 0)
no-fault n r rs h = go (ℕ_discrete (nat_abs r) 0) (dec_lt n (nat_abs r))
  where
    go : Dec (nat_abs r ≡ 0) → Dec (n < nat_abs r) → ((1 ≤ nat_abs r) × (nat_abs r ≤ n)) × (roots_fault n rs ≡ 0)
    go (yes z) d = absurd (omega (arith, root-zero n r rs z))
    go (no z) (yes l) = absurd (omega (arith, root_over n r rs z l))
    go (no z) (no l) = ((omega arith, omega arith), sym (root-fits n r rs z (omega arith)) ∙ h)

-- so each names one
root-within : (n : ℕ) (rs : List ℤ) → roots_fault n rs ≡ 0 → RootsAllowed n rs
root-within n [] h i k = absurd (omega arith)
root-within n (r ∷ rs) h zero k = (no-fault n r rs h).0
root-within n (r ∷ rs) h (suc i) k = root-within n rs (no-fault n r rs h).1 i (omega arith)

-- where each names one none has a fault
within-tested : (n : ℕ) (rs : List ℤ) → RootsAllowed n rs → roots_fault n rs ≡ 0
unfolding roots_fault
within-tested n [] A = refl
within-tested n (r ∷ rs) A =
    let a = A 0 (omega arith) in
    root-fits n r rs (λ z. omega (arith, a.0)) a.1 ∙ within-tested n rs (λ i h. A (suc i) (omega arith))

-- no root has a fault exactly where each is allowed: not zero, and its magnitude not above the number of nodes
pub roots-allowed : (n : ℕ) (rs : List ℤ) → (roots_fault n rs ≡ 0) ↔ RootsAllowed n rs
roots-allowed n rs = (root-within n rs, within-tested n rs)

-- where no root has a fault each is itself as an edge
pub faultless-edges : (n : ℕ) (rs : List ℤ) → roots_fault n rs ≡ 0 → n ≤ node_limit → map edge_of rs ≡ rs
faultless-edges n [] h k = refl
faultless-edges n (r ∷ rs) h k =
    let f = no-fault n r rs h in
    rw (edge_same r (omega (arith, f.0.1)), faultless-edges n rs f.1 k)
