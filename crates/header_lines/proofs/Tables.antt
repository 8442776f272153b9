-- The two lists that hold the spans of a table.
use mathlib.Core.Path.{◌≡◌, refl, ◌∙◌}
use mathlib.Core.Bool.{Bool, true, false, cond}
use mathlib.Core.List.{List, [], map}
use Prim.Native.Nat.{ℕ, zero, suc, ◌≤◌, ◌<◌}
use native.Mathlib.Omega.{arith}
use lib.Dec.{eqb}
use lib.ListN.{length, get_or, set, replicate, length-set}
use lib.Seq.{get_or-set_same, get_or-set_other}
use borrow.Author.Tests.{eqb-true, eqb-false}
use Rattle.header_lines.specs.Sweep.{keys, Table, Span, no_span, last_from, last_of, lasts}

-- each element of a list of zeros is 0
zeros : (n k : ℕ) → ◌≡◌ {A = ℕ} (get_or (replicate n 0) k 0) 0
zeros zero k = refl
zeros (suc n) zero = refl
zeros (suc n) (suc k) = zeros n k

-- two lists of zeros are a table
pub table_none : (f : List ℕ) → Table f (replicate keys 0) (replicate keys 0)
table_none f =
    record { starts_long = refl; ends_long = refl; ordered = λ k. omega arith; inside = λ k. rw (zeros 17 k) (omega arith) }

-- it is the table of no line
pub zeros-none : (part : Span → ℕ) → part no_span ≡ 0 → replicate keys 0 ≡ map part (lasts [])
unfolding lasts last_of last_from
zeros-none part e = rw e

module _ {f starts ends : List ℕ} (t : Table f starts ends) (i a e : ℕ) (h : i < keys) (o : a ≤ e) (b : e ≤ length f) where
  -- an element of a list with an entry set: the new one at that entry, the old one elsewhere
  entry : (l : List ℕ) (x k : ℕ) → length l ≡ keys → (b : Bool) → eqb k i ≡ b → get_or (set l i x) k 0 ≡ cond b x (get_or l k 0)
  entry l x k n true q = rw (eqb-true k i q) (get_or-set_same l i x 0 (omega arith))
  entry l x k n false q = get_or-set_other l i k x 0 (eqb-false k i q)

  -- starts and ends stay in order
  ordered-by : (k : ℕ) (c : Bool) → eqb k i ≡ c → get_or (set starts i a) k 0 ≤ get_or (set ends i e) k 0
  ordered-by k true q = rw (entry starts a k t.starts_long true q, entry ends e k t.ends_long true q) o
  ordered-by k false q = rw (entry starts a k t.starts_long false q, entry ends e k t.ends_long false q) (t.ordered k)

  -- ends stay inside the file
  inside-by : (k : ℕ) (c : Bool) → eqb k i ≡ c → get_or (set ends i e) k 0 ≤ length f
  inside-by k true q = rw (entry ends e k t.ends_long true q) b
  inside-by k false q = rw (entry ends e k t.ends_long false q) (t.inside k)

  -- a table with a span set at an entry
  pub table_more : Table f (set starts i a) (set ends i e)
  table_more =
      record {
        starts_long = length-set starts i a ∙ t.starts_long;
        ends_long = length-set ends i e ∙ t.ends_long;
        ordered = λ k. ordered-by k (eqb k i) refl;
        inside = λ k. inside-by k (eqb k i) refl;
      }
