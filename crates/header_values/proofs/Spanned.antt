-- The spans that two lists, of starts and of ends, hold.
use mathlib.Core.Path.{◌≡◌, refl, ap, ◌∙◌, sym}
use mathlib.Core.List.{List, [], ◌∷◌, map}
use Prim.Native.Nat.{ℕ, zero, suc}
use native.Mathlib.Omega.{arith}
use lib.ListN.{length, get_or}
use Rattle.header_keys.specs.Keys.{slot_of}
use Rattle.header_keys.specs.declared.Key.{Key}
use Rattle.header_lines.specs.Sweep.{Span, span, span_start, span_end, no_span, part, Table}
use Rattle.header_values.specs.Values.{spans, span_in, value_in}

-- the starts and the ends of spans hold those spans
pub spans-parts : (t : List Span) → spans (map span_start t) (map span_end t) ≡ t
unfolding spans
spans-parts [] = refl
spans-parts (s ∷ t) = ap (λ l. s ∷ l) (spans-parts t)

-- a span has the start and the end that stand at its place
get_d-spans : (ss es : List ℕ) (k : ℕ) → length ss ≡ length es → get_or (spans ss es) k no_span ≡ span (get_or ss k 0) (get_or es k 0)
unfolding spans
get_d-spans [] [] k h = refl
get_d-spans [] (e ∷ es) k h = absurd (omega arith)
get_d-spans (s ∷ ss) [] k h = absurd (omega arith)
get_d-spans (s ∷ ss) (e ∷ es) zero h = refl
get_d-spans (s ∷ ss) (e ∷ es) (suc k) h = get_d-spans ss es k (omega arith)

module _ {f starts ends : List ℕ} (t : Table f starts ends) where
  -- the last value of a key stands where its entry says
  pub span-at : (i : ℕ) (k : Key) → i ≡ slot_of k → span (get_or starts i 0) (get_or ends i 0) ≡ span_in (spans starts ends) k
  span-at i k e = rw e (sym (get_d-spans starts ends (slot_of k) (t.starts_long ∙ sym t.ends_long)))

  -- its bytes, and its start
  pub value-at : (i : ℕ) (k : Key) → i ≡ slot_of k → part f (get_or starts i 0) (get_or ends i 0) ≡ value_in f (spans starts ends) k
  value-at i k e = ap (λ v. part f v.start v.end) (span-at i k e)

  pub start-at : (i : ℕ) (k : Key) → i ≡ slot_of k → get_or starts i 0 ≡ (span_in (spans starts ends) k).start
  start-at i k e = ap (λ v. v.start) (span-at i k e)
