-- Searching forward and backward: one turn of each search, and what the position found means.
use mathlib.Core.Path.{◌≡◌, refl}
use mathlib.Core.Bool.{Bool, true, false}
use mathlib.Core.List.{List}
use Prim.Native.Nat.{ℕ, zero, suc, ◌+◌, ◌-◌, ◌≤◌, ◌<◌}
use native.Mathlib.Omega.{arith}
use lib.ListN.{length, get_or}
use lib.Dec.{leb}
use mathlib.Core.Logic.{◌⊎◌, inl, inr, ⊎_elim}
use borrow.Author.Tests.{lt-ltb, le-ltb, leb-true, leb-false}
use Rattle.read_lines.specs.declared.Class.TheVariants.{Feed, LineEnd, Blank, NonBlank}
use Rattle.read_lines.specs.Line.{is_of, seek, trim, feed_at, line_of, key_end, value_start, value_end, field_of}

-- at or after a position, or before it
pub split : (k i : ℕ) → (i ≤ k) ⊎ (k < i)
split k i = split_by (leb i k) refl
  where
    split_by : (b : Bool) → leb i k ≡ b → (i ≤ k) ⊎ (k < i)
    split_by true e = inl (leb-true i k e)
    split_by false e = inr (leb-false i k e)

module _ (p : ℕ → Bool) (f : List ℕ) where
  -- forward, at a position before the end
  pub seek_found : (i e : ℕ) → i < e → p (get_or f i 0) ≡ true → seek p f i (e - i) ≡ i
  unfolding seek
  seek_found i e h t = let k : e - i ≡ suc (e - (i + 1)) = omega arith in rw (k, t)

  pub seek-past : (i e : ℕ) → i < e → p (get_or f i 0) ≡ false → seek p f i (e - i) ≡ seek p f (i + 1) (e - (i + 1))
  unfolding seek
  seek-past i e h t = let k : e - i ≡ suc (e - (i + 1)) = omega arith in rw (k, t)

  pub seek-end : (i e : ℕ) → e ≤ i → seek p f i (e - i) ≡ i
  unfolding seek
  seek-end i e h = let k : e - i ≡ 0 = omega arith in rw k

  -- backward, at an end after the start
  pub trim-past : (a e : ℕ) → a < e → p (get_or f (e - 1) 0) ≡ true → trim p f a (e - a) ≡ trim p f a (e - 1 - a)
  unfolding trim
  trim-past a e h t =
      let k : e - a ≡ suc (e - 1 - a) = omega arith in
      let m : a + (e - 1 - a) ≡ e - 1 = omega arith in rw (k, m, t)

  pub trim-found : (a e : ℕ) → a < e → p (get_or f (e - 1) 0) ≡ false → trim p f a (e - a) ≡ e
  unfolding trim
  trim-found a e h t =
      let k : e - a ≡ suc (e - 1 - a) = omega arith in
      let m : a + (e - 1 - a) ≡ e - 1 = omega arith in rw (k, m, t) (omega arith)

  pub trim_end : (a e : ℕ) → e ≤ a → trim p f a (e - a) ≡ a
  unfolding trim
  trim_end a e h = let k : e - a ≡ 0 = omega arith in rw k

-- Forward the first position is found: no byte before it has the property, and its own has it, if it isn't the end.
pub record Found (p : ℕ → Bool) (f : List ℕ) (i n at : ℕ) : Type 0 where
  pub low : i ≤ at
  pub high : at ≤ i + n
  pub free : (k : ℕ) → i ≤ k → k < at → p (get_or f k 0) ≡ false
  pub has : at < i + n → p (get_or f at 0) ≡ true

-- Backward the last position is found: each byte behind it has the property, and the last one before it lacks it, if it isn't the start.
pub record Trimmed (p : ℕ → Bool) (f : List ℕ) (a n end : ℕ) : Type 0 where
  pub low : a ≤ end
  pub high : end ≤ a + n
  pub free : (k : ℕ) → end ≤ k → k < a + n → p (get_or f k 0) ≡ true
  pub lacks : a < end → p (get_or f (end - 1) 0) ≡ false

module _ (p : ℕ → Bool) (f : List ℕ) where
  here-free : {i : ℕ} → p (get_or f i 0) ≡ false → (k : ℕ) → i ≤ k → k < i + 1 → p (get_or f k 0) ≡ false
  here-free {i} e k a b = let q : k ≡ i = omega arith in rw q e

  found-by : (n i : ℕ) (b : Bool) → p (get_or f i 0) ≡ b → Found p f (i + 1) n (seek p f (i + 1) n) → Found p f i (suc n) (seek p f i (suc n))
  unfolding seek
  found-by n i true e r = rw e (record { low = omega arith; high = omega arith; free = λ k a b. absurd (omega arith); has = λ h. e })
  found-by n i false e r =
      rw e (record {
        low = omega arith;
        high = omega arith;
        has = λ h. r.has (omega arith);
        free = λ k a b. ⊎_elim (λ l. r.free k l b) (λ l. here-free e k a l) (split k (i + 1));
      })

  pub found : (n i : ℕ) → Found p f i n (seek p f i n)
  unfolding seek
  found zero i = record { low = omega arith; high = omega arith; free = λ k a b. absurd (omega arith); has = λ h. absurd (omega arith) }
  found (suc n) i = found-by n i (p (get_or f i 0)) refl (found n (i + 1))

  pub seek-low : (n i : ℕ) → i ≤ seek p f i n
  seek-low n i = (found n i).low

  pub seek-has : (n i : ℕ) → seek p f i n < i + n → p (get_or f (seek p f i n) 0) ≡ true
  seek-has n i = (found n i).has

  trimmed-by : (a n : ℕ) (b : Bool) → p (get_or f (a + n) 0) ≡ b → Trimmed p f a n (trim p f a n) → Trimmed p f a (suc n) (trim p f a (suc n))
  unfolding trim
  trimmed-by a n true e r =
      rw e (record {
        low = r.low;
        high = omega arith;
        lacks = r.lacks;
        free = λ k l h. ⊎_elim (λ m. let q : k ≡ a + n = omega arith in rw q e) (λ m. r.free k l m) (split k (a + n));
      })
  trimmed-by a n false e r =
      let q : a + suc n - 1 ≡ a + n = omega arith in
      rw e (record { low = omega arith; high = omega arith; free = λ k l h. absurd (omega arith); lacks = λ h. rw q e })

  pub trimmed : (a n : ℕ) → Trimmed p f a n (trim p f a n)
  unfolding trim
  trimmed a zero = record { low = omega arith; high = omega arith; free = λ k l h. absurd (omega arith); lacks = λ h. absurd (omega arith) }
  trimmed a (suc n) = trimmed-by a n (p (get_or f (a + n) 0)) refl (trimmed a n)

-- the parts of a line, each found from the one before
module _ (f : List ℕ) (at feed end : ℕ) (a : feed ≡ seek (is_of Feed) f at (length f - at)) (b : end ≡ trim (is_of LineEnd) f at (feed - at)) where
  pub line-ended : feed < length f → record { end = end; next = feed + 1 } ≡ line_of f at
  unfolding line_of feed_at
  line-ended h = rw (← a, ← b, lt-ltb feed (length f) h)

  pub line-last : length f ≤ feed → record { end = end; next = feed } ≡ line_of f at
  unfolding line_of feed_at
  line-last h = rw (← a, ← b, le-ltb feed (length f) h)

pub field-parts : (f : List ℕ) (at end key start stop : ℕ) → key ≡ seek (is_of Blank) f at (end - at)
    → start ≡ seek (is_of NonBlank) f key (end - key) → stop ≡ trim (is_of Blank) f start (end - start)
    → record { key = key; start = start; end = stop } ≡ field_of f at end
unfolding field_of key_end value_start value_end
field-parts f at end key start stop a b c = rw (← a, ← b, ← c)
