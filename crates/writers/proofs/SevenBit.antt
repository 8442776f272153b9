-- 7-bit numbers: what is written group by group, and that it is read back.
use mathlib.Core.Path.{◌≡◌, sym, ap, ◌∙◌}
use mathlib.Core.List.{List, [], ◌∷◌, ◌++◌, append_assoc, append-nil}
use Prim.Native.Nat.{ℕ, suc, ◌+◌, ◌*◌, ◌/◌, ◌%◌, ◌^◌, ◌≤◌, ◌<◌}
use native.Mathlib.Omega.{arith}
use lib.ListN.{length, drop, length-append}
use lib.Seq.{drop-drop, drop-append_seam}
use borrow.Author.Tests.{lt-ltb, le-ltb}
use Rattle.codes.specs.Answer.{got}
use Rattle.read_binary.specs.Binary.{byte_at, number_at}
use Rattle.read_binary.proofs.Decoded.{Going, number-going, going-last, going_more}
use Rattle.writers.specs.Binary.{escaped, escaped_all, groups_by, groups, seven_bit}
use Rattle.writers.specs.Written.{Wrote}
use Rattle.writers.proofs.Notation.{Notation, written_one, length_last, wrote-last, written-some, written-short, written-by}
use Rattle.writers.proofs.Escaped.{escaped-length, escaped-short, escaped-reads}

-- Bytes escaped one after another.
escaped-one : (b : ℕ) → escaped_all (b ∷ []) ≡ escaped b
unfolding escaped_all
escaped-one b = append-nil (escaped b)

escaped-last : (bs : List ℕ) (b : ℕ) → escaped_all (bs ++ (b ∷ [])) ≡ escaped_all bs ++ escaped b
unfolding escaped_all
escaped-last [] b = escaped-one b
escaped-last (a ∷ bs) b = rw (escaped-last bs b) (sym (append_assoc (escaped a) (escaped_all bs) (escaped b)))

-- 7-bit groups are written in base 128.
in-128 : Notation 128 (λ more d. escaped (d * 2 + more)) (λ k more n. escaped_all (groups_by k more n))
unfolding groups_by
in-128 =
    record {
      positive = omega arith;
      least = λ more n. escaped-one (n * 2 + more);
      one = λ k more n h. rw (lt-ltb n 128 h, groups_by) (escaped-one (n * 2 + more));
      next = λ k more n h. rw (le-ltb n 128 h, groups_by) (escaped-last (groups_by k 1 (n / 128)) (n % 128 * 2 + more));
    }

-- What the code writes: the byte of the one group, or that of the last after those of the number without it.
module _ (more n : ℕ) {b : ℕ} where
  pub groups-one : n < 128 → b ≡ n * 2 + more → escaped_all (groups_by 9 more n) ≡ escaped b
  groups-one h e = written_one in-128 9 more n h ∙ ap escaped (sym e)

  module _ (h : 128 ≤ n) (s : n < 2 ^ 64) (e : b ≡ n % 128 * 2 + more) where
    pub length_more : length (escaped_all (groups_by 9 more n)) ≡ length (escaped_all (groups_by 9 1 (n / 128))) + length (escaped b)
    length_more = rw e (length_last in-128 9 more n h (omega arith))

    pub put-more : (old : List ℕ) (at : ℕ) {m out : List ℕ} {i j : ℕ} → Wrote old at (escaped_all (groups_by 9 1 (n / 128))) i m → Wrote m i (escaped b) j out
        → Wrote old at (escaped_all (groups_by 9 more n)) j out
    put-more old at p q = wrote-last in-128 9 more n h (omega arith) old at p (rw e at q)

-- There is a byte, and below 128 ^ k there are at most k groups, of one byte or two.
module _ (n : ℕ) where
  pub seven-bit-some : 1 ≤ length (seven_bit n)
  unfolding groups seven_bit
  seven-bit-some = written-some in-128 (λ more d. (escaped-length (d * 2 + more)).0) 9 0 n

  pub seven-bit-short : (k : ℕ) → n < 128 ^ k → 1 ≤ k → length (seven_bit n) ≤ 2 * k
  unfolding groups seven_bit
  seven-bit-short k h l = written-short in-128 2 (λ more d. escaped-short (d * 2 + more)) 9 k 0 n h l

-- What is left to read of a number whose other groups are read: a group with `more` in bit 0.
record Last (f : List ℕ) (at more n next : ℕ) : Type 0 where
  above : ℕ
  place : ℕ
  group : ℕ
  going : Going f at above place
  byte : byte_at f place ≡ got (group * 2 + more) next
  value : above * 128 + group ≡ n

module _ (f : List ℕ) (at : ℕ) where
  -- With 1 there the number goes on, and with 0 it ends.
  last_more : {n next : ℕ} → n < 2 ^ 64 → Last f at 1 n next → Going f at n next
  last_more {n} {next} h l =
      let g = l.group in
      let half : (g * 2 + 1) / 2 ≡ g = omega arith in
      let v : l.above * 128 + (g * 2 + 1) / 2 ≡ n = rw half l.value in
      rw (← v) (going_more l.going l.byte (omega arith) (λ z. omega arith))

  last_end : {n next : ℕ} → n < 2 ^ 64 → Last f at 0 n next → number_at f at ≡ got n next
  last_end {n} {next} h l =
      let g = l.group in
      let half : (g * 2 + 0) / 2 ≡ g = omega arith in
      let v : l.above * 128 + (g * 2 + 0) / 2 ≡ n = rw half l.value in
      going-last l.going l.byte (omega arith) (omega arith) ∙ rw v

  -- So stands the only group of a number, and each that follows others.
  one_last : (more n : ℕ) (r : List ℕ) → drop at f ≡ escaped (n * 2 + more) ++ r → Last f at more n (at + length (escaped (n * 2 + more)))
  one_last more n r e =
      record {
        above = 0;
        place = at;
        group = n;
        going = number-going f at;
        byte = escaped-reads f at (n * 2 + more) r e;
        value = omega arith;
      }

  next_last : (w r : List ℕ) (more n : ℕ) → n < 2 ^ 64 → drop at f ≡ w ++ (escaped (n % 128 * 2 + more) ++ r) → Last f at 1 (n / 128) (at + length w)
      → Last f at more n (at + length (w ++ escaped (n % 128 * 2 + more)))
  next_last w r more n h e l =
      let here : drop (at + length w) f ≡ escaped (n % 128 * 2 + more) ++ r = sym (drop-drop (length w) at f) ∙ rw e (drop-append_seam w (escaped (n % 128 * 2 + more) ++ r)) in
      let long : at + length (w ++ escaped (n % 128 * 2 + more)) ≡ at + length w + length (escaped (n % 128 * 2 + more)) = simp length-append (omega arith) in
      record {
        above = n / 128;
        place = at + length w;
        group = n % 128;
        going = last_more (omega arith) l;
        byte = rw long (escaped-reads f (at + length w) (n % 128 * 2 + more) r here);
        value = omega arith;
      }

  groups-last : (k more n : ℕ) → n < 128 ^ suc k → n < 2 ^ 64 → (r : List ℕ) → drop at f ≡ escaped_all (groups_by k more n) ++ r
      → Last f at more n (at + length (escaped_all (groups_by k more n)))
  groups-last =
      written-by in-128 (λ more n w. n < 2 ^ 64 → (r : List ℕ) → drop at f ≡ w ++ r → Last f at more n (at + length w)) (λ more n b l. one_last more n)
      (λ more n w b p l r e.
      let g = escaped (n % 128 * 2 + more) in
      let e' : drop at f ≡ w ++ (g ++ r) = e ∙ append_assoc w g r in
      next_last w r more n l e' (p (omega arith) (g ++ r) e'))

  -- Wherever a number stands, it is read back.
  pub seven-bit-reads : (n : ℕ) (r : List ℕ) → n < 2 ^ 64 → drop at f ≡ seven_bit n ++ r → number_at f at ≡ got n (at + length (seven_bit n))
  unfolding seven_bit groups
  seven-bit-reads n r h e = last_end h (groups-last 9 0 n (omega arith) h r e)
