-- 'Numbers are 7-bit groups, highest first, in bits 7-1; bit 0 means more. 38 comes at the group that passes 64 bits. Leading zero
-- groups pass.' The definition reads groups from left to right; these laws say what it answers by the bytes and the number they stand for.
use mathlib.Core.Path.{◌≡◌, refl, sym, ◌∙◌}
use mathlib.Core.Bool.{Bool, true, false, cond}
use mathlib.Core.List.{List, [], ◌∷◌, ◌++◌, map, map-append}
use mathlib.Core.Logic.{◌⊎◌, ⊎_elim}
use Prim.Native.Nat.{ℕ, zero, suc, ◌+◌, ◌*◌, ◌/◌, ◌%◌, ◌^◌, ◌≤◌, ◌<◌}
use native.Mathlib.Omega.{arith}
use lib.ListN.{length}
use lib.Dec.{ltb, eqb}
use borrow.Author.Tests.{ltb-true, ltb-false, eqb-true, eqb-false}
use Rattle.codes.specs.Answer.{Step, got, fails, then}
use Rattle.read_binary.specs.Binary.{byte_at, grouped, groups_from, number_at}
use Rattle.read_numbers.specs.Value.{value_from, value_of}
use Rattle.read_binary.specs.Groups.{Bytes, none, byte, More, more, group, groups_number, LeadingGroups, Stands, PassesGroups, Breaks, GroupAnswers, reads, over, ends}
use Rattle.read_numbers.proofs.Value.{value_grows, value-last}
use Rattle.read_binary.proofs.Decoded.{byte_past, byte-within, byte-refused, Going, number-going, going-refused, going-over, going-last, going_more}

-- The number of bytes and one more.
number-last : (bs : List ℕ) (b : ℕ) → groups_number (bs ++ (b ∷ [])) ≡ groups_number bs * 128 + b / 2
number-last bs b = rw (map-append group bs (b ∷ [])) (value-last 128 (map group bs) (b / 2))

module _ {f : List ℕ} where
  bytes-last : {at i : ℕ} {bs : List ℕ} {b next : ℕ} → Bytes f at bs i → byte_at f i ≡ got b next → Bytes f at (bs ++ (b ∷ [])) next
  bytes-last none e = byte e none
  bytes-last (byte k h) e = byte k (bytes-last h e)

  bytes-split : {at : ℕ} (bs : List ℕ) {b next : ℕ} → Bytes f at (bs ++ (b ∷ [])) next → (i : ℕ) × Bytes f at bs i × (byte_at f i ≡ got b next)
  bytes-split {at} [] (byte e none) = (at, none, e)
  bytes-split (c ∷ bs) (byte e h) = let s = bytes-split bs h in (s.0, byte e s.1, s.2)

  bytes_up : {at : ℕ} {bs : List ℕ} {next : ℕ} → Bytes f at bs next → at ≤ next
  bytes_up none = omega arith
  bytes_up {at} (byte e h) = omega (arith, byte-within f at e, bytes_up h)

more-last : {bs : List ℕ} (b : ℕ) → More bs → b % 2 ≡ 1 → More (bs ++ (b ∷ []))
more-last b none e = more e none
more-last b (more k h) e = more k (more-last b h e)

module _ {f : List ℕ} {at : ℕ} where
  -- Bytes that mean more and stay within 64 bits are read as far.
  going_on : {v i m : ℕ} {bs : List ℕ} → Going f at v i → Bytes f i bs m → More bs → value_from 128 v (map group bs) < 2 ^ 64
      → Going f at (value_from 128 v (map group bs)) m
  unfolding value_from
  going_on g none none s = g
  going_on {v} g (byte {b = b} {bs = bs} e h) (more z k) s =
      let l = value_grows 128 (v * 128 + b / 2) (map group bs) (omega arith) in going_on {v = v * 128 + b / 2} (going_more g e (omega arith) (λ y. omega arith)) h k s

  leads-going : {bs : List ℕ} {i : ℕ} → LeadingGroups f at bs i → Going f at (groups_number bs) i
  unfolding value_of
  leads-going l = going_on (number-going f at) l.stand l.more l.small

  -- 'Numbers are 7-bit groups, highest first, in bits 7-1; bit 0 means more.'
  pub number-reads : {v next : ℕ} → Stands f at v next → number_at f at ≡ got v next
  number-reads {v} {next} s =
      let i = bytes-split s.bytes s.stand in
      let e = number-last s.bytes s.last in
      let w : groups_number s.bytes * 128 + s.last / 2 ≡ v = sym e ∙ s.value in
      going-last (leads-going (record { stand = i.1; more = s.more; small = omega (arith, s.small) })) i.2 (omega (arith, s.small)) s.end ∙ rw w

  -- '38 comes at the group that passes 64 bits.'
  pub number-over : PassesGroups f at → number_at f at ≡ fails 38
  number-over p =
      let i = bytes-split p.bytes p.stand in
      going-over (leads-going (record { stand = i.1; more = p.more; small = p.small })) i.2 (omega (arith, p.over, number-last p.bytes p.last))

  -- A byte that is refused where a group should stand refuses the number.
  pub number-ends : {n : ℕ} → Breaks f at n → number_at f at ≡ fails n
  number-ends b = going-refused (leads-going b.leads) b.refused

  -- What the bytes say is what is answered.
  pub answers_number : {s : Step ℕ} → GroupAnswers f at s → number_at f at ≡ s
  answers_number (reads s) = number-reads s
  answers_number (over p) = number-over p
  answers_number (ends b) = number-ends b

-- The other way: every position has one of these answers, so each comes from such bytes and from no others.
module _ (f : List ℕ) (at : ℕ) where
  -- the next group after bytes that lead to it, where every group that may follow it has such an answer
  module _ {bs : List ℕ} {i : ℕ} (l : LeadingGroups f at bs i) (k : ℕ → ℕ → Step ℕ)
      (on : (b m : ℕ) → i < m → LeadingGroups f at (bs ++ (b ∷ [])) m → GroupAnswers f at (k (groups_number bs * 128 + b / 2) m)) where
    grouped-answers : (b m : ℕ) → byte_at f i ≡ got b m → (small last : Bool) → ltb (groups_number bs * 128 + b / 2) (2 ^ 64) ≡ small → eqb (b % 2) 0 ≡ last
        → GroupAnswers f at (cond small (cond last (got (groups_number bs * 128 + b / 2) m) (k (groups_number bs * 128 + b / 2) m)) (fails 38))
    grouped-answers b m e true true p q =
        reads
        (record {
          bytes = bs;
          last = b;
          stand = bytes-last l.stand e;
          more = l.more;
          end = eqb-true _ _ q;
          value = number-last bs b;
          small = ltb-true _ _ p;
        })
    grouped-answers b m e true false p q =
        let odd : b % 2 ≡ 1 = omega (arith, eqb-false (b % 2) 0 q) in
        on b m (byte-within f i e).0
        (record {
          stand = bytes-last l.stand e;
          more = more-last b l.more odd;
          small = omega (arith, ltb-true, number-last bs b);
        })
    grouped-answers b m e false last p q =
        over
        (record {
          bytes = bs;
          last = b;
          next = m;
          stand = bytes-last l.stand e;
          more = l.more;
          small = l.small;
          over = omega (arith, ltb-false, number-last bs b);
        })

    then-answers : (s : Step ℕ) → byte_at f i ≡ s → GroupAnswers f at (then s (λ b next. grouped (groups_number bs) b next k))
    then-answers (got b m) e = grouped-answers b m e (ltb (groups_number bs * 128 + b / 2) (2 ^ 64)) (eqb (b % 2) 0) refl refl
    then-answers (fails n) e = ends (record { bytes = bs; place = i; leads = l; refused = e })

  groups-answers : (fuel : ℕ) {bs : List ℕ} {i : ℕ} → length f ≤ i + fuel → LeadingGroups f at bs i → GroupAnswers f at (groups_from fuel f (groups_number bs) i)
  unfolding groups_from
  groups-answers zero {bs} {i} h l = ends (record { bytes = bs; place = i; leads = l; refused = byte_past f i (omega arith) })
  groups-answers (suc fuel) {bs} {i} h l =
      then-answers l (groups_from fuel f) (λ b m a k. rw (← number-last bs b) (groups-answers fuel (omega arith) k)) (byte_at f i) refl

  pub number-answers : GroupAnswers f at (number_at f at)
  unfolding number_at value_from value_of
  number-answers = groups-answers (length f) {bs = []} (omega arith) (record { stand = none; more = none; small = omega arith })

  -- A number that is read stands there.
  pub number-exact : {v next : ℕ} → number_at f at ≡ got v next → Stands f at v next
  number-exact e = of (rw e at number-answers)
    where
      of : {v next : ℕ} → GroupAnswers f at (got v next) → Stands f at v next
      of (reads s) = s

  -- 38 comes nowhere else.
  pub number-over-exact : number_at f at ≡ fails 38 → PassesGroups f at
  number-over-exact e = of (rw e at number-answers) refl
    where
      of : {n : ℕ} → GroupAnswers f at (fails n) → n ≡ 38 → PassesGroups f at
      of (over p) z = p
      of (ends b) z = absurd (⊎_elim (λ k. omega arith) (λ k. omega arith) (byte-refused f b.place b.refused))

  -- 30 and 37 come from a byte only.
  pub number-ends-exact : {n : ℕ} → (n ≡ 30) ⊎ (n ≡ 37) → number_at f at ≡ fails n → Breaks f at n
  number-ends-exact w e = of (rw e at number-answers) w
    where
      of : {n : ℕ} → GroupAnswers f at (fails n) → (n ≡ 30) ⊎ (n ≡ 37) → Breaks f at n
      of (over p) z = absurd (⊎_elim (λ k. omega arith) (λ k. omega arith) z)
      of (ends b) z = b

  -- A number ends past its start and within the file.
  pub number-within : {v next : ℕ} → number_at f at ≡ got v next → (at < next) × (next ≤ length f)
  number-within e =
      let s = number-exact e in
      let i = bytes-split s.bytes s.stand in
      let w = byte-within f i.0 i.2 in
      let u = bytes_up i.1 in
      omega arith

  -- A number has 64 bits.
  pub number_small : {v next : ℕ} → number_at f at ≡ got v next → v < 2 ^ 64
  number_small e = (number-exact e).small

-- 'Leading zero groups pass': a byte 01 in front of a number changes only where it begins.
pub number-zero : (f : List ℕ) (at : ℕ) {m : ℕ} → byte_at f at ≡ got 1 m → number_at f at ≡ number_at f m
unfolding value_from value_of
number-zero f at {m} e = answers_number (of (number-answers f m))
  where
    led : {bs : List ℕ} {i : ℕ} → LeadingGroups f m bs i → LeadingGroups f at (1 ∷ bs) i
    led l = record { stand = byte e l.stand; more = more refl l.more; small = l.small }

    of : {s : Step ℕ} → GroupAnswers f m s → GroupAnswers f at s
    of (reads s) =
        reads
        (record {
          bytes = 1 ∷ s.bytes;
          last = s.last;
          stand = byte e s.stand;
          more = more refl s.more;
          end = s.end;
          value = s.value;
          small = s.small;
        })
    of (over p) =
        over
        (record {
          bytes = 1 ∷ p.bytes;
          last = p.last;
          next = p.next;
          stand = byte e p.stand;
          more = more refl p.more;
          small = p.small;
          over = p.over;
        })
    of (ends b) = ends (record { bytes = 1 ∷ b.bytes; place = b.place; leads = led b.leads; refused = b.refused })
