-- The stages of `recode`: the input's length, the header, the load and the export.
use mathlib.Core.Path.{◌≡◌, refl, sym, ap, subst, ◌∙◌}
use mathlib.Core.Bool.{Bool, cond}
use mathlib.Core.List.{List, ◌∷◌}
use Rattle.std.specs.Prelude.{Result, Ok, Err}
use Prim.Native.Nat.{ℕ, zero, suc, ◌+◌, ◌≤◌, ◌<◌}
use native.Mathlib.Omega.{arith}
use lib.ListN.{length, take}
use borrow.Author.Tests.{le-ltb, lt-ltb}
use Rattle.codes.specs.Lent.{laid}
use Rattle.codes.specs.Limits.{limits, var_limit}
use Rattle.codes.specs.declared.refusal.Fault.{Fault}
use Rattle.codes.proofs.Lent.{length-laid}
use Rattle.seats.specs.Seats.{seat_of}
use Rattle.header_values.proofs.Padded.{take-laid}
use Rattle.header.specs.Header as head
use Rattle.recode_levels.specs.Levels.{taken_from, level_list}
use Rattle.recoding.specs.Recode.{input_most, head_read, loaded_at, refuse_file, after_load, after_header, recode_of}
use Rattle.recoding.specs.Kinds.{plan_by, list_by}
use Rattle.recoding.proofs.Said.{Says, header-says}

-- what is left, by whether the input is too long
by_length : (f : List ℕ) (out : ℕ) {a b : Bool} → a ≡ b
    → cond a (refuse_file 19 0 out) (after_header limits f (head_read limits f).answer out)
    ≡ cond b (refuse_file 19 0 out) (after_header limits f (head_read limits f).answer out)
by_length f out e = ap (λ b. cond b (refuse_file 19 0 out) (after_header limits f (head_read limits f).answer out)) e

-- an input that is too long: 19, and zeros
pub recodes-long : (f : List ℕ) → input_most < length f → (out : ℕ) → refuse_file 19 0 out ≡ recode_of limits f out
unfolding recode_of
recodes-long f h out = by_length f out (sym (lt-ltb input_most (length f) h))

-- else the header decides
by-header : (f : List ℕ) → length f ≤ input_most → (out : ℕ) → after_header limits f (head_read limits f).answer out ≡ recode_of limits f out
unfolding recode_of
by-header f h out = by_length f out (sym (le-ltb input_most (length f) h))

-- of n levels no more than n are taken
taken-few : (n p : ℕ) (permids : List ℕ) → length (taken_from n p permids) ≤ n
unfolding taken_from
taken-few zero p permids = omega arith
taken-few (suc n) p permids = go (taken-few n (p + 1) permids) (seat_of p permids)
  where
    go : length (taken_from n (p + 1) permids) ≤ n → (k : ℕ) → length {A = ℕ}
        (elim k as (λ x. List ℕ) [ zero ↦ taken_from n (p + 1) permids | suc i ↦ p ∷ taken_from n (p + 1) permids ]) ≤ suc n
    go h zero = omega arith
    go h (suc i) = omega arith

-- a level list has no more entries than there are variables
list-few : (nvars : ℕ) (permids : List ℕ) → length (level_list nvars permids) ≤ nvars
unfolding level_list
list-few nvars permids = taken-few nvars 0 permids

-- a refusal is no plan with levels
no-levels : {t : Fault} {p : ℕ × ℕ} {B : Type 0} → ◌≡◌ {A = Result (ℕ × ℕ) Fault} (Err t) (Ok p) → B
no-levels q = cc

-- the two numbers of a plan
same-levels : {a b c d : ℕ} → ◌≡◌ {A = Result (ℕ × ℕ) Fault} (Ok (a, b)) (Ok (c, d)) → (a ≡ c) × (b ≡ d)
same-levels {a} {b} {c} {d} q = let e : ◌≡◌ {A = ℕ × ℕ} (a, b) (c, d) = cc in (ap (λ p. p.0) e, ap (λ p. p.1) e)

-- a refusal is its fault
same-fault : {s t : Fault} → ◌≡◌ {A = Result (ℕ × ℕ) Fault} (Err s) (Err t) → s ≡ t
same-fault q = cc

-- what a plan with levels comes from: a header and its level list
pub record Comes (f : List ℕ) (levels n : ℕ) (old dst : List ℕ) : Type 0 where
  pub from : head.Header
  pub read : (head_read limits f).answer ≡ head.header from
  pub count : levels ≡ from.nvars
  pub entries : n ≡ length (level_list from.nvars (head_read limits f).permids)
  pub there : dst ≡ laid (level_list from.nvars (head_read limits f).permids) old

module _ (f : List ℕ) where
  -- the level list of the plan
  abbrev planned : List ℕ
  planned = list_by (head_read limits f) (head_read limits f).answer

  -- what the header says
  head-says : (h : head.Header) → (head_read limits f).answer ≡ head.header h → Says h (head_read limits f).ids (head_read limits f).permids
  unfolding head_read
  head-says h q = header-says (head.length_fault limits (length f)) f h q

  module _ (levels n : ℕ) (q : Ok (levels, n) ≡ plan_by (head_read limits f) (head_read limits f).answer) (old dst : List ℕ)
      (d : dst ≡ laid planned old) where
    -- a plan with levels comes from a header
    comes : Comes f levels n old dst
    comes = go (head_read limits f).answer refl q d
      where
        go : (a : head.HeaderAnswer) → (head_read limits f).answer ≡ a → Ok (levels, n) ≡ plan_by (head_read limits f) a
            → dst ≡ laid (list_by (head_read limits f) a) old → Comes f levels n old dst
        go (head.header h) r e d = let w = same-levels e in record { from = h; read = r; count = w.0; entries = w.1; there = d }
        go (head.refusal m line) r e d = no-levels (sym e)

    module _ (long : length old ≡ var_limit) where
      -- the level list fits
      short : n ≤ length old
      short =
          let c = comes in
          let a = (head-says c.from c.read).judged.few in
          let b = list-few c.from.nvars (head_read limits f).permids in
          omega (arith, long, c.entries)

      -- the list reaches as far as the level list
      pub list-reaches : n ≤ length dst
      list-reaches =
          let c = comes in
          let s = short in
          let l = ap length c.there ∙ length-laid (level_list c.from.nvars (head_read limits f).permids) old in
          omega arith

      -- its front is the level list
      list-is : take n dst ≡ level_list comes.from.nvars (head_read limits f).permids
      list-is =
          let es = level_list comes.from.nvars (head_read limits f).permids in
          ap (λ m. take m dst) comes.entries ∙ ap (take (length es)) comes.there
          ∙ take-laid es old (subst (λ m. m ≤ length old) comes.entries short)

      -- What the load at these levels leaves is what the program leaves.
      pub recodes : length f ≤ input_most → (out : ℕ)
          → after_load limits f (loaded_at limits f (take n dst) levels) (loaded_at limits f (take n dst) levels).answer out ≡ recode_of limits f out
      recodes h out =
          let es = level_list comes.from.nvars (head_read limits f).permids in
          ap (λ l. after_load limits f (loaded_at limits f l levels) (loaded_at limits f l levels).answer out) list-is
          ∙ ap (λ m. after_load limits f (loaded_at limits f es m) (loaded_at limits f es m).answer out) comes.count
          ∙ ap (λ t. after_header limits f t out) (sym comes.read)
          ∙ by-header f h out

  -- a refusal of the header: it is answered, with zeros
  pub recodes-none : (t : Fault) → Err t ≡ plan_by (head_read limits f) (head_read limits f).answer → length f ≤ input_most → (out : ℕ)
      → refuse_file t.number t.line out ≡ recode_of limits f out
  recodes-none t q h out = go (head_read limits f).answer q ∙ by-header f h out
    where
      go : (a : head.HeaderAnswer) → Err t ≡ plan_by (head_read limits f) a → refuse_file t.number t.line out ≡ after_header limits f a out
      go (head.header g) e = no-levels e
      go (head.refusal m at) e = ap (λ s. refuse_file s.number s.line out) (same-fault e)
