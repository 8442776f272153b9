-- The lines of a header: what the line at a position leads to, and what is left after it.
use mathlib.Core.Path.{◌≡◌, refl, sym, ap, ◌∙◌}
use mathlib.Core.Bool.{Bool, true, false}
use mathlib.Core.List.{List, [], ◌∷◌}
use Prim.Native.Nat.{ℕ, zero, suc, ◌+◌, ◌-◌, ◌≤◌, ◌<◌}
use native.Mathlib.Omega.{arith}
use lib.Dec.{eqb}
use lib.ListN.{length}
use borrow.Author.Tests.{lt-ltb, le-ltb, ne_eqb}
use Rattle.std.specs.Prelude.{Option, Some}
use Rattle.codes.specs.Answer.{Read, value, refused}
use Rattle.read_lines.specs.Line.{line_of, field_of}
use Rattle.read_lines.specs.declared.Line.{Line}
use Rattle.read_lines.specs.declared.Field.{Field}
use Rattle.header_keys.specs.declared.Key.{Key}
use Rattle.header_keys.specs.declared.Key.TheVariants.{Nodes}
use Rattle.header_lines.specs.declared.Step.{Step}
use Rattle.header_lines.specs.declared.Step.TheVariants as step
use Rattle.header_keys.specs.Keys.{key_of, slot_of, entry_of}
use Rattle.header_faults.specs.Judge.{word_fault}
use Rattle.header_lines.specs.Sweep.{part, span_start, span_end, Said, said_word, field_at, key_at, value_at, step_at}
use Rattle.header_lines.specs.Sweep.{Lines, cut, nodes, line, lines_from, fault_in, SweepEnd, at_nodes, refused_at, end_from, end_of, all_of, sound}
use Rattle.header_lines.proofs.LastLines.{one-word}

-- a line before others, of which the law holds
sound-by : (f : List ℕ) (m : ℕ) (s : Said) (ls : Lines) (next n k : ℕ) → fault_in f s ≡ k
    → (end_from (m + 1) f ls ≡ at_nodes next n → sound f ls ≡ all_of ls)
    → end_from m f (line s ls) ≡ at_nodes next n → sound f (line s ls) ≡ all_of (line s ls)
unfolding end_from sound all_of
sound-by f m s ls next n zero q r e = rw (q, sound) (ap (λ ss. s ∷ ss) (r (rw (q, end_from) at e)))
sound-by f m s ls next n (suc k) q r e =
    let w : refused_at (suc k) m ≡ at_nodes next n = rw (q, end_from) at e in
    let z : ◌≡◌ {A = ℕ} 0 1 = cc in absurd (omega arith)

-- the law at any line number
sound-from : (f : List ℕ) (m : ℕ) (ls : Lines) (next n : ℕ) → end_from m f ls ≡ at_nodes next n → sound f ls ≡ all_of ls
unfolding end_from sound all_of
sound-from f m cut next n e = refl
sound-from f m (nodes p) next n e = refl
sound-from f m (line s ls) next n e = sound-by f m s ls next n (fault_in f s) refl (sound-from f (m + 1) ls next n) e

-- where the lines end with `.nodes` none has a fault, so the sound ones are all
pub sound-all : (f : List ℕ) (ls : Lines) (next n : ℕ) → end_of f ls ≡ at_nodes next n → sound f ls ≡ all_of ls
unfolding end_of
sound-all f ls next n e = sound-from f 1 ls next n e

-- at the end of the file there is no line
pub lines_cut : (n : ℕ) (f : List ℕ) (at : ℕ) → length f ≤ at → lines_from n f at ≡ cut
unfolding lines_from
lines_cut zero f at h = refl
lines_cut (suc n) f at h = rw (le-ltb at (length f) h, lines_from)

module _ (f : List ℕ) (at : ℕ) where
  -- whether the key of the line here is `.nodes`
  abbrev at_end : Bool
  at_end = eqb (entry_of (key_at f at)) (slot_of Nodes)

  -- what the line here says
  abbrev pub here : Said
  here = said_word (key_at f at) (value_at f at)

  -- the step, by the line's key and its fault: the line of `.nodes`
  step-nodes : at_end ≡ true → step_at f at ≡ value (step.Nodes (line_of f at).next)
  unfolding step_at
  step-nodes e = rw (e, step_at)

  -- a line with a fault
  step-refused : {k : ℕ} → at_end ≡ false → fault_in f here ≡ suc k → step_at f at ≡ refused (suc k)
  unfolding step_at
  step-refused e q = rw (e, q, step_at)

  -- a line with none
  step_value : at_end ≡ false → fault_in f here ≡ 0
      → step_at f at ≡ value (step.Value (entry_of (key_at f at)) (value_at f at).start (value_at f at).end (line_of f at).next)
  unfolding step_at
  step_value e q = rw (e, q, step_at)

  -- The code reads the line, its parts and its key one after the other.
  module _ {l : Line} {d : Field} {o : Option Key} (a : l ≡ line_of f at) (b : d ≡ field_of f at l.end) (k : o ≡ key_of (part f at d.key)) where
    -- the parts are those of the line here
    field-read : d ≡ field_at f at
    field-read = b ∙ rw a

    -- so is the key
    key-read : o ≡ key_at f at
    key-read = k ∙ rw field-read

    -- the test of the entry is that of the key
    end_read : {t : Bool} → eqb (entry_of o) 8 ≡ t → at_end ≡ t
    end_read e = rw (← key-read) e

    -- the step at `.nodes`
    pub read-nodes : o ≡ Some Nodes → value (step.Nodes l.next) ≡ step_at f at
    read-nodes e = rw a (sym (step-nodes (end_read (rw e))))

    -- at another word
    module _ (h : o ≡ Some Nodes → ⊥) {n : ℕ} (g : n ≡ word_fault o d.start (part f d.start d.end)) where
      not-nodes : at_end ≡ false
      not-nodes = end_read (ne_eqb (entry_of o) 8 (λ q. h (one-word Nodes o (sym q))))

      -- the fault is that of the line here
      fault-read : n ≡ fault_in f here
      fault-read = g ∙ rw (key-read, field-read)

      -- the step at a fault
      pub read-refused : (n ≡ 0 → ⊥) → refused n ≡ step_at f at
      read-refused u =
          let m : n ≡ suc (n - 1) = omega arith in
          ap refused m ∙ sym (step-refused not-nodes (sym fault-read ∙ m))

      -- the step at no fault
      pub read-value : n ≡ 0 → value (step.Value (entry_of o) d.start d.end l.next) ≡ step_at f at
      read-value u = rw (a, key-read, field-read) (sym (step_value not-nodes (sym fault-read ∙ u)))

  -- the lines from that of `.nodes` on
  lines-nodes : (n : ℕ) → at < length f → at_end ≡ true → lines_from (suc n) f at ≡ nodes (line_of f at).next
  unfolding lines_from
  lines-nodes n h e = rw (lt-ltb at (length f) h, e, lines_from)

  -- the lines from any other on
  lines_more : (n : ℕ) → at < length f → at_end ≡ false → lines_from (suc n) f at ≡ line here (lines_from n f (line_of f at).next)
  unfolding lines_from
  lines_more n h e = rw (lt-ltb at (length f) h, e, lines_from)

  -- The line here is the n-th, and `fuel` bounds the lines from here on.
  module _ (n fuel : ℕ) where
    -- a line without a fault: it is read, and the rest goes on after it
    pub record Valued (slot start end next : ℕ) : Type 0 where
      pub rest_end : end_from n f (lines_from fuel f at) ≡ end_from (n + 1) f (lines_from (fuel - 1) f next)
      pub rest_lines : sound f (lines_from fuel f at) ≡ here ∷ sound f (lines_from (fuel - 1) f next)
      pub slot_is : slot ≡ entry_of here.key
      pub start_is : start ≡ span_start here.value
      pub end_is : end ≡ span_end here.value

    -- a line that ends the sweep, and is not read
    pub record Last (e : SweepEnd) : Type 0 where
      pub rest_end : end_from n f (lines_from fuel f at) ≡ e
      pub rest_lines : sound f (lines_from fuel f at) ≡ []

    -- what each step says of the rest
    abbrev pub Turn : Read Step → Type 0
    Turn (value (step.Value slot start end next)) = Valued slot start end next
    Turn (value (step.Nodes next)) = Last (at_nodes next n)
    Turn (refused k) = Last (refused_at k n)

    module _ (h : at < length f) (m : length f ≤ at + fuel) where
      -- the bound leaves room for a line
      one_more : fuel ≡ suc (fuel - 1)
      one_more = omega arith

      -- at `.nodes`
      turn-nodes : at_end ≡ true → Turn (step_at f at)
      unfolding end_from sound
      turn-nodes e =
          let r : lines_from fuel f at ≡ nodes (line_of f at).next = ap (λ i. lines_from i f at) one_more ∙ lines-nodes (fuel - 1) h e in
          rw (step-nodes e) (record { rest_end = rw (r, end_from); rest_lines = rw (r, sound) })

      -- at any other line, by its fault
      turn-line : (k : ℕ) → fault_in f here ≡ k → at_end ≡ false
          → lines_from fuel f at ≡ line here (lines_from (fuel - 1) f (line_of f at).next)
          → Turn (step_at f at)
      unfolding end_from sound
      turn-line zero q e r =
          rw (step_value e q) (record {
            rest_end = rw (r, q, end_from);
            rest_lines = rw (r, q, sound);
            slot_is = refl;
            start_is = refl;
            end_is = refl;
          })
      turn-line (suc k) q e r = rw (step-refused e q) (record { rest_end = rw (r, q, end_from); rest_lines = rw (r, q, sound) })

      -- by the line's key
      turn_by : (t : Bool) → at_end ≡ t → Turn (step_at f at)
      turn_by true e = turn-nodes e
      turn_by false e = turn-line (fault_in f here) refl e (ap (λ i. lines_from i f at) one_more ∙ lines_more (fuel - 1) h e)

      -- the step here, once it is known, says what is left
      pub turned : {s v : Read Step} → s ≡ step_at f at → s ≡ v → Turn v
      turned {s} p q = let t : Turn s = rw p (turn_by at_end refl) in rw q at t
