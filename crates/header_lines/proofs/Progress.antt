-- The sweep as it goes on: at each line the two lists hold the last values of the lines before, and what is left decides.
use mathlib.Core.Path.{◌≡◌, refl, sym, ◌∙◌}
use mathlib.Core.List.{List, [], ◌∷◌, ◌++◌, map, append_assoc, append-nil}
use Prim.Native.Nat.{ℕ, ◌+◌, ◌-◌, ◌≤◌, ◌<◌}
use native.Mathlib.Omega.{arith}
use lib.ListN.{length, set, replicate}
use Rattle.std.specs.Prelude.{Result, Err}
use Rattle.codes.specs.Answer.{value, refused}
use Rattle.codes.specs.Refusals.{read_of, fault_at}
use Rattle.codes.specs.declared.refusal.Refusal.{Refusal}
use Rattle.codes.specs.declared.refusal.Fault.{Fault}
use Rattle.header_lines.specs.declared.Step.{Step}
use Rattle.header_lines.specs.declared.Step.TheVariants as step
use Rattle.header_lines.specs.Sweep.{Said, SweepEnd, at_nodes, refused_at, lines_from, lines_of, end_from, end_of, sound, step_at}
use Rattle.header_lines.specs.Sweep.{keys, lasts, span_start, span_end, Within, Table, EndWithin}
use Rattle.header_lines.proofs.Lasts.{lasts-more}
use Rattle.header_lines.proofs.Tables.{table_none, zeros-none, table_more}
use Rattle.header_lines.proofs.Lines.{lines_cut, here, Valued, Last, turned}

-- before the line at a position, whose number is given; `fuel` bounds the lines from here on
pub record Progress (f starts ends : List ℕ) (at line : ℕ) : Type 0 where
  pub fuel : ℕ
  pub enough : length f ≤ at + fuel
  pub inside : at ≤ length f
  pub counted : line ≤ at + 1
  pub before : List Said
  pub rest_end : end_of f (lines_of f) ≡ end_from line f (lines_from fuel f at)
  pub rest_lines : sound f (lines_of f) ≡ before ++ sound f (lines_from fuel f at)
  pub starts_lie : starts ≡ map span_start (lasts before)
  pub ends_lie : ends ≡ map span_end (lasts before)
  pub table : Table f starts ends

-- at the first line
pub progress_start : (f starts ends : List ℕ) → starts ≡ replicate keys 0 → ends ≡ replicate keys 0 → Progress f starts ends 0 1
unfolding end_of lines_of
progress_start f starts ends a b =
    record {
      fuel = length f;
      enough = omega arith;
      inside = omega arith;
      counted = omega arith;
      before = [];
      rest_end = refl;
      rest_lines = refl;
      starts_lie = a ∙ zeros-none span_start refl;
      ends_lie = b ∙ zeros-none span_end refl;
      table = rw (a, b) (table_none f);
    }

-- what the sweep owes at an end
abbrev pub Outcome : List ℕ → List ℕ → List ℕ → SweepEnd → Type 0
Outcome f starts ends e =
    (e ≡ end_of f (lines_of f))
    × ((starts ≡ map span_start (lasts (sound f (lines_of f))))
    × ((ends ≡ map span_end (lasts (sound f (lines_of f)))) × (EndWithin f e × Table f starts ends)))

module _ {f starts ends : List ℕ} {at line : ℕ} (p : Progress f starts ends at line) where
  -- nothing more is kept
  progress-last : {e : SweepEnd} → Last f at line p.fuel e → EndWithin f e → Outcome f starts ends e
  progress-last l w =
      let all : sound f (lines_of f) ≡ p.before = p.rest_lines ∙ rw l.rest_lines (append-nil p.before) in
      (sym (p.rest_end ∙ l.rest_end), (rw all p.starts_lie, (rw all p.ends_lie, (w, p.table))))

  -- at the end of the input
  pub progress-cut : length f ≤ at → Outcome f starts ends (refused_at 10 0)
  unfolding end_from sound
  progress-cut h =
      progress-last (record { rest_end = rw (lines_cut p.fuel f at h); rest_lines = rw (lines_cut p.fuel f at h) }) tt

  -- a line more, whose value is kept
  progress-more : {slot start end next : ℕ} → Valued f at line p.fuel slot start end next → Within f at slot start end next
      → Progress f (set starts slot start) (set ends slot end) next (line + 1)
  progress-more {slot} {start} {end} {next} v w =
      record {
        fuel = p.fuel - 1;
        enough = omega arith;
        inside = w.next_before;
        counted = omega arith;
        before = p.before ++ (here f at ∷ []);
        rest_end = p.rest_end ∙ v.rest_end;
        rest_lines = p.rest_lines ∙ rw (v.rest_lines, append_assoc);
        starts_lie = rw (p.starts_lie, v.slot_is, v.start_is) (lasts-more span_start p.before (here f at));
        ends_lie = rw (p.ends_lie, v.slot_is, v.end_is) (lasts-more span_end p.before (here f at));
        table = table_more p.table slot start end w.known w.ordered w.inside;
      }

  -- At a line its step says how the sweep goes on.
  module _ (h : at < length f) where
    -- after a line without a fault
    pub progress-value : {slot start end next : ℕ} → value (step.Value slot start end next) ≡ step_at f at → Within f at slot start end next
        → Progress f (set starts slot start) (set ends slot end) next (line + 1)
    progress-value a w = progress-more (turned f at line p.fuel h p.enough a refl) w

    -- at `.nodes`
    pub progress-nodes : {next : ℕ} → value (step.Nodes next) ≡ step_at f at → next ≤ length f → Outcome f starts ends (at_nodes next line)
    progress-nodes a w = progress-last (turned f at line p.fuel h p.enough a refl) w

    -- at a fault
    pub progress-refused : {n : ℕ} → refused n ≡ step_at f at → Outcome f starts ends (refused_at n line)
    progress-refused a = progress-last (turned f at line p.fuel h p.enough a refl) tt

    -- which the code hands on as that of the line
    pub progress-fault : {r : Result Step Refusal} {t : Fault} → read_of r ≡ step_at f at → (e : Refusal) × (r ≡ Err e) × (t ≡ fault_at e line)
        → Outcome f starts ends (refused_at t.number t.line)
    progress-fault a (e, q, k) = rw k (progress-refused (rw q at a))
