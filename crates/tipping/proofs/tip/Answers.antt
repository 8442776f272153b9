-- `tip` meets its contract: where nothing refuses the call, the store's rules let the way down from the root. Whatever the work holds by then, it is
-- cleared before anything is answered.
use mathlib.Core.Path.{sym, ap, ◌∙◌}
use Prim.Native.Nat.{ℕ}
use lib.ListN.{replicate}
use lib.Seq.{length_front}
use mir.Facts.{to_z-of_z}
use Rattle.codes.proofs.Numbered.{number-not-none}
use Rattle.codes.specs.Refusals.{fault_of}
use Rattle.store.specs.Held.{held}
use Rattle.tipping.proofs.Calling.{tip-refused, tip-asks, tip-found}
use Rattle.tipping.proofs.tip.Goals as goal

pub returns-in-Err : goal.returns-in-Err
returns-in-Err c =
    record {
      answer = tip-refused (held c.args.store.now) c.args.root c.args.setting.now
          (sym (ap fault_of c.in-Err.is) ∙ (rw (to_z-of_z c.ranges.root) at c.evaluation_fault.ensures)) (number-not-none c.in-Err.refusal);
      work_left = (c.fill.ensures.after (λ y h. h)) ∙ ap (λ n. replicate n 0) c.evaluation_fault.auto.work;
    }

pub slice_bounds-lowest-end : goal.slice_bounds-lowest-end
slice_bounds-lowest-end c =
    c.marks_for-n.ensures

pub lowest-tipped-requires : goal.lowest-tipped-requires
lowest-tipped-requires c =
    rw (to_z-of_z c.ranges.root) (tip-asks (held c.args.store.now) c.args.root c.args.setting.now (sym (ap fault_of c.in_default.is) ∙ (rw (to_z-of_z c.ranges.root) at c.evaluation_fault.ensures)))

pub returns : goal.returns
returns c =
    record {
      answer = tip-found (held c.args.store.now) c.args.root c.args.setting.now
          (sym (ap fault_of c.in_default.is) ∙ (rw (to_z-of_z c.ranges.root) at c.evaluation_fault.ensures))
          (rw (to_z-of_z c.ranges.root) at c.lowest-tipped.ensures);
      work_left =
          (c.fill-2.ensures.after (λ y h. h))
          ∙ ap (λ n. replicate n 0)
          (length_front {A = ℕ} c.evaluation_fault.new.work c.lowest-tipped.new.marks
          c.marks_for-n.result c.lowest-tipped.auto.marks
          ∙ c.evaluation_fault.auto.work);
    }
