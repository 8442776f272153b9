-- `main` is safe: a file that is written lies within the output, and a refusal's line within its 64 bytes.
use Rattle.std.proofs.Common.{sym}
use lib.Seq.{length-take-le}
use Rattle.recoding.proofs.Fitting.{recode-within}
use Rattle.recode_text.proofs.RefusalLine.{refusal-within}
use Rattle.recode.proofs.main.Goals as goal

pub slice_bounds-output-end : goal.slice_bounds-output-end
slice_bounds-output-end c =
    let v = c.in-Ok in
    rw c.recode.auto.out (recode-within _ _ v.n (sym v.ensures.result_value))

pub slice_bounds-write_all-end : goal.slice_bounds-write_all-end
slice_bounds-write_all-end c =
    let v = c.in-Ok in
    sym (length-take-le _ _ (rw c.recode.auto.out (recode-within _ _ v.n (sym v.ensures.result_value))))

pub slice_bounds-text-end : goal.slice_bounds-text-end
slice_bounds-text-end c =
    let w = c.write_refusal-len.ensures in
    refusal-within c.in-Err.fault.number c.in-Err.fault.line (w.value, w.out_after)

pub slice_bounds-write_all-end-in-Err : goal.slice_bounds-write_all-end-in-Err
slice_bounds-write_all-end-in-Err c =
    let w = c.write_refusal-len.ensures in
    sym (length-take-le _ _ (refusal-within c.in-Err.fault.number c.in-Err.fault.line (w.value, w.out_after)))
