-- `evaluate` meets its contract: where nothing refuses the evaluation, the store's rules let the walk down from the root.
use mathlib.Core.Path.{◌≡◌, ap, ◌∙◌}
use lib.ListN.{length, replicate}
use mir.ValLaws.{to_z-of_z}
use Rattle.std.proofs.lemmas.Result.{err_from_is_err_and}
use Rattle.codes.proofs.Numbered.{number-not-none}
use Rattle.edges.specs.Width.{edge_width}
use Rattle.evaluation.proofs.Evaluating.{fault-walks, fault-refuses, fault-answers}
use Rattle.evaluation.proofs.evaluate.Goals as goal
use Rattle.evaluation.proofs.evaluate.Goals.{After-fill}

-- the work is cleared before anything is answered
cleared : (c : After-fill) → c.fill.new.self ≡ replicate (length c.args.work.now) 0
cleared c = c.fill.ensures.after (λ y h. h) ∙ ap (λ n. replicate n 0) c.evaluation_fault-checked.auto.work

pub returns-in_err-checked : goal.returns-in_err-checked
returns-in_err-checked c =
    let p = err_from_is_err_and c.from_residual.result c.from_residual.ensures.1 in
    rw (p.1, p.2) (record {
      answer = fault-refuses _ _ _ (rw (to_z-of_z edge_width c.args.root c.ranges.root) at c.in_err-checked.ensures)
          (number-not-none _);
      work_left = cleared (goal.at.returns-in_err-checked c).After-fill;
    })

pub eval_root-requires : goal.eval_root-requires
eval_root-requires c =
    fault-walks _ _ _ c.in_ok-checked.ensures

pub returns : goal.returns
returns c =
    let root = to_z-of_z edge_width c.args.root c.ranges.root in
    record {
      answer = fault-answers _ _ _ (rw root at c.in_ok-checked.ensures) _ (rw root at c.eval_root.ensures);
      work_left = cleared (goal.at.returns c).After-fill;
    }
