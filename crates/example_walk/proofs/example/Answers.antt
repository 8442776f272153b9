-- `example` meets its contract: the setting is cleared before anything is tested, the work after the store's check, and the walk is given as many bytes
-- of the setting as there are levels.
use mathlib.Core.Path.{◌≡◌, ap, ◌∙◌}
use lib.ListN.{length, replicate}
use mir.ValLaws.{to_z-of_z}
use Rattle.codes.proofs.Numbered.{number-not-none}
use Rattle.edges.specs.Width.{edge_width}
use Rattle.std.proofs.lemmas.Result.{err_from_is_err_and}
use Rattle.example_walk.proofs.Calling.{refused-answer, refused-left, walk-asks, found-answer, found_left}
use Rattle.example_walk.proofs.example.Goals as goal
use Rattle.example_walk.proofs.example.Goals.{After-fill-2}

zeros : (c : After-fill-2) → c.fill.new.self ≡ replicate (length c.args.setting.now) 0
zeros c = c.fill.ensures.after (λ y h. h)

cleared : (c : After-fill-2) → c.fill-2.new.self ≡ replicate (length c.args.work.now) 0
cleared c = c.fill-2.ensures.after (λ y h. h) ∙ ap (λ n. replicate n 0) c.example_fault-checked.auto.work

pub returns-in_err-checked : goal.returns-in_err-checked
returns-in_err-checked c =
    let d = (goal.at.returns-in_err-checked c).After-fill-2 in
    let q = rw (to_z-of_z edge_width c.args.root c.ranges.root, c.fill.ensures.len) at c.in_err-checked.ensures in
    let p = err_from_is_err_and c.from_residual.result c.from_residual.ensures.1 in
    rw (p.1, p.2) (record {
      answer = refused-answer _ _ _ _ q (number-not-none _);
      setting_left = refused-left _ _ _ _ q (number-not-none _) (zeros d);
      work_left = cleared d;
    })

pub walk-requires : goal.walk-requires
walk-requires c =
    let d = (goal.at.walk-requires c).After-fill-2 in
    let root = to_z-of_z edge_width c.args.root c.ranges.root in
    let q = rw (root, c.fill.ensures.len) at c.in_ok-checked.ensures in
    rw root (walk-asks _ _ _ _ q (zeros d))

pub returns : goal.returns
returns c =
    let d = (goal.at.returns c).After-fill-2 in
    let root = to_z-of_z edge_width c.args.root c.ranges.root in
    let q = rw (root, c.fill.ensures.len) at c.in_ok-checked.ensures in
    let f = rw root at c.walk.ensures.first in
    let left = c.walk.ensures.left in
    record { answer = found-answer _ _ _ _ q (zeros d) f left; setting_left = found_left _ _ _ _ q (zeros d) f left; work_left = cleared d }
