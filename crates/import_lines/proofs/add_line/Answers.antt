-- `add_line` meets its contract: a terminal line is node 1, another one a node of its children's edges.
use mathlib.Core.Path.{◌≡◌, ap, ◌∙◌}
use borrow.Author.Rules.{rules}
use mir.Val.{to_z, of_z}
use mir.ValLaws.{to_z-of_z}
use Rattle.edges.specs.Width.{edge_width}
use Rattle.store.specs.Held.{held_mut}
use Rattle.imported.specs.Build.{edge_for}
use Rattle.import_lines.proofs.Progress.{terminal-added, inner-added}
use Rattle.import_lines.proofs.add_line.Goals as goal

pub returns-in_default-clause-added : goal.returns-in_default-clause-added
returns-in_default-clause-added c = rw c.in_default.is (terminal-added (held_mut c.args.store.now) _ _ _ _ c.requires.known)

pub returns-clause-added : goal.returns-clause-added
returns-clause-added c =
    let a : to_z edge_width (of_z edge_width c.edge_for-a.result) ≡ edge_for c.args.edges.now c.in-Inner.t =
    to_z-of_z edge_width c.edge_for-a.result (search rules) ∙ c.edge_for-a.ensures
    ∙ ap (edge_for c.args.edges.now) (to_z-of_z edge_width c.in-Inner.t (search rules)) in
    let b : to_z edge_width (of_z edge_width c.edge_for-b.result) ≡ edge_for c.args.edges.now c.in-Inner.e =
    to_z-of_z edge_width c.edge_for-b.result (search rules) ∙ c.edge_for-b.ensures
    ∙ ap (edge_for c.args.edges.now) (to_z-of_z edge_width c.in-Inner.e (search rules)) in
    rw c.in-Inner.is (inner-added (held_mut c.args.store.now) _ _ c.args.edges.now _ _ _ _ _ _ (rw (a, b) at c.make.ensures.made))
