-- `known` meets its contract: a shortcut, or a result that is remembered.
use mathlib.Core.Path.{sym, ◌∙◌}
use Rattle.joining.proofs.Knowing.{known-short, known-found}
use Rattle.joining.proofs.known.Goals as goal

pub returns-then-is_some : goal.returns-then-is_some
returns-then-is_some c =
    known-short _ c.args.op c.args.a c.args.b c.requires.edge.0 c.requires.edge.1 _ c.shortcut-short.ensures (sym c.is_some.ensures ∙ c.if-is_some.true)

pub returns : goal.returns
returns c =
    known-found _ c.args.op c.args.a c.args.b c.requires.edge.0 c.requires.edge.1 _ c.shortcut-short.ensures (sym c.is_some.ensures ∙ c.if-is_some.false)
    _ c.find.ensures
