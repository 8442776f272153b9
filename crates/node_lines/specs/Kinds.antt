-- What a decoded line stands for.
use Rattle.std.specs.Prelude.{ℕ, Result, Ok, Err}
use Rattle.codes.specs.Answer.{Step, got, fails}
use Rattle.codes.specs.Refusals.{number_of}
use Rattle.codes.specs.declared.refusal.Refusal.{Refusal}
use Rattle.node_lines.specs.Line.{Line, terminal, inner}
use Rattle.node_lines.specs.declared.NodeLine.{NodeLine}
use Rattle.node_lines.specs.declared.NodeLine.TheVariants as node_line

abbrev pub line_said : NodeLine → Line
line_said node_line.Terminal = terminal
line_said (node_line.Inner p t e) = inner p t e

-- with the position after it
abbrev pub of_decoded : Result (NodeLine × ℕ) Refusal → Step Line
of_decoded (Ok (l, next)) = got (line_said l) next
of_decoded (Err r) = fails (number_of r)
