-- What an answer of the code stands for.
use Rattle.std.specs.Prelude.{Result, Ok, Err}
use Rattle.codes.specs.Answer.{Read, value, refused}
use Rattle.codes.specs.Refusals.{number_of}
use Rattle.codes.specs.declared.refusal.Refusal.{Refusal}
use Rattle.node_lines.specs.Kinds.{line_said}
use Rattle.node_lines.specs.Line.{Line}
use Rattle.node_lines.specs.declared.NodeLine.{NodeLine}

abbrev pub of_parsed : Result NodeLine Refusal → Read Line
of_parsed (Ok l) = value (line_said l)
of_parsed (Err r) = refused (number_of r)
