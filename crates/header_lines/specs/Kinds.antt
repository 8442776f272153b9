-- What the sweep's answer stands for.
use Rattle.std.specs.Prelude.{ℕ, Result, Ok, Err}
use Rattle.codes.specs.declared.refusal.Fault.{Fault}
use Rattle.header_lines.specs.Sweep.{SweepEnd, at_nodes, refused_at}

abbrev pub of_swept : Result (ℕ × ℕ) Fault → SweepEnd
of_swept (Ok (next, n)) = at_nodes next n
of_swept (Err t) = refused_at t.number t.line
