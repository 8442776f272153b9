-- The answers as C gets them: the number of a refusal, 0 of none, and its line; then the values, zeros on a refusal. Document 01, 'Answers, by
-- who can cause them'.
use Rattle.std.specs.Prelude.{ℕ, Bool, ℤ, pos}
use Rattle.codes.specs.Answer.{Read, value, refused}
use Rattle.header.specs.Header as head
use Rattle.evaluation.specs.SettingBytes.{byte_of}
use Rattle.c_answers.specs.declared.LoadAnswer.{LoadAnswer}
use Rattle.c_answers.specs.declared.EvaluateAnswer.{EvaluateAnswer}
use Rattle.c_answers.specs.declared.ExampleAnswer.{ExampleAnswer}
use Rattle.c_answers.specs.declared.ExportAnswer.{ExportAnswer}
use Rattle.c_answers.specs.declared.JoinAnswer.{JoinAnswer}
use Rattle.c_answers.specs.declared.TipAnswer.{TipAnswer}
use Rattle.c_answers.specs.declared.WidenAnswer.{WidenAnswer}

abbrev pub of_load_answer : head.HeaderAnswer → LoadAnswer
of_load_answer (head.header h) = record {
  refusal = 0;
  line = 0;
  ascii = byte_of h.ascii;
  varinfo = h.varinfo;
  ddstart = h.dd.start;
  ddlen = h.dd.len;
  nnodes = h.nnodes;
  nvars = h.nvars;
  nsuppvars = h.nsuppvars;
  nroots = h.nroots;
  next = h.next;
  lines = h.lines;
}
of_load_answer (head.refusal n at) = record {
  refusal = n;
  line = at;
  ascii = 0;
  varinfo = 0;
  ddstart = 0;
  ddlen = 0;
  nnodes = 0;
  nvars = 0;
  nsuppvars = 0;
  nroots = 0;
  next = 0;
  lines = 0;
}

abbrev pub of_evaluated : Read Bool → EvaluateAnswer
of_evaluated (value b) = record { refusal = 0; line = 0; answer = byte_of b }
of_evaluated (refused n) = record { refusal = n; line = 0; answer = 0 }

abbrev pub of_example : Read Unit → ExampleAnswer
of_example (value u) = record { refusal = 0; line = 0 }
of_example (refused n) = record { refusal = n; line = 0 }

abbrev pub of_turn : Read Unit → WidenAnswer
of_turn (value u) = record { refusal = 0; line = 0 }
of_turn (refused n) = record { refusal = n; line = 0 }

-- the level, 0 on a refusal
abbrev pub of_level : Read ℕ → TipAnswer
of_level (value l) = record { refusal = 0; line = 0; level = l }
of_level (refused n) = record { refusal = n; line = 0; level = 0 }

abbrev pub of_length : Read ℕ → ExportAnswer
of_length (value n) = record { refusal = 0; line = 0; len = n }
of_length (refused k) = record { refusal = k; line = 0; len = 0 }

abbrev pub of_root : Read ℤ → JoinAnswer
of_root (value x) = record { refusal = 0; line = 0; root = x }
of_root (refused n) = record { refusal = n; line = 0; root = pos 0 }
