-- What the answers of the code stand for: for each case its values, or its number of document 01 with its line.
use Rattle.header.specs.Header as header
use Rattle.header_values.specs.Kinds.{of_var_info, of_place}
use Rattle.header.specs.declared.DumpHeader.{DumpHeader}
use Rattle.std.specs.Prelude.{Result, Ok, Err}
use Rattle.codes.specs.declared.refusal.Fault.{Fault}

abbrev pub of_header : DumpHeader → header.Header
of_header h = record {
  ascii = h.ascii;
  varinfo = of_var_info h.varinfo;
  dd = of_place h.dd;
  nnodes = h.nnodes;
  nvars = h.nvars;
  nsuppvars = h.nsuppvars;
  nroots = h.nroots;
  next = h.next;
  lines = h.lines;
}

-- what a load of a header answers
abbrev pub Loaded : Type 0
Loaded = Result DumpHeader Fault

abbrev pub of_loaded : Loaded → header.HeaderAnswer
of_loaded (Ok h) = header.header (of_header h)
of_loaded (Err t) = header.refusal t.number t.line
