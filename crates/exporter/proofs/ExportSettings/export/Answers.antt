-- `export` meets its contract: the file is written where nothing is refused.
use mathlib.Core.Path.{sym, ap, ◌∙◌}
use Rattle.std.proofs.Common.{rules}
use Rattle.codes.specs.Refusals.{fault_of}
use Rattle.exporter.proofs.Promised.{vars-filled}
use Rattle.exporter.proofs.ExportSettings.export.Goals as goal

pub write_file-n-requires : goal.write_file-n-requires
write_file-n-requires c =
    let j = c.export_fault-judged.ensures in
    let none = ap fault_of c.in_ok-judged.was in
    let v = vars-filled _ _ _ _ _ _ _ _ _ j.answer none j.vars_left c.export_fault-judged.auto.vars in
    record {
      taken = sym j.answer ∙ none;
      seats = v.0;
      vars_long = v.1;
      slots_clear = search rules;
      numbers_clear = search rules;
      out_clear = search rules;
    }
