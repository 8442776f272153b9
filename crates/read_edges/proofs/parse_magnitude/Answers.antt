-- `parse_magnitude` meets its contract: digits are read, and get their sign.
use mathlib.Core.Path.{ap, sym, ◌∙◌}
use native.Mathlib.Omega.{arith}
use mir.Facts.{to_z-of_z}
use mir.Syntax.{w64}
use Rattle.std.proofs.lemmas.Result.{err_from_is_err_and}
use Rattle.codes.specs.Answer.{value}
use Rattle.read_numbers.proofs.Number.{number-below}
use Rattle.read_edges.specs.Edges.{with_sign}
use Rattle.read_edges.proofs.parse_magnitude.Goals as goal

pub returns-in_err-magnitude : goal.returns-in_err-magnitude
returns-in_err-magnitude c =
    let p = err_from_is_err_and c.from_residual.result c.from_residual.ensures.1 in
    rw (p.1, p.2) (ap (with_sign _) c.in_err-magnitude.ensures)

pub signed-requires : goal.signed-requires
signed-requires c =
    number-below _ _ _ (omega arith) (sym c.in_ok-magnitude.ensures)

pub returns : goal.returns
returns c =
    ap value (to_z-of_z {w = w64} (record { sfits = c.signed.type_inv }) ∙ c.signed.ensures) ∙ ap (with_sign _) c.in_ok-magnitude.ensures
