-- `step_at` meets its contract: the line, its parts, its key and its fault, read one after the other, are those of `step_at`.
use mathlib.Core.Path.{◌≡◌, refl, sym, ap}
use mathlib.Core.Bool.{true, false}
use borrow.Author.Rules.{rules}
use denote.Enum.Bare.{sameb, same_true, same_false}
use Rattle.std.specs.Prelude.{Option, Some, None}
use Rattle.std.specs.Option.{option_eq}
use Rattle.std.proofs.lemmas.Result.{err_from_is_err_and}
use Rattle.codes.proofs.Numbered.{number-not-none}
use Rattle.header_keys.specs.contracts.Key.{the_type}
use Rattle.header_keys.specs.declared.Key.{Key}
use Rattle.header_keys.specs.declared.Key.TheVariants.{Nodes}
use Rattle.header_lines.proofs.Lines.{read-nodes, read-refused, read-value}
use Rattle.header_lines.proofs.step_at.Goals as goal

-- A line's word that passes the test of `.nodes` is that key,
is-nodes : (o : Option Key) → option_eq (sameb the_type) o (Some Nodes) ≡ true → o ≡ Some Nodes
is-nodes (Some k) e = ap Some (same_true the_type (search rules) k Nodes e)
is-nodes None e = cc

-- and one that fails it is not.
not-nodes : (o : Option Key) → option_eq (sameb the_type) o (Some Nodes) ≡ false → o ≡ Some Nodes → ⊥
not-nodes (Some k) e q = same_false the_type k Nodes e cc
not-nodes None e q = cc

pub returns-then-eq-clause-value : goal.returns-then-eq-clause-value
returns-then-eq-clause-value c =
    let l = c.line_at-line.ensures.value in
    let d = c.field_of-field.ensures.value in
    read-nodes _ _ l d c.key_of-key.ensures (is-nodes _ (sym c.if-eq.ensures))

pub returns-in_err-fault_of-clause-value : goal.returns-in_err-fault_of-clause-value
returns-in_err-fault_of-clause-value c =
    let l = c.line_at-line.ensures.value in
    let d = c.field_of-field.ensures.value in
    let p = err_from_is_err_and c.from_residual.result c.from_residual.ensures.1 in
    rw (p.1, p.2) (read-refused _ _ l d c.key_of-key.ensures (not-nodes _ (sym c.if-eq.ensures)) c.in_err-fault_of.ensures (number-not-none _))

pub returns-clause-value : goal.returns-clause-value
returns-clause-value c =
    let l = c.line_at-line.ensures.value in
    let d = c.field_of-field.ensures.value in
    rw c.slot_of.ensures (read-value _ _ l d c.key_of-key.ensures (not-nodes _ (sym c.if-eq.ensures)) c.in_ok-fault_of.ensures refl)
