-- `parse_first` meets its contract: the line's first word is read as a number.
use mathlib.Core.Path.{◌≡◌, sym, ap, ◌∙◌}
use Prim.Native.Nat.{◌+◌, ◌≤◌}
use native.Mathlib.Omega.{arith}
use lib.ListN.{length}
use borrow.Author.Rules.{rules}
use Rattle.std.specs.Prelude.{Some}
use Rattle.std.proofs.lemmas.Result.{err_from_is_err_and}
use Rattle.codes.specs.declared.refusal.Refusal.TheVariants as refusal
use Rattle.read_numbers.specs.Number.{ends_at}
use Rattle.read_numbers.proofs.Words.{first-no_word, first-of_word, first-inside}
use Rattle.read_numbers.proofs.parse_first.Goals as goal

pub returns-in_err-at : goal.returns-in_err-at
returns-in_err-at g c =
    let p = err_from_is_err_and c.from_residual.result c.from_residual.ensures.1 in
    let e : c.in_err-at.field-0.0 ≡ refusal.NotANumber = grind arith in
    let none = rw c.in_err-at.ensures.ok_part at c.next.ensures.steps in
    rw (p.1, p.2, e) (sym (first-no_word _ _ (sym c.of.ensures ∙ none.0)))

pub returns-in_err-value : goal.returns-in_err-value
returns-in_err-value g c =
    let p = err_from_is_err_and c.from_residual-in_err-value.result c.from_residual-in_err-value.ensures.1 in
    let e : c.next.result ≡ Some (c.in_ok-at.at, c.in_ok-at.word) = grind arith in
    let first = rw e at c.next.ensures.steps in
    rw (p.1, p.2) (ap (ends_at _) c.in_err-value.ensures ∙ sym (first-of_word _ (sym c.of.ensures ∙ first) _))

pub overflow_add-result : goal.overflow_add-result
overflow_add-result g c =
    let e : c.next.result ≡ Some (c.in_ok-at.at, c.in_ok-at.word) = grind arith in
    let first = rw e at c.next.ensures.steps in
    let inside : c.in_ok-at.at + length c.in_ok-at.word.now ≤ length c.args.input.now = first-inside _ (sym c.of.ensures ∙ first) in search rules

pub returns : goal.returns
returns g c =
    let e : c.next.result ≡ Some (c.in_ok-at.at, c.in_ok-at.word) = grind arith in
    let first = rw e at c.next.ensures.steps in
    ap (ends_at _) c.in_ok-value.ensures ∙ sym (first-of_word _ (sym c.of.ensures ∙ first) _)
