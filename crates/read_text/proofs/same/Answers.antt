-- `same` meets its contract: the bytes not compared yet decide as the whole texts do.
use mathlib.Core.Path.{refl, sym, ◌∙◌}
use native.Mathlib.Omega.{arith}
use Rattle.read_text.proofs.Alike.{alike-lengths, alike-more, alike-not, alike_end}
use Rattle.read_text.proofs.same.Goals as goal

pub returns-then-a-b : goal.returns-then-a-b
returns-then-a-b c =
    sym (alike-lengths _ _ c.if-a-b.true)

pub loop-i-init : goal.loop-i-init
loop-i-init c =
    refl

pub returns-then-a-i : goal.returns-then-a-i
returns-then-a-i c =
    let a = c.args in
    let at = c.loop-i in
    sym (at.invariant ∙ alike-not a.a.now a.b.now at.i (omega arith) (omega arith) c.if-a-i.true)

pub loop-i-preserved : goal.loop-i-preserved
loop-i-preserved c =
    let a = c.args in
    let at = c.loop-i in
    at.invariant ∙ alike-more a.a.now a.b.now at.i (omega arith) (omega arith) c.if-a-i.false

pub returns : goal.returns
returns c =
    let a = c.args in
    let at = c.loop-i in
    sym (at.invariant ∙ alike_end a.a.now a.b.now at.i (omega arith) (omega arith))
