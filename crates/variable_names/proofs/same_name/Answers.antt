-- `same_name` meets its contract: names of one length are alike if their bytes are the same.
use mathlib.Core.Path.{◌∙◌}
use borrow.Author.Tests.{ne_eqb}
use Rattle.variable_names.proofs.Alike.{name-unlike, name-alike}
use Rattle.variable_names.proofs.same_name.Goals as goal

pub returns-then-len-len2 : goal.returns-then-len-len2
returns-then-len-len2 c =
    c.same_bytes.ensures ∙ name-alike _ _ _ _ _ c.if-len-len2.true

pub returns-else-len-len2 : goal.returns-else-len-len2
returns-else-len-len2 c =
    ne_eqb _ _ c.if-len-len2.false ∙ name-unlike _ _ _ _ _ c.if-len-len2.false
