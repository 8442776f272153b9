-- `number_fault` meets its contract.
use Rattle.header_checks.proofs.Numbered.{vars-over, nodes-over, supp-over, numbers-pass}
use Rattle.header_checks.proofs.number_fault.Goals as goal

pub returns-then-nvars-gt-VAR_LIMIT : goal.returns-then-nvars-gt-VAR_LIMIT
returns-then-nvars-gt-VAR_LIMIT c =
    vars-over _ _ _ _ c.if-nvars-gt-VAR_LIMIT.true

pub returns-then-nnodes : goal.returns-then-nnodes
returns-then-nnodes c =
    nodes-over _ _ _ _ c.if-nvars-gt-VAR_LIMIT.false c.if-nnodes.true

pub returns-then-nvars-nsuppvars : goal.returns-then-nvars-nsuppvars
returns-then-nvars-nsuppvars c =
    supp-over _ _ _ _ c.if-nvars-gt-VAR_LIMIT.false c.if-nnodes.false c.if-nvars-nsuppvars.true

pub returns : goal.returns
returns c =
    numbers-pass _ _ _ _ c.if-nvars-gt-VAR_LIMIT.false c.if-nnodes.false c.if-nvars-nsuppvars.false
