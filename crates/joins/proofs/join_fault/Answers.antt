-- `join_fault` meets its contract: the checks come in the order of the refusals.
use borrow.Author.Rules.{rules}
use Rattle.insertion.proofs.Finding.{finds-most}
use Rattle.joins.proofs.join_fault.Goals as goal

pub returns : goal.returns
returns c = record {
  fault = search rules;
  finds = λ q. finds-most _ c.keeps_rules.ensures.kept c.if-not-keeps_rules.false _ _ _ c.most_nodes-most.ensures c.keeps_rules.ensures.found;
}
