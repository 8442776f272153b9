-- `store_fault` meets its contract: no store has more nodes than the index is made for.
use Prim.Native.Nat.{ℕ}
use mathlib.Core.Path.{◌≡◌}
use native.Mathlib.Omega.{arith}
use Rattle.insertion.proofs.Finding.{finds-most}
use Rattle.stages.proofs.StageLaws.{store_found, keeps-none, breaks-some}
use Rattle.stages.proofs.store_fault.Goals as goal

pub returns-then-found-ne0 : goal.returns-then-found-ne0
returns-then-found-ne0 c =
    record { fault = store_found _ _ c.if-found-ne0.true; finds = λ q. absurd (c.if-found-ne0.true q) }

pub shape_of-work-then-keeps_rules : goal.shape_of-work-then-keeps_rules
shape_of-work-then-keeps_rules c =
    c.keeps_rules.auto.work

pub returns-then-keeps_rules : goal.returns-then-keeps_rules
returns-then-keeps_rules c =
    record {
      fault = keeps-none _ _ c.if-found-ne0.false c.keeps_rules.ensures.kept
          c.if-keeps_rules.true;
      finds = λ q. finds-most _ c.keeps_rules.ensures.kept c.if-keeps_rules.true _ _ _
          c.most_nodes-most.ensures c.keeps_rules.ensures.found;
    }

pub shape_of-work : goal.shape_of-work
shape_of-work c =
    c.keeps_rules.auto.work

pub returns : goal.returns
returns c =
    record {
      fault = rw c.number.ensures (breaks-some _ _ c.if-found-ne0.false c.keeps_rules.ensures.kept c.if-keeps_rules.false);
      finds = λ q. absurd (let z : ◌≡◌ {A = ℕ} 3 0 = rw c.number.ensures at q in omega arith);
    }
