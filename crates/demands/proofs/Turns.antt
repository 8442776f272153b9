-- The turn of an old store, by what its calls promise: refused, it leaves zeros, for the first rule that is broken; else the store turned. Document 02,
-- request 5: 'slot lists unequal or shorter than the old count, or other than 256 heads, meet 1, before 3.'
use mathlib.Core.Path.{◌≡◌, refl, sym, ◌∙◌}
use mathlib.Core.List.{List}
use Prim.Native.Nat.{ℕ}
use lib.IntN.{ℤ}
use Rattle.codes.specs.Answer.{Read, value, refused}
use Rattle.codes.specs.Lent.{Part}
use Rattle.store.specs.Store.{Store}
use Rattle.std.specs.Prelude.{Result}
use Rattle.codes.specs.Refusals.{read_of}
use Rattle.codes.specs.declared.refusal.Refusal.{Refusal}
use Rattle.widened.specs.Old.{OldRules}
use Rattle.widened.specs.Widen.{NewLengths, lengths_of, widen_answer, widened, zeroed, WidenRefused}
use Rattle.widened.proofs.Refusals.{widen-refused-exactly, widen-accepted, accepted-left, refused-left}
use Rattle.widening.specs.Promises.{WidenPromise}
use Rattle.calls.specs.Outcome.{verdict_read, Tells}
use Rattle.c_answers.specs.declared.WidenAnswer.{WidenAnswer}
use Rattle.c_answers.specs.Answers as C
use Rattle.firmware.specs.Promises as firmware
use Rattle.firmware.specs.Promises.{ZtWidenPromise}

-- `dddmp::widen`: the old store, and the new one as it was lent and as it is left
module _ (σ before after : Store) (work : Part (List ℕ)) {r : Result Unit Refusal} (p : WidenPromise σ before after work r) where
  -- 'On any refusal outputs are all zeros'
  pub widen-refuses : (n : ℕ) → read_of r ≡ refused n → WidenRefused (lengths_of before) σ n × (after ≡ zeroed (lengths_of before) σ.levels)
  widen-refuses n q =
      let e = sym p.answer ∙ q in ((widen-refused-exactly (lengths_of before) σ n).0 e, p.store ∙ refused-left (lengths_of before) σ n e)

  -- 'a new one with its level count and every node, chain and root number kept'
  pub widen-turns : read_of r ≡ value tt → OldRules σ × (after ≡ widened (lengths_of before).level σ)
  widen-turns q =
      let e = sym p.answer ∙ q in (((widen-accepted (lengths_of before) σ).0 e).1, p.store ∙ accepted-left (lengths_of before) σ e)

-- `zt_widen`: number and line are those of the answer
zt-turned : (a : Read Unit) → Tells (C.of_turn a).refusal (C.of_turn a).line (verdict_read a)
zt-turned (value u) = (refl, refl)
zt-turned (refused n) = (refl, refl)

module _ (levels old_count : ℕ) (old_level : Part (List ℕ)) (old_then old_els : Part (List ℤ)) (old_next old_heads : Part (List ℕ)) (count : Part ℕ)
    (level : Part (List ℕ)) (then els : Part (List ℤ)) (next heads work : Part (List ℕ)) where
  -- the old store, and the lengths of the lists for the new one
  abbrev turning : Store
  turning = firmware.given levels old_count old_level old_then old_els old_next old_heads count level then els next heads

  abbrev room : NewLengths
  room = firmware.lent levels old_count old_level old_then old_els old_next old_heads count level then els next heads

  pub zt-widen-tells : {r : WidenAnswer} → ZtWidenPromise levels old_count old_level old_then old_els old_next old_heads count level then els next heads work r
      → Tells r.refusal r.line (verdict_read (widen_answer room turning))
  zt-widen-tells p = rw p.answer (zt-turned (widen_answer room turning))
