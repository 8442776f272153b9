-- The call: what refuses it, what the way down is given, and the whole.
use Prim.Native.Nat.{ℕ, ◌≤◌}
use mathlib.Core.Path.{◌≡◌, sym, ap, ap₂, fun_ext, ◌∙◌}
use mathlib.Core.Bool.{true, xor}
use mathlib.Core.List.{List}
use lib.ListN.{length}
use lib.IntN.{ℤ, nat_abs}
use mir.Val.{SFits, to_z, of_z}
use mir.ValLaws.{to_z-of_z}
use Rattle.codes.specs.Answer.{Read, value, refused}
use Rattle.codes.specs.Limits.{limits}
use Rattle.edges.specs.Width.{edge_width}
use Rattle.store.specs.Store.{Store, slots}
use Rattle.store.specs.Meaning.{Setting, setting_of}
use Rattle.evaluation.specs.Evaluation.{evaluation_fault}
use Rattle.evaluation.specs.Evaluated.{Walks}
use Rattle.evaluation.proofs.Walk.{slots-answer}
use Rattle.evaluation.proofs.Evaluating.{Evaluates, judged, past-checks, rules-walk, setting-long}
use Rattle.tipping.specs.Tip.{flipped, tips, lowest_from, tip_of}

-- the call, as a caller reads its root
pub tip-read : (σ : Store) (e : ℤ) → SFits edge_width e → (s : List ℕ) → tip_of limits σ (to_z edge_width (of_z edge_width e)) s ≡ tip_of limits σ e s
tip-read σ e f s = rw (to_z-of_z edge_width e f)

-- what tips is a matter of the lists alone
pub tips-slots : (σ : Store) (e : ℤ) (s : Setting) → tips σ e s ≡ tips (slots σ.level σ.then σ.els) e s
tips-slots σ e s = fun_ext (λ l. ap₂ xor (slots-answer σ (flipped s l) e) (slots-answer σ s e))

module _ (σ : Store) (e : ℤ) (s : List ℕ) where
  -- A refusal is the definition's.
  pub tip-refused : {n : ℕ} → n ≡ evaluation_fault limits σ e s → (n ≡ 0 → ⊥) → refused n ≡ tip_of limits σ e s
  unfolding tip_of
  tip-refused q h = sym (rw q ((judged limits σ e s (lowest_from (tips σ e (setting_of s)) 0 σ.levels)).1 (λ z. h (q ∙ z))))

  -- Nothing refuses it: the way down is given what it asks,
  module _ (q : 0 ≡ evaluation_fault limits σ e s) where
    clear : Evaluates limits σ e s
    clear = (judged limits σ e s (value true)).0 (sym q)

    pub tip-asks : (1 ≤ nat_abs e) × Walks σ s (nat_abs e)
    tip-asks = (clear.edge.some, rules-walk clear.rules (nat_abs e) clear.edge.there (setting-long s σ.levels clear.setting))

    -- and gives the definition's answer.
    pub tip-found : {r : Read ℕ} → r ≡ lowest_from (tips σ e (setting_of s)) 0 (length s) → r ≡ tip_of limits σ e s
    unfolding tip_of
    tip-found h =
        h ∙ ap (lowest_from (tips σ e (setting_of s)) 0) (setting-long s σ.levels clear.setting)
        ∙ sym (past-checks limits σ e s (lowest_from (tips σ e (setting_of s)) 0 σ.levels) clear)
