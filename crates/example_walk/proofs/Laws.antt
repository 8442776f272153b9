-- What the call gives: by the rules that it is judged by, the first setting and nothing else; it evaluates to the wanted answer; levels that the root
-- doesn't look at are no; and none is found exactly for an edge that has the other answer at every setting.
use Prim.Native.Nat.{ℕ, zero, suc, ◌≤◌, ◌<◌}
use mathlib.Core.Path.{◌≡◌, refl, sym, ap, ◌∙◌}
use mathlib.Core.Logic.{◌↔◌, ◌⊎◌, inl, inr, ⊎_elim}
use mathlib.Core.Bool.{Bool, true, false, not, xor, true≢false}
use mathlib.Core.List.{List, [], ◌∷◌}
use native.Mathlib.Omega.{arith}
use lib.Dec.{ltb}
use lib.ListN.{set, replicate, length-set, length-replicate}
use lib.Seq.{get_or-set_other}
use lib.IntN.{ℤ, pos, negsuc, nat_abs}
use borrow.Author.Tests.{ltb-true, ltb-false}
use Rattle.codes.specs.Answer.{Read, value, refused}
use Rattle.codes.specs.Limits.{Limits}
use Rattle.edges.specs.Edge.{minus, turn}
use Rattle.store.specs.Store.{Store}
use Rattle.store.specs.Keeps.{keeps, keeps-true, keeps-false, rules-keeps}
use Rattle.store.specs.Meaning.{node, answer}
use Rattle.store.specs.Rules.{Rules}
use Rattle.store.specs.Growth.{is_root, EdgeOf}
use Rattle.store.specs.Settings.{chosen}
use Rattle.store.proofs.Growth.{root-edge, edge-root}
use Rattle.store.proofs.Meaning.{node-one}
use Rattle.store.proofs.Canonicity.{constant}
use Rattle.evaluation.specs.Evaluation.{evaluation}
use Rattle.evaluation.specs.SettingBytes.{bytes_of}
use Rattle.evaluation.proofs.SettingBytes.{bytes-setting, setting-chosen}
use Rattle.example_walk.specs.Example.{settings, first_of, answers_as, example_of}
use Rattle.example_walk.specs.First.{Before, here, later, NoneIs}
use Rattle.example_walk.specs.Given.{Given, Unseen, other_always}
use Rattle.example_walk.specs.Course.{never}
use Rattle.example_walk.proofs.First.{is-first, first-exact}
use Rattle.example_walk.proofs.Walked.{alike-yes, yes-alike, never-none}

module _ (m : Limits) (σ : Store) (e : ℤ) (wanted : Bool) (long : ℕ) where
  -- The rules in their order.
  pub example-cases : (P : Read (List Bool) → Type 0) → (long < σ.levels → P (refused 1))
      → (σ.levels ≤ long → (Rules m σ → ⊥) → P (refused 3))
      → (σ.levels ≤ long → Rules m σ → (EdgeOf σ e → ⊥) → P (refused 4))
      → (σ.levels ≤ long → Rules m σ → EdgeOf σ e → P (first_of (answers_as σ e wanted) (settings σ.levels)))
      → P (example_of m σ e wanted long)
  unfolding example_of
  example-cases P short broken bad good = of (ltb long σ.levels) (keeps m σ) (is_root σ e) refl refl refl
    where
      of : (a b c : Bool) → ltb long σ.levels ≡ a → keeps m σ ≡ b → is_root σ e ≡ c → P (example_of m σ e wanted long)
      of true b c p q r = rw p (short (ltb-true long σ.levels p))
      of false false c p q r = rw (p, q) (broken (ltb-false long σ.levels p) (keeps-false m σ q))
      of false true false p q r =
          rw (p, q, r) (bad (ltb-false long σ.levels p) (keeps-true m σ q) (λ E. true≢false (sym (edge-root σ e E) ∙ r)))
      of false true true p q r = rw (p, q, r) (good (ltb-false long σ.levels p) (keeps-true m σ q) (root-edge σ e r))

  -- What is given is the first setting, where no rule is broken;
  pub example-given : {s : List Bool} → example_of m σ e wanted long ≡ value s → Given m σ e wanted long s
  example-given {s} = example-cases (λ r. r ≡ value s → Given m σ e wanted long s) (λ h q. none q) (λ h w q. none q) (λ h R w q. none q)
      (λ h R E q. record { room = h; rules = R; edge = E; first = first-exact (answers_as σ e wanted) σ.levels q })
    where
      none : {k : ℕ} {A : Type 0} → ◌≡◌ {A = Read (List Bool)} (refused k) (value s) → A
      none q = absurd (let z : ◌≡◌ {A = ℕ} 0 1 = cc in omega arith)

  -- and wherever there is one, it is given.
  pub given-example : {s : List Bool} → Given m σ e wanted long s → example_of m σ e wanted long ≡ value s
  given-example {s} G =
      example-cases (λ r. r ≡ value s) (λ h. absurd (omega (arith, G.room))) (λ h w. absurd (w G.rules)) (λ h R w. absurd (w G.edge))
      (λ h R E. is-first (answers_as σ e wanted) σ.levels s G.first)

-- a setting that is given
module _ {m : Limits} {σ : Store} {e : ℤ} {wanted : Bool} {long : ℕ} {s : List Bool} (G : Given m σ e wanted long s) where
  -- It answers as wanted,
  pub given-answers : answer σ (chosen s) e ≡ wanted
  given-answers = yes-alike _ _ G.first.holds

  -- through the call evaluate too.
  pub given-evaluates : evaluation m σ e (bytes_of s) ≡ value wanted
  unfolding evaluation
  given-evaluates =
      rw (rules-keeps m σ G.rules, edge-root σ e G.edge, (bytes-setting σ s).1 G.first.long, setting-chosen s, given-answers)

-- A yes turned to no comes before.
no-before : (s : List Bool) (l : ℕ) → chosen s l ≡ true → Before (set s l false) s
no-before [] l q = absurd (true≢false (sym q))
no-before (true ∷ s) zero q = here
no-before (false ∷ s) zero q = absurd (true≢false (sym q))
no-before (b ∷ s) (suc l) q = later (no-before s l q)

module _ {m : Limits} {σ : Store} {e : ℤ} {wanted : Bool} {long : ℕ} {s : List Bool} (G : Given m σ e wanted long s) where
  -- 'Levels the root doesn't look at are therefore no.'
  pub unseen-no : (l : ℕ) → Unseen σ e l → chosen s l ≡ false
  unseen-no l u = of (chosen s l) refl
    where
      of : (b : Bool) → chosen s l ≡ b → b ≡ false
      of false q = refl
      of true q =
          let a : answer σ (chosen (set s l false)) e ≡ wanted = u (chosen (set s l false)) (chosen s) (λ j z. get_or-set_other s l j false false z)
          ∙ given-answers G in
          let p : answers_as σ e wanted (set s l false) ≡ true = alike-yes _ _ a in
          absurd (true≢false (sym p ∙ G.first.least (set s l false) (length-set s l false ∙ G.first.long) (no-before s l q)))

-- what isn't the wanted answer is the other
other : (a b : Bool) → not (xor a b) ≡ false → a ≡ not b
unfolding xor
other true true h = absurd (true≢false h)
other true false h = refl
other false true h = refl
other false false h = absurd (true≢false h)

other-never : (b : Bool) → never (other_always b) b ≡ true
unfolding minus
other-never true = refl
other-never false = refl

one-other : (e : ℤ) (b : Bool) → (e ≡ pos 1) ⊎ (e ≡ negsuc 0) → turn e true ≡ not b → e ≡ other_always b
unfolding turn
one-other e true (inl q) h = absurd (true≢false (ap (λ x. turn x true) (sym q) ∙ h))
one-other e false (inl q) h = q
one-other e true (inr q) h = q
one-other e false (inr q) h = absurd (true≢false (sym (ap (λ x. turn x true) (sym q) ∙ h)))

-- None is found exactly for the edge that always gives the other answer, since an edge of one answer is 1 or -1.
module _ {m : Limits} (σ : Store) (e : ℤ) (wanted : Bool) (R : Rules m σ) (E : EdgeOf σ e) where
  none_other : NoneIs (answers_as σ e wanted) σ.levels → e ≡ other_always wanted
  none_other h =
      let one = constant σ R.nodes e E (λ s t p q. other _ _ (h s p) ∙ sym (other _ _ (h t q))) in
      let a = other _ wanted (h (replicate σ.levels false) (length-replicate σ.levels false)) in
      one-other e wanted one (at_one (⊎_elim (λ q. ap nat_abs q) (λ q. ap nat_abs q) one) a)
    where
      at_one : nat_abs e ≡ 1 → answer σ (chosen (replicate σ.levels false)) e ≡ not wanted → turn e true ≡ not wanted
      at_one q a = ap (turn e) (sym (ap (node σ _) q ∙ node-one σ _)) ∙ a

  pub no_setting : NoneIs (answers_as σ e wanted) σ.levels ↔ (e ≡ other_always wanted)
  no_setting = (none_other, λ q. never-none σ e wanted σ.levels (rw q (other-never wanted)))
