-- Calls that make no node, under limits that allow more, in a store with the same nodes: an evaluation, an example, a tipping point, an export and an
-- opposite answer the same, refused or not. Document 02, request 5: 'as if read into the wide store from its start'.
use mathlib.Core.Path.{◌≡◌, refl, ap, ap₂, fun_ext, ◌∙◌}
use mathlib.Core.Bool.{Bool, true, false, cond, xor, ◌&&◌}
use mathlib.Core.List.{List, [], ◌∷◌}
use Prim.Native.Nat.{ℕ, zero, suc}
use lib.Dec.{eqb, leb, ltb}
use lib.ListN.{length}
use lib.IntN.{ℤ, neg_ℤ, nat_abs}
use Rattle.codes.specs.Answer.{value, refused}
use Rattle.codes.specs.Limits.{Limits}
use Rattle.codes.specs.Faults.{first_fault, unless}
use Rattle.codes.proofs.Bytes.{both}
use Rattle.store.specs.Store.{Store}
use Rattle.store.specs.Keeps.{rules-keeps}
use Rattle.store.specs.Meaning.{setting_of, answer}
use Rattle.store.specs.Settings.{chosen}
use Rattle.store.specs.Growth.{is_root}
use Rattle.store.proofs.Growth.{root-edge, grow-answer}
use Rattle.evaluation.specs.Evaluation.{only_bits, is_setting, evaluation}
use Rattle.example_walk.specs.Example.{settings, first_of, answers_as, example_of}
use Rattle.tipping.specs.Tip.{flipped, tips, lowest_from, tip_of}
use Rattle.joined.specs.Roots.{opposite_root}
use Rattle.variable_order.specs.Order.{is_order}
use Rattle.export_names.specs.Names.{fit_place, name_list_fits}
use Rattle.export_size.specs.Size.{export_size}
use Rattle.exported.specs.Export.{roots_fit, long_enough, names_fit, export_fault, Export, export_by, export_fault_of, export_file_of, export_of}
use Rattle.exported.proofs.Accepted as export
use Rattle.exported.proofs.Grown.{file-grown}
use Rattle.turns.specs.Wide.{SameNodes}

-- the first setting of tests that agree
first-same : (p q : List Bool → Bool) → ((s : List Bool) → p s ≡ q s) → (ss : List (List Bool)) → first_of p ss ≡ first_of q ss
unfolding first_of
first-same p q f [] = refl
first-same p q f (s ∷ ss) = rw (f s, first-same p q f ss)

module _ {m w : Limits} {σ τ : Store} (S : SameNodes m w σ τ) where
  -- a root of either is one of the other
  root-same : (e : ℤ) → is_root τ e ≡ is_root σ e
  root-same e = ap (λ c. leb 1 (nat_abs e) && leb (nat_abs e) c) S.count

  setting_same : (s : List ℕ) → is_setting τ s ≡ is_setting σ s
  setting_same s = ap (λ l. eqb (length s) l && only_bits s) S.grows.levels

  pub evaluation-same : (e : ℤ) (s : List ℕ) → evaluation w τ e s ≡ evaluation m σ e s
  unfolding evaluation
  evaluation-same e s =
      rw (rules-keeps m σ S.rules, rules-keeps w τ S.wide_rules)
      (ap (λ b. cond b (value (answer τ (setting_of s) e)) (refused 4)) (ap₂ (λ a b. a && b) (root-same e) (setting_same s))
      ∙ go (is_root σ e && is_setting σ s) refl)
    where
      go : (b : Bool) → (is_root σ e && is_setting σ s) ≡ b
          → cond b (value (answer τ (setting_of s) e)) (refused 4) ≡ cond b (value (answer σ (setting_of s) e)) (refused 4)
      go false q = refl
      go true q = ap value (grow-answer S.grows S.rules.nodes (setting_of s) e (root-edge σ e (both (is_root σ e) (is_setting σ s) q).0))

  pub example-same : (e : ℤ) (wanted : Bool) (long : ℕ) → example_of w τ e wanted long ≡ example_of m σ e wanted long
  unfolding example_of
  example-same e wanted long =
      rw (rules-keeps m σ S.rules, rules-keeps w τ S.wide_rules)
      (ap₂ (λ b l. cond (ltb long l) (refused 1) (cond b (first_of (answers_as τ e wanted) (settings l)) (refused 4))) (root-same e) S.grows.levels
      ∙ ap (λ r. cond (ltb long σ.levels) (refused 1) r) (go (is_root σ e) refl))
    where
      go : (b : Bool) → is_root σ e ≡ b → cond b (first_of (answers_as τ e wanted) (settings σ.levels)) (refused 4)
          ≡ cond b (first_of (answers_as σ e wanted) (settings σ.levels)) (refused 4)
      go false q = refl
      go true q = first-same (answers_as τ e wanted) (answers_as σ e wanted)
          (λ s. rw (grow-answer S.grows S.rules.nodes (chosen s) e (root-edge σ e q))) (settings σ.levels)

  pub tip_same : (e : ℤ) (s : List ℕ) → tip_of w τ e s ≡ tip_of m σ e s
  unfolding tip_of
  tip_same e s =
      rw (rules-keeps m σ S.rules, rules-keeps w τ S.wide_rules)
      (ap₂ (λ b l. cond b (lowest_from (tips τ e (setting_of s)) 0 l) (refused 4)) (ap₂ (λ a b. a && b) (root-same e) (setting_same s)) S.grows.levels
      ∙ go (is_root σ e && is_setting σ s) refl)
    where
      go : (b : Bool) → (is_root σ e && is_setting σ s) ≡ b
          → cond b (lowest_from (tips τ e (setting_of s)) 0 σ.levels) (refused 4) ≡ cond b (lowest_from (tips σ e (setting_of s)) 0 σ.levels) (refused 4)
      go false q = refl
      go true q =
          let E = root-edge σ e (both (is_root σ e) (is_setting σ s) q).0 in
          ap (λ p. lowest_from p 0 σ.levels)
          (fun_ext (λ l. ap₂ xor (grow-answer S.grows S.rules.nodes (flipped (setting_of s) l) e E) (grow-answer S.grows S.rules.nodes (setting_of s) e E)))

  pub opposite-same : (a : ℤ) → opposite_root w τ a ≡ opposite_root m σ a
  unfolding opposite_root
  opposite-same a = rw (rules-keeps m σ S.rules, rules-keeps w τ S.wide_rules) (ap (λ b. cond b (value (neg_ℤ a)) (refused 4)) (root-same a))

  -- 'the store count for export marks, the export size': they go by the count and the levels
  fault-same : (x : Export) → export_fault_of w x τ ≡ export_fault_of m x σ
  unfolding export_fault long_enough names_fit
  fault-same x =
      let p = x.names in
      let roots = x.roots in
      rw (rules-keeps m σ S.rules, rules-keeps w τ S.wide_rules)
      (ap₂ (λ c l. first_fault (
      unless (leb c x.slots && leb c x.numbers && leb (export_size c l (length roots) p.lens p.rootlens p.dd.len) x.out) 1
      ∷ 0
      ∷ unless (roots_fit c roots) 4
      ∷ unless (is_order l x.order) 6
      ∷ unless (name_list_fits l p.bytes p.starts p.lens && name_list_fits (length roots) p.bytes p.rootstarts p.rootlens
      && fit_place true p.bytes p.dd) 5
      ∷ [])) S.count S.grows.levels)

  pub export-same : (x : Export) → export_of w x τ ≡ export_of m x σ
  export-same x = ap (λ k. export_by k (export_file_of x τ) x.out) (fault-same x) ∙ go (export_fault_of m x σ) refl
    where
      go : (k : ℕ) → export_fault_of m x σ ≡ k → export_by k (export_file_of x τ) x.out ≡ export_by k (export_file_of x σ) x.out
      go zero q = ap (λ f. export_by 0 f x.out) (file-grown S.grows x.settings x.order x.names
          (export.exported (export.accepted σ x.roots x.order x.names x.slots x.numbers x.out q)))
      go (suc k) q = refl
