-- The nodes of a file are refused with a number and a line exactly where `NodesRefused` has a case for it. Document 01, 'Answers, by who can cause them'.
use mathlib.Core.Path.{◌≡◌, refl, sym, ap, ◌∙◌}
use mathlib.Core.Logic.{◌⊎◌, inl, inr, ⊎_elim, ◌↔◌}
use mathlib.Core.Bool.{Bool, true, false, cond, not, ◌&&◌}
use mathlib.Core.List.{List}
use Prim.Native.Nat.{ℕ, ◌+◌, ◌≤◌}
use native.Mathlib.Omega.{arith}
use lib.IntN.{ℤ}
use lib.Dec.{eqb}
use borrow.Author.Tests.{eqb-true, eqb-false, ne_eqb}
use Rattle.codes.specs.Answer.{Read, value, refused}
use Rattle.store.specs.Store.{Store}
use Rattle.codes.specs.Limits.{Limits}
use Rattle.store.specs.Rules.{Rules}
use Rattle.node_lines.specs.Decode.{DecodeEnd, all_read, stopped}
use Rattle.imported.specs.Build.{LevelsOf}
use Rattle.imported.specs.Import.{Setup, lines_in, nodes, refusal, ended_lines, answer_by, built_from, lines_answer, ends_well, with_end, import_of}
use Rattle.imported.specs.Acceptance.{StoreRoom}
use Rattle.imported.specs.Refused.{NodesRefused, crowded, early, text, binary, unended}
use Rattle.imported.proofs.Building.{build-40}
use Rattle.imported.proofs.Refusals.{lines-stopped}
use Rattle.imported.proofs.Acceptance.{room-made, made-room, refused-forty, refused-40}

module _ {m : Limits} (u : Setup) (σ : Store) (f : List ℕ) (at : ℕ) (ids : List ℤ) (R : Rules m σ) (W : LevelsOf σ u.list) where
  module _ {k line : ℕ} where
    -- the store has no room
    refused-crowded : (j : ℕ) → (built_from m u σ f at).answer ≡ refused j → refusal j 0 ≡ refusal k line → NodesRefused m u σ f at k line
    refused-crowded j b q =
        let z : 40 ≡ k = sym (build-40 m u.list σ (lines_in u f at).lines j b) ∙ numbers q in
        let y : 0 ≡ line = cc in
        rw (← z, ← y) (crowded ((refused-40 u σ f at ids R W).0 (refused-forty u σ f at ids R W j b)))
      where
        numbers : refusal j 0 ≡ refusal k line → j ≡ k
        numbers q = cc

    module _ (r : StoreRoom m u.list σ (lines_in u f at).lines) where
      -- all lines were read
      refused-unended : (next : ℕ) → (lines_in u f at).end ≡ all_read next → (b : Bool) → ends_well f next ≡ b
          → cond b (nodes next) (refusal 39 0) ≡ refusal k line → NodesRefused m u σ f at k line
      refused-unended next p true e q = absurd (let z : ◌≡◌ {A = ℕ} 0 1 = cc in omega arith)
      refused-unended next p false e q =
          let z : 39 ≡ k = cc in
          let y : 0 ≡ line = cc in rw (← z, ← y) (unended r p e)

      -- a line was refused, by the mode and whether its number is 30
      refused-stopped : (j n : ℕ) → (lines_in u f at).end ≡ stopped j n → (a t : Bool) → u.ascii ≡ a → eqb j 30 ≡ t
          → refusal j (cond (a && not t) (u.lines + n) 0) ≡ refusal k line → NodesRefused m u σ f at k line
      refused-stopped j n p true true a t q =
          let x : j ≡ 30 = eqb-true j 30 t in
          let z : 30 ≡ k = cc in
          let y : 0 ≡ line = cc in rw (← z, ← y) (early r a (p ∙ ap (λ i. stopped i n) x))
      refused-stopped j n p true false a t q =
          let w = lines-stopped u f at j n p in
          let z : j ≡ k = cc in
          let y : u.lines + n ≡ line = cc in rw (← z, ← y) (text r a p (w.text a) (eqb-false j 30 t) w.from_one w.to_last)
      refused-stopped j n p false t a e q =
          let w = lines-stopped u f at j n p in
          let z : j ≡ k = cc in
          let y : 0 ≡ line = cc in rw (← z, ← y) (binary r a p (w.binary a))

    refused-by : (x : Read (List ℤ)) (e : DecodeEnd) → (lines_in u f at).end ≡ e → (built_from m u σ f at).answer ≡ x
        → with_end f (answer_by u e x) ≡ refusal k line → NodesRefused m u σ f at k line
    refused-by (refused j) e p b q = refused-crowded j b q
    refused-by (value edges) (all_read next) p b q = refused-unended (made-room u σ f at ids R W edges b) next p (ends_well f next) refl q
    refused-by (value edges) (stopped j n) p b q =
        refused-stopped (made-room u σ f at ids R W edges b) j n p u.ascii (eqb j 30) refl refl q

    refused_as : (import_of m u σ f at ids).answer ≡ refusal k line → NodesRefused m u σ f at k line
    unfolding import_of lines_answer
    refused_as q = refused-by (built_from m u σ f at).answer (lines_in u f at).end refl refl q

  -- the answer where the store has room
  room-answer : (e : DecodeEnd) → StoreRoom m u.list σ (lines_in u f at).lines → (lines_in u f at).end ≡ e
      → (import_of m u σ f at ids).answer ≡ with_end f (ended_lines u e)
  unfolding import_of lines_answer
  room-answer e r p =
      let w = room-made u σ f at ids R W r in
      ap (λ (x : Read (List ℤ)). with_end f (answer_by u (lines_in u f at).end x)) w.1 ∙ ap (λ (d : DecodeEnd). with_end f (ended_lines u d)) p

  as-refused : {k line : ℕ} → NodesRefused m u σ f at k line → (import_of m u σ f at ids).answer ≡ refusal k line
  as-refused (crowded c) = (refused-40 u σ f at ids R W).1 c
  as-refused (early {n = n} r a p) = room-answer (stopped 30 n) r p ∙ rw a
  as-refused (text {k = k} {n = n} r a p x z i l) = room-answer (stopped k n) r p ∙ rw (a, ne_eqb k 30 z)
  as-refused (binary {k = k} {n = n} r a p x) = room-answer (stopped k n) r p ∙ rw a
  as-refused (unended {next = next} r p e) = room-answer (all_read next) r p ∙ rw e

  -- The nodes of a file are refused with a number and a line exactly where `NodesRefused` has a case for it.
  pub refused-nodes : (k line : ℕ) → ((import_of m u σ f at ids).answer ≡ refusal k line) ↔ NodesRefused m u σ f at k line
  refused-nodes k line = (λ q. refused_as q, λ n. as-refused n)

  -- So their refusals are 14 to 17 and 30 to 40.
  pub nodes-numbers : (k line : ℕ) → (import_of m u σ f at ids).answer ≡ refusal k line → ((14 ≤ k) × (k ≤ 17)) ⊎ ((30 ≤ k) × (k ≤ 40))
  nodes-numbers k line q = of (refused_as q)
    where
      of : {k line : ℕ} → NodesRefused m u σ f at k line → ((14 ≤ k) × (k ≤ 17)) ⊎ ((30 ≤ k) × (k ≤ 40))
      of (crowded c) = inr (omega arith)
      of (early r a p) = inr (omega arith)
      of (text r a p x z i l) = ⊎_elim inl (λ y. inr (omega (arith, y.0, y.1))) x
      of (binary r a p x) = ⊎_elim (λ y. inr (omega arith)) (λ y. inr (omega (arith, y.0, y.1))) x
      of (unended r p e) = inr (omega arith)
