-- Demand 3: of every list of public calls on one store, from an empty one on: two roots are equal as signed numbers exactly where what they
-- mean answers alike at every setting: a root that was read, what its file's lines say. Document 01, 'Agreed between us'; and document 02,
-- request 2: 'Roots made so are as comparable as roots read from files: equal numbers exactly when equal answers.'
use mathlib.Core.Path.{◌≡◌, sym, ap, subst, ◌∙◌}
use mathlib.Core.Logic.{◌↔◌}
use mathlib.Core.Bool.{Bool}
use mathlib.Core.List.{List}
use mathlib.Core.Option.{Option, some, some-injective}
use Prim.Native.Nat.{ℕ, suc, ◌≤◌}
use native.Mathlib.Omega.{arith}
use native.Mathlib.Decide.{dec_le}
use lib.ListN.{take}
use lib.IntN.{ℤ}
use Rattle.store.specs.Store.{Store}
use Rattle.store.specs.Meaning.{answer}
use Rattle.store.specs.Settings.{chosen}
use Rattle.codes.specs.Limits.{Limits}
use Rattle.store.specs.Rules.{Rules}
use Rattle.store.specs.Growth.{Grows}
use Rattle.store.specs.Empty.{empty}
use Rattle.store.proofs.Growth.{grow-edge, grow-answer}
use Rattle.store.proofs.Canonicity.{canonicity}
use Rattle.joined.proofs.Roots.{join-gives, join-means, join-extends, opposite-means}
use Rattle.calls.specs.Load.{load_of}
use Rattle.calls.specs.Calls.{Call}
use Rattle.calls.specs.Outcome.{leaves}
use Rattle.calls.specs.Lists.{before}
use Rattle.calls.specs.Roots.{Meaning, load_says, Means, Gives, loaded, joined, opposed, Root, SameAnswer, Alike}
use Rattle.calls.proofs.RootsAnswer.{roots-answer}
use Rattle.calls.proofs.Growing.{run-grows, after-grows, after-rules}

-- a call that gives a root leaves a store that keeps the rules, where the root has its meaning
pub gives-rules : {m : Limits} {c : Call} {σ : Store} {e : ℤ} {x : Meaning} → Gives m c σ e x → Rules m (leaves m c σ).after
gives-rules {m} (loaded c σ h i e q k t) = (roots-answer m c σ h q).rules
gives-rules {m} (joined o a b σ e q) = (join-extends m o σ a b).rules (join-gives m o σ a b e q).0.rules
gives-rules {m} (opposed a σ e q) = (opposite-means m σ a e q).rules

pub gives-means : {m : Limits} {c : Call} {σ : Store} {e : ℤ} {x : Meaning} → Gives m c σ e x → Means (leaves m c σ).after e x
gives-means {m} (loaded c σ h i e q k t) =
    let w = (roots-answer m c σ h q).root i k in
    subst (λ (r : ℤ). Means (load_of m c σ).after r (load_says m c σ i)) (some-injective w.root e (sym w.there ∙ t)) w.means
gives-means {m} (joined o a b σ e q) = let w = join-means m o σ a b e q in record { edge = w.edge; agrees = λ s. ap some (sym (w.says s)) }
gives-means {m} (opposed a σ e q) = let w = opposite-means m σ a e q in record { edge = w.edge; agrees = λ s. ap some (sym (w.says s)) }

-- an edge keeps its meaning while the store grows
pub means-grown : {m : Limits} {σ τ : Store} {e : ℤ} {x : Meaning} → Grows σ τ → Rules m σ → Means σ e x → Means τ e x
means-grown {e = e} G R M = record { edge = grow-edge G e M.edge; agrees = λ s. M.agrees s ∙ ap some (sym (grow-answer G R.nodes s e M.edge)) }

-- an answer that two have is one that the other two have
swapped : {x y : Option Bool} → SameAnswer x y → SameAnswer y x
swapped w = (w.0, (w.1.1, w.1.0))

-- two edges of a store that keeps the rules, each with its meaning
pub one_store : {m : Limits} (levels : ℕ) {τ : Store} (a b : ℤ) (x y : Meaning) → τ.levels ≡ levels → Rules m τ → Means τ a x → Means τ b y
    → (a ≡ b) ↔ Alike levels x y
one_store levels {τ} a b x y v R M N =
    let C = canonicity τ R.nodes a b M.edge N.edge in (
      λ q s l. (answer τ (chosen s) b, (M.agrees (chosen s) ∙ ap some (C.1 q s (l ∙ sym v)), N.agrees (chosen s))),
      λ S. C.0 (λ s l.
          let w = S s (l ∙ v) in
          some-injective _ _ (sym (M.agrees (chosen s)) ∙ w.1.0 ∙ sym w.1.1 ∙ N.agrees (chosen s))),
    )

module _ (m : Limits) (levels slots : ℕ) (cs : List Call) where
  -- the store after the call at a place
  abbrev pub after : ℕ → Store
  after k = before m (empty levels slots) cs (suc k)

  -- it has as many levels as the empty one
  pub levels-after : (k : ℕ) → (after k).levels ≡ levels
  unfolding empty
  levels-after k = (run-grows m (empty levels slots) (take (suc k) cs)).levels

  -- from its own place on a root has its meaning
  pub root-means : (a : Root m levels slots cs) (k : ℕ) → a.place ≤ k → Means (after k) a.edge a.meaning
  root-means a k h =
      means-grown (after-grows m (empty levels slots) a.at (suc k) (omega arith)) (gives-rules a.given) (gives-means a.given)

  -- and the store keeps the rules
  pub root-rules : (a : Root m levels slots cs) (k : ℕ) → a.place ≤ k → Rules m (after k)
  root-rules a k h = after-rules m (empty levels slots) a.at (suc k) (omega arith) (gives-rules a.given)

  -- so two roots are compared in the store after the later of their calls
  ordered : (a b : Root m levels slots cs) → a.place ≤ b.place → (a.edge ≡ b.edge) ↔ Alike levels a.meaning b.meaning
  ordered a b h =
      one_store levels a.edge b.edge a.meaning b.meaning (levels-after b.place) (root-rules b b.place (omega arith))
      (root-means a b.place h) (root-means b b.place (omega arith))

-- Demand 3. The list and the two roots are arbitrary; nothing is asked of the store, of the files or of any answer, beyond that each root
-- was given by a call that was accepted: a load, a join or an opposite.
pub demand-3 : (m : Limits) (levels slots : ℕ) (cs : List Call) (a b : Root m levels slots cs)
    → (a.edge ≡ b.edge) ↔ Alike levels a.meaning b.meaning
demand-3 m levels slots cs a b = go (dec_le a.place b.place)
  where
    go : Dec (a.place ≤ b.place) → (a.edge ≡ b.edge) ↔ Alike levels a.meaning b.meaning
    go (yes h) = ordered m levels slots cs a b h
    go (no f) =
        let w = ordered m levels slots cs b a (omega arith) in
        (λ q s l. swapped (w.0 (sym q) s l), λ S. sym (w.1 (λ s l. swapped (S s l))))
