-- Calls under limits that allow more, in a store with the same nodes. Document 02, request 5: 'Roots taken before and after the turn compare as if read
-- into the wide store from its start.' A call that is accepted is accepted there too and leaves the same, as long as the nodes have a slot each; so
-- everything that the old limits accepted is accepted with the same answer.
use mathlib.Core.Path.{◌≡◌, refl, sym, ap, ◌∙◌}
use mathlib.Core.List.{List, [], ◌∷◌}
use Prim.Native.Nat.{◌≤◌}
use native.Mathlib.Omega.{arith}
use lib.ListN.{length}
use Rattle.codes.specs.Limits.{Limits}
use Rattle.store.specs.Store.{Store}
use Rattle.header.specs.Header as head
use Rattle.example_walk.specs.Example.{left_setting}
use Rattle.joined.specs.Roots.{join_roots}
use Rattle.calls.specs.Load.{Load, Loaded, parts_of, load_of}
use Rattle.calls.specs.Calls.{Call, load, evaluate, example, tip, export, join, opposite}
use Rattle.calls.specs.Outcome.{Verdict, accepted, verdict_of, verdict_read, LentPart, numbers, Outcome, outcome, outputs_of, leaves}
use Rattle.calls.proofs.Growing.{call-rules}
use Rattle.widened.specs.OldLimits.{Wider}
use Rattle.turns.specs.Wide.{SameNodes}
use Rattle.turns.proofs.Wider.{same_self, beside_same, same-slots}
use Rattle.turns.proofs.Asking.{evaluation-same, example-same, tip_same, opposite-same, export-same}
use Rattle.turns.proofs.Loading.{on_store, load_same}
use Rattle.turns.proofs.Joining.{roots-same}
use Rattle.turns.proofs.Accepted.{accepted-header, accepted-value, accepted-rules, call_long}

-- What an accepted call leaves under limits that allow more: it is accepted, its lists are the same, the store has the same nodes and as many slots.
pub record SameLeft (m w : Limits) (c : Call) (σ τ : Store) : Type 0 where
  pub verdict : (leaves w c τ).verdict ≡ accepted
  pub outputs : (leaves w c τ).outputs ≡ (leaves m c σ).outputs
  pub scratch : (leaves w c τ).scratch ≡ (leaves m c σ).scratch
  pub nodes : SameNodes m w (leaves m c σ).after (leaves w c τ).after
  pub long : length (leaves w c τ).after.level ≡ length τ.level

module _ {m w : Limits} (W : Wider m w) {σ τ : Store} (S : SameNodes m w σ τ) where
  pub wider-call : (c : Call) → (leaves m c σ).verdict ≡ accepted → (leaves m c σ).after.count ≤ length τ.level → SameLeft m w c σ τ
  wider-call (load c) q k =
      let e = accepted-header (load_of m c σ).answer q in
      let L = load_same W c S e.0 e.1 k in
      record {
        verdict = ap (λ (r : Loaded). verdict_of r.answer) L.lists ∙ q;
        outputs = ap (λ (r : Loaded). outputs_of (parts_of c.lent r)) L.lists;
        scratch = refl;
        nodes = beside_same (call-rules m (load c) σ S.rules) (call-rules w (load c) τ S.wide_rules) L.beside;
        long = L.long;
      }
  wider-call (evaluate e s) q k =
      record { verdict = ap verdict_read (evaluation-same S e s) ∙ q; outputs = refl; scratch = refl; nodes = S; long = refl }
  wider-call (example e wanted long) q k =
      let p = example-same S e wanted long in
      record { verdict = ap verdict_read p ∙ q; outputs = ap (λ r. numbers (left_setting long r) ∷ []) p; scratch = refl; nodes = S; long = refl }
  wider-call (tip e s) q k =
      record { verdict = ap verdict_read (tip_same S e s) ∙ q; outputs = refl; scratch = refl; nodes = S; long = refl }
  wider-call (export x) q k =
      let p = export-same S x in
      record { verdict = ap (λ r. verdict_read r.answer) p ∙ q; outputs = ap (λ r. numbers r.out ∷ []) p; scratch = refl; nodes = S; long = refl }
  wider-call (join o a b) q k =
      let e = accepted-value (join_roots m o σ a b).answer q in
      let J = roots-same W S o a b e.0 e.1 k in
      record {
        verdict = ap verdict_read J.answer;
        outputs = refl;
        scratch = refl;
        nodes = beside_same (call-rules m (join o a b) σ S.rules) (call-rules w (join o a b) τ S.wide_rules) J.beside;
        long = J.long;
      }
  wider-call (opposite a) q k =
      record { verdict = ap verdict_read (opposite-same S a) ∙ q; outputs = refl; scratch = refl; nodes = S; long = refl }

  -- Of a load the same header and the same roots,
  module _ (c : Load) (h : head.Header) (q : (load_of m c σ).answer ≡ head.header h) (k : (load_of m c σ).after.count ≤ length τ.level) where
    pub wider-header : (load_of w c τ).answer ≡ head.header h
    wider-header = ap (λ (r : Loaded). r.answer) (load_same W c S h q k).lists ∙ q

    pub wider-roots : (load_of w c τ).roots ≡ (load_of m c σ).roots
    wider-roots = ap (λ (r : Loaded). r.roots) (load_same W c S h q k).lists

-- what a call leaves, by its parts
outcome-same : {v v' : Verdict} {σ τ : Store} {x x' y y' : List LentPart} → v ≡ v' → σ ≡ τ → x ≡ x' → y ≡ y' → outcome v σ x y ≡ outcome v' τ x' y'
outcome-same p q r s = rw (p, q, r, s)

module _ {m w : Limits} (W : Wider m w) where
  -- the nodes that an accepted call leaves have a slot each
  left-slots : (c : Call) (σ : Store) → (leaves m c σ).verdict ≡ accepted → (leaves m c σ).after.count ≤ length σ.level
  left-slots c σ q = omega (arith, call_long m c σ q, (call-rules m c σ (accepted-rules m c σ q)).sizes.count_slots)

  -- Everything that the narrower limits accept is accepted with the same answer: of any store and call, the whole outcome, the store included.
  pub old-stays : (c : Call) (σ : Store) → (leaves m c σ).verdict ≡ accepted → leaves w c σ ≡ leaves m c σ
  old-stays c σ q =
      let A = wider-call W (same_self W (accepted-rules m c σ q)) c q (left-slots c σ q) in
      outcome-same (A.verdict ∙ sym q) (same-slots W A.nodes (A.long ∙ sym (call_long m c σ q))) A.outputs A.scratch

  -- of a load also all that it answers
  pub old-load : (c : Load) (σ : Store) (h : head.Header) → (load_of m c σ).answer ≡ head.header h → load_of w c σ ≡ load_of m c σ
  old-load c σ h q =
      let v = ap verdict_of q in
      let L = load_same W c (same_self W (accepted-rules m (load c) σ v)) h q (left-slots (load c) σ v) in
      L.lists ∙ ap (on_store (load_of m c σ)) (ap (λ (o : Outcome). o.after) (old-stays (load c) σ v))
