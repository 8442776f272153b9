-- Joins of roots under limits that allow more, in a store with the same nodes: the same root, and the same nodes again. Document 02, request 5: 'as if
-- read into the wide store from its start'.
use mathlib.Core.Path.{◌≡◌, sym, subst, ◌∙◌}
use Prim.Native.Nat.{◌≤◌}
use lib.ListN.{length}
use lib.IntN.{ℤ}
use Rattle.codes.specs.Limits.{Limits}
use Rattle.codes.specs.Answer.{value}
use Rattle.store.specs.Store.{Store}
use Rattle.store.specs.Make.{Made}
use Rattle.store.proofs.Growth.{grow-edge}
use Rattle.joined.specs.declared.Op.{Op}
use Rattle.joined.specs.Join.{join_of, Ready}
use Rattle.joined.specs.Roots.{join_roots}
use Rattle.joined.proofs.Room.{join-room}
use Rattle.joined.proofs.Roots.{join-gives, join-accepted}
use Rattle.widened.specs.OldLimits.{Wider}
use Rattle.turns.specs.Wide.{SameNodes}
use Rattle.turns.proofs.Wider.{same_beside}
use Rattle.turns.proofs.Making.{SameEdge, join-same}

pub roots-same : {m w : Limits} → Wider m w → {σ τ : Store} → SameNodes m w σ τ → (o : Op) (a b x : ℤ) → (join_roots m o σ a b).answer ≡ value x
    → (join_roots m o σ a b).after.count ≤ length τ.level → SameEdge m w τ x (join_roots m o σ a b) (join_roots w o τ a b)
roots-same {m} {w} W {σ} {τ} S o a b x q h =
    let g = join-gives m o σ a b x q in
    let Q = g.0 in
    let P : Ready w τ a b = record { rules = S.wide_rules; left = grow-edge S.grows a Q.left; right = grow-edge S.grows b Q.right } in
    let i : (join_of m o σ a b).after.count ≤ length τ.level = subst (λ (r : Made). r.after.count ≤ length τ.level) g.1.1 h in
    let J = join-same W o σ τ a b Q P (same_beside S) x g.1.0 i in
    let v = (join-accepted w o τ a b).1 (P, (join-room w o τ a b P).0 (x, J.answer)) in
    let k = join-gives w o τ a b v.0 v.1 in
    rw (g.1.1, k.1.1) (record { answer = sym k.1.0 ∙ J.answer; long = J.long; beside = J.beside })
