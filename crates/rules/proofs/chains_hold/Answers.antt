-- `chains_hold` meets its contract: each next is compared with its bucket's newest node so far, and in the end these are compared with the heads.
use mathlib.Core.Path.{◌≡◌, refl}
use native.Mathlib.Omega.{arith}
use lib.ListN.{get_or, get_or-replicate}
use lib.IntN.{pos}
use mir.Val.{SFits}
use mir.ValLaws.{to_z-of_z}
use Rattle.std.proofs.Common.{rules}
use Rattle.edges.specs.Edge.{bucket_of}
use Rattle.edges.specs.Width.{edge_width}
use Rattle.store.specs.Keeps.{says-no}
use Rattle.rules.proofs.Pass.{pass-start, pass-more, pass-bad, pass-end}
use Rattle.rules.proofs.chains_hold.Goals as goal
use Rattle.rules.proofs.chains_hold.Goals.{After-bucket-b}

pub loop-i-init : goal.loop-i-init
loop-i-init c =
    pass-start _ _ c.requires.le_count refl (λ b h. get_or-replicate 256 b 0 0 h)

-- the bucket of a slot
abbrev BucketOfSlot : After-bucket-b → Type 0
BucketOfSlot c =
    let s = c.args.store.now in
    c.bucket-b.result ≡ bucket_of (get_or s.level.now c.loop-i.i 0) (get_or s.then.now c.loop-i.i (pos 0)) (get_or s.els.now c.loop-i.i (pos 0))

bucket_of_slot : (c : After-bucket-b) → BucketOfSlot c
bucket_of_slot c =
    let t : SFits edge_width (get_or c.args.store.now.then.now c.loop-i.i (pos 0)) = search rules in
    let e : SFits edge_width (get_or c.args.store.now.els.now c.loop-i.i (pos 0)) = search rules in
    simp to_z-of_z at c.bucket-b.ensures

pub returns-then-store-i : goal.returns-then-store-i
returns-then-store-i c =
    let b = bucket_of_slot (goal.at.returns-then-store-i c).After-bucket-b in
    says-no (pass-bad _ _ _ _ c.loop-i.invariant c.loop-i-test.true b c.if-store-i.true)

pub loop-i-preserved : goal.loop-i-preserved
loop-i-preserved c =
    let b = bucket_of_slot (goal.at.loop-i-preserved c).After-bucket-b in
    pass-more _ _ _ _ c.loop-i.invariant c.loop-i-test.true b c.if-store-i.false

pub returns : goal.returns
returns c =
    pass-end _ _ _ c.loop-i.invariant (omega arith) c.requires.heads_len _ (rw c.as_slice.ensures at c.eq.ensures)
