-- What `read_full` has put at the start of the list and what it then reads after that are the next bytes of the file.
use Rattle.std.proofs.Common.{◌≡◌, ℕ, ◌+◌, ◌-◌, ◌≤◌, List, ◌++◌, length, take, sym, ap, ◌∙◌, subst, length-take-le, rules}
use Rattle.std.proofs.Math.Seq.{take-append-add}
use Rattle.std.proofs.lemmas.List.{take-append-le}
use Rattle.std.specs.Io.KnownBytes.{Consumes}
use Rattle.std.proofs.KnownBytes.{Consumes-trans}
use borrow.Rule.Slice.PartMut.{put_mid, post_of}
use Rattle.replay.proofs.read_full.Goals as goal

-- bytes read to a part stand after the front
joined : (a k n : ℕ) (xs ys : List ℕ) → a ≤ length xs → n ≤ length ys → take a xs ++ take n ys ≡ take (a + n) (put_mid a k xs ys)
joined a k n xs ys p q =
    let front : a ≡ length (take a xs) = sym (length-take-le a xs p) in
    sym (
    ap (λ m. take (m + n) (put_mid a k xs ys)) front ∙
    take-append-add (take a xs) (ys ++ post_of a k xs) n ∙
    ap (λ l. take a xs ++ l) (take-append-le n ys (post_of a k xs) q)
    )

pub loop-done-preserved : goal.loop-done-preserved
loop-done-preserved g c =
    let known = c.loop-done.invariant in
    let got = c.read_some-got.ensures in
    let part = joined c.loop-done.done (length c.loop-done.buf - c.loop-done.done) _ _ _ known.0 got.within.0 in
    (search rules, subst (Consumes _ _) part (Consumes-trans _ _ _ _ _ known.1 got.bytes))
