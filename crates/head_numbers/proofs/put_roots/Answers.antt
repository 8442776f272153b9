-- `put_roots` meets its contract.
use mathlib.Core.Path.{◌≡◌, ap}
use mathlib.Core.List.{List, ◌∷◌, map}
use Prim.Native.Nat.{ℕ, ◌+◌, ◌<◌}
use native.Mathlib.Numerals.{add-one}
use lib.ListN.{length, get_or, drop, drop_of_length-le}
use lib.Seq.{drop-cons}
use lib.IntN.{ℤ, pos}
use Rattle.writers.specs.Decimal.{edge_text}
use borrow.Author.Rules.{rules}
use Rattle.export_nodes.proofs.EdgeNumbers.{read-back}
use Rattle.export_nodes.specs.Tables.{line_number_of}
use Rattle.heading.proofs.Writing.{words-start, words-as, writing-room, writing_more, writing-end}
use Rattle.head_numbers.proofs.put_roots.Goals as goal

-- The roots from the index on are the one at it and the others.
next : (roots : List ℤ) (numbers : List ℕ) (i : ℕ) → i < length roots
    → map edge_text (map (line_number_of numbers) (drop i roots))
    ≡ edge_text (line_number_of numbers (get_or roots i (pos 0))) ∷ map edge_text (map (line_number_of numbers) (drop (i + 1) roots))
next roots numbers i h = rw (drop-cons roots i (pos 0) h, add-one i)

pub loop-root-init : goal.loop-root-init
loop-root-init c = words-start c.args.out.now c.args.at _ c.requires.fits_out

pub put_root-next-requires : goal.put_root-next-requires
put_root-next-requires c =
    let t = c.loop-root-test.true in
    rw (read-back (get_or c.args.roots.now c.loop-root.root-index (pos 0)) (record { sfits = search rules }))
    (record {
      numbered = c.requires.rooted.numbered c.loop-root.root-index t;
      fits_out = writing-room (words-as (next c.args.roots.now c.args.numbers.now _ t) c.loop-root.invariant);
    })

pub loop-root-preserved : goal.loop-root-preserved
loop-root-preserved c =
    writing_more (words-as (next c.args.roots.now c.args.numbers.now _ c.loop-root-test.true) c.loop-root.invariant)
    (rw (read-back (get_or c.args.roots.now c.loop-root.root-index (pos 0)) (record { sfits = search rules })) at c.put_root-next.ensures)

pub returns : goal.returns
returns c =
    writing-end (words-as (ap (λ es. map edge_text (map (line_number_of c.args.numbers.now) es))
    (drop_of_length-le c.args.roots.now c.loop-root-test.false)) c.loop-root.invariant)
