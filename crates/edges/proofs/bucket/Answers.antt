-- `bucket` meets its contract: eight adds that wrap are one sum that wraps.
use Rattle.std.proofs.Common.{◌^◌, ◌+◌, ◌%◌, w32, refl, ap}
use Rattle.edges.proofs.Wrapping.{wrap-sum, bucket-rest}
use Rattle.edges.proofs.bucket.Goals as goal

pub returns : goal.returns
returns c =
    let t = c.pattern-t.result in
    bucket-rest w32 c.args.level c.args.then c.args.els c.ranges.then c.ranges.els c.pattern-t.ensures c.pattern-e.ensures
    (wrap-sum (2 ^ 32) c.args.level t c.pattern-e.result (ap (λ l. (l + t) % 2 ^ 32) c.from.ensures) refl refl refl refl refl refl refl)
