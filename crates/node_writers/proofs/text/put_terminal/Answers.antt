-- `put_terminal` meets its contract: the number, and what follows it on a terminal's line.
use Rattle.writers.specs.Decimal.{decimal}
use Rattle.writers.proofs.Sets.{wrote_then}
use Rattle.node_writers.proofs.LineBytes.{no_children, text-terminal}
use Rattle.node_writers.proofs.text.put_terminal.Goals as goal

pub returns : goal.returns
returns c =
    rw (text-terminal c.args.n) (wrote_then c.args.out.now c.args.at (decimal c.args.n) no_children c.put_decimal-next.ensures c.put_bytes.ensures)
