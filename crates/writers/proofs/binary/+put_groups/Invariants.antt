-- The measure of `put_groups` is the number: without its last group it is less.
use Rattle.writers.proofs.binary.+put_groups.Given as goal

abbrev pub decreases-put_groups : goal.decreases-put_groups
decreases-put_groups l = l.n
