-- What holds before each value is written. Assumes nothing.
use Rattle.lengths.proofs.Drawing.{Writing}
use Rattle.lengths.proofs.pieces.Given as goal

abbrev pub invariant-loop-value : goal.invariant-loop-value
invariant-loop-value l = Writing l.n l.at l.value-iterator.0 l.initial.out l.out
