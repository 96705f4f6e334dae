-- The events so far begin before the tick.
use Rattle.sounds.specs.Spans.{AllBefore}
use Rattle.sounds.proofs.reach.Given as goal

abbrev pub invariant-loop-index : goal.invariant-loop-index
invariant-loop-index l = AllBefore l.from l.measure l.bars l.ticks l.index
