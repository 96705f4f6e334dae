-- The counts, the rows and where events begin are the words' regions.
use Rattle.std.proofs.Common.{ap}
use Rattle.sounds.proofs.Whole.{laid_of, timed_of}
use Rattle.sounds.proofs.together.VoicesFromStored.from.Goals as goal

pub invariant_of-result : goal.invariant_of-result
invariant_of-result c = record {
  laid = (laid_of c.args.score.holds c.counts.ensures c.regions-rows.ensures.places c.regions-rows.ensures.alterations c.regions-rows.ensures.lengths).0;
  timed = timed_of c.args.score.holds c.counts.ensures c.regions-rows.ensures.places c.regions-rows.ensures.lengths c.onsets.ensures.bars c.onsets.ensures.ticks (ap (λ l. l.bar) c.layout.ensures);
}

pub returns : goal.returns
returns c = (laid_of c.args.score.holds c.counts.ensures c.regions-rows.ensures.places c.regions-rows.ensures.alterations c.regions-rows.ensures.lengths).1
