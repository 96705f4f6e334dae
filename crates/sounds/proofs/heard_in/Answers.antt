-- The score of the words has no more events than its limit, and there are no more notes.
use Rattle.std.proofs.Common.{ap, arith}
use Rattle.score.specs.Calls.{all_events}
use Rattle.memory.proofs.Fields.{few_together}
use Rattle.sounds.specs.Scores.{score_in}
use Rattle.sounds.proofs.heard_in.Goals as goal

pub write_span-requires-clause-room : goal.write_span-requires-clause-room
write_span-requires-clause-room c = omega (arith, ap all_events c.from.ensures, c.args.score.holds.proper.kept.fitting, c.requires.room)

pub returns-clause-few : goal.returns-clause-few
returns-clause-few c =
    omega (arith, c.write_span.ensures.many, few_together (score_in c.from.result) 0 c.args.from c.args.to, ap all_events c.from.ensures, c.args.score.holds.proper.kept.fitting)
