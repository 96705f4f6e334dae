-- What is written, and what is left of the voice from this event on, come to all that is heard.
use Rattle.score.specs.Calls.{together}
use Rattle.sounds.specs.Scores.{score_in}
use Rattle.sounds.proofs.Alone.{Along}
use Rattle.sounds.proofs.together.Voices.write_alone.Given as goal

abbrev pub invariant-loop-at : goal.invariant-loop-at
invariant-loop-at l =
    Along l.self.counts.now l.self.rows.places.now l.self.rows.alterations.now l.self.rows.lengths.now l.to
    (together (score_in l.self) 0 l.from l.to) l.initial.out l.out l.count l.at l.tick
