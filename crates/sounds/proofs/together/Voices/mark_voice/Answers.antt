-- The event that is reached is the one that a walk comes to, and the slots are marked from it on.
use Rattle.std.proofs.Common.{◌≡◌, ◌*◌, refl, arith}
use Rattle.sounds.specs.Spans.{grain}
use Rattle.sounds.proofs.Search.{own_order, own_behind, marks_behind, own_came, own_short, marks_from}
use Rattle.sounds.proofs.together.Voices.mark_voice.Goals as goal
use Rattle.sounds.proofs.together.Voices.mark_voice.Goals.{After-tick-from}

-- the first slot's tick
from_is : (c : After-tick-from) → c.tick-from.result ≡ grain * c.args.slots.now.first
from_is c = omega (arith, c.tick-from.ensures)

pub reach-requires : goal.reach-requires
reach-requires c = own_order c.args.self.laid c.args.self.timed c.requires.there c.requires.begin c.requires.count

pub returns-in_default-clause-index : goal.returns-in_default-clause-index
returns-in_default-clause-index c =
    rw (← from_is (goal.at.returns-in_default-clause-index c).After-tick-from) (own_behind c.args.self.laid c.args.self.timed c.requires.there c.requires.begin c.requires.count c.in_default.ensures).index

pub returns-in_default-clause-marked : goal.returns-in_default-clause-marked
returns-in_default-clause-marked c = record {
  first = refl;
  count = refl;
  voices = marks_behind c.args.self.laid c.args.self.timed c.requires.there c.requires.begin c.requires.count c.in_default.ensures _ _ _ _;
}

pub mark-requires-clause-short : goal.mark-requires-clause-short
mark-requires-clause-short c = own_short c.args.self.laid c.args.self.timed c.requires.there c.requires.begin c.requires.count c.in-Some.ensures

pub returns-clause-index : goal.returns-clause-index
returns-clause-index c =
    rw (← from_is (goal.at.returns-clause-index c).After-tick-from) (own_came c.args.self.laid c.args.self.timed c.requires.there c.requires.begin c.requires.count c.in-Some.ensures).index

pub returns-clause-marked : goal.returns-clause-marked
returns-clause-marked c = record {
  first = c.mark.ensures.first;
  count = c.mark.ensures.count;
  voices = marks_from c.args.self.laid c.args.self.timed c.requires.there c.requires.begin c.requires.count c.in-Some.ensures _ _ _ _ _ c.mark.ensures.voices;
}
