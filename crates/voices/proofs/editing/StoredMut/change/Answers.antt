-- Each check that fails turns the change away, and when all hold the words lie as the score then has them.
use Rattle.std.proofs.Common.{refl, sym, subst}
use Rattle.score.specs.Meaning.{event_meant}
use Rattle.score.specs.Calls.{change}
use Rattle.voices.proofs.Found.{Done, short_row, no_event_to_change, not_longer, too_long_to_change, change_is}
use Rattle.voices.proofs.editing.StoredMut.change.Goals as goal
use Rattle.voices.proofs.editing.StoredMut.change.Goals.{After-set_event}

pub returns-in_default : goal.returns-in_default
returns-in_default c =
    let t = c.in_ok-row.ensures in
    let a = no_event_to_change c.read-score.result.words.now c.read-score.result.holds c.args.voice c.args.index _ t.spans (event_meant c.args.event) t.can_write c.in_default.ensures in
    rw (← c.read-score.ensures) record { same = refl; said = a.said; left = a.left }

pub find_ticks-requires-clause-less : goal.find_ticks-requires-clause-less
find_ticks-requires-clause-less c = not_longer c.read-score.result.words.now c.read-score.result.holds c.args.voice c.args.index _ c.in_ok-row.ensures.spans _ c.in-Some.ensures _ c.row_at-old.ensures

pub find_ticks-requires-clause-more : goal.find_ticks-requires-clause-more
find_ticks-requires-clause-more c = let t = c.in_ok-row.ensures in short_row (event_meant c.args.event) c.in_ok-row.row t.can_write t.words

pub returns-in_default-find_ticks : goal.returns-in_default-find_ticks
returns-in_default-find_ticks c =
    let t = c.in_ok-row.ensures in
    let a = too_long_to_change c.read-score.result.words.now c.read-score.result.holds c.args.voice c.args.index _ t.spans _ c.in-Some.ensures _ c.row_at-old.ensures (event_meant c.args.event) _ t.can_write t.words c.in_default-find_ticks.ensures in
    rw (← c.read-score.ensures) record { same = refl; said = a.said; left = a.left }

-- the words with the other event, before what is kept is derived anew
midway : (c : After-set_event) →
    Done c.read-score.result.words.now (change c.args.voice c.args.index (event_meant c.args.event)) c.set_event.new.words c.in_ok-row.span.begin c.in_ok-row.span.count c.args.index c.end_of_change-end.result
midway c =
    let t = c.in_ok-row.ensures in
    let reach = c.end_of_change-end.ensures in
    let d = change_is c.read-score.result.words.now c.read-score.result.holds c.args.voice c.args.index _ t.spans _ c.in-Some.ensures _ c.row_at-old.ensures (event_meant c.args.event) _ t.can_write t.words _ _ c.in-Some-find_ticks.ensures reach.behind reach.other in
    let laid = rw (← c.read-score.ensures) at c.set_event.ensures in
    subst (λ x. Done c.read-score.result.words.now (change c.args.voice c.args.index (event_meant c.args.event)) x c.in_ok-row.span.begin c.in_ok-row.span.count c.args.index c.end_of_change-end.result) (sym laid) d

pub keep-requires-clause-unkept : goal.keep-requires-clause-unkept
keep-requires-clause-unkept c = (midway (goal.at.keep-requires-clause-unkept c).After-set_event).unkept

pub invariant_of-self : goal.invariant_of-self
invariant_of-self c = record { holds = (midway (goal.at.invariant_of-self c).After-set_event).holds c.keep.new.words c.keep.ensures }

pub returns : goal.returns
returns c =
    let d = midway (goal.at.returns c).After-set_event in
    rw (← c.read-score.ensures) record { same = refl; said = d.said; left = d.left c.keep.new.words c.keep.ensures }
