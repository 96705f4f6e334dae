-- Each check that fails turns the put away, and when all hold the words lie as the score then has them.
use Rattle.std.proofs.Common.{◌+◌, refl, sym, subst, arith}
use Rattle.score.specs.Meaning.{event_meant}
use Rattle.score.specs.Calls.{put}
use Rattle.voices.proofs.Found.{Done, short_row, no_gap, no_room, too_long_to_put, gap_in_all, end_in_all, put_is}
use Rattle.voices.proofs.editing.StoredMut.put.Goals as goal
use Rattle.voices.proofs.editing.StoredMut.put.Goals.{After-insert_event}

pub returns-in_default : goal.returns-in_default
returns-in_default c =
    let a = no_gap c.read-score.result.words.now c.read-score.result.holds c.args.voice c.args.index (event_meant c.args.event) _ _ c.in_ok-row.ensures c.in_default.ensures in
    rw (← c.read-score.ensures) record { same = refl; said = a.said; left = a.left }

pub returns-in_default-find_room : goal.returns-in_default-find_room
returns-in_default-find_room c =
    let a = no_room c.read-score.result.words.now c.read-score.result.holds c.args.voice c.args.index (event_meant c.args.event) _ _ c.in_ok-row.ensures _ c.in-Some.ensures c.in_default-find_room.ensures in
    rw (← c.read-score.ensures) record { same = refl; said = a.said; left = a.left }

pub find_ticks-requires-clause-more : goal.find_ticks-requires-clause-more
find_ticks-requires-clause-more c = let t = c.in_ok-row.ensures in short_row (event_meant c.args.event) c.in_ok-row.row t.can_write t.words

pub returns-in_default-find_ticks : goal.returns-in_default-find_ticks
returns-in_default-find_ticks c =
    let a = too_long_to_put c.read-score.result.words.now c.read-score.result.holds c.args.voice c.args.index (event_meant c.args.event) _ _ c.in_ok-row.ensures _ c.in-Some.ensures c.in_default-find_ticks.ensures in
    rw (← c.read-score.ensures) record { same = refl; said = a.said; left = a.left }

pub insert_event-requires-clause-within : goal.insert_event-requires-clause-within
insert_event-requires-clause-within c =
    let g = gap_in_all c.read-score.result.words.now c.read-score.result.holds c.args.voice c.args.index (event_meant c.args.event) _ _ c.in_ok-row.ensures _ c.in-Some.ensures in
    omega (arith, g, c.in-Some-find_room.ensures.0)

pub insert_event-requires-clause-inside : goal.insert_event-requires-clause-inside
insert_event-requires-clause-inside c =
    let g = end_in_all c.read-score.result.words.now c.read-score.result.holds c.args.voice c.args.index (event_meant c.args.event) _ _ c.in_ok-row.ensures _ c.in-Some.ensures in
    omega (arith, g, c.in-Some-find_room.ensures.0)

-- the words with the event in them, before what is kept is derived anew
midway : (c : After-insert_event) →
    Done c.read-score.result.words.now (put c.args.voice c.args.index (event_meant c.args.event)) c.insert_event.new.words c.in_ok-row.span.begin (c.in_ok-row.span.count + 1) c.args.index (c.in_ok-row.span.count + 1)
midway c =
    let d = put_is c.read-score.result.words.now c.read-score.result.holds c.args.voice c.args.index (event_meant c.args.event) _ _ c.in_ok-row.ensures _ c.in-Some.ensures _ _ c.in-Some-find_room.ensures c.in-Some-find_ticks.ensures in
    let laid = rw (← c.read-score.ensures) at c.insert_event.ensures in
    subst (λ x. Done c.read-score.result.words.now (put c.args.voice c.args.index (event_meant c.args.event)) x c.in_ok-row.span.begin (c.in_ok-row.span.count + 1) c.args.index (c.in_ok-row.span.count + 1)) (sym laid) d

pub keep-requires-clause-unkept : goal.keep-requires-clause-unkept
keep-requires-clause-unkept c = (midway (goal.at.keep-requires-clause-unkept c).After-insert_event).unkept

pub invariant_of-self : goal.invariant_of-self
invariant_of-self c = record { holds = (midway (goal.at.invariant_of-self c).After-insert_event).holds c.keep.new.words c.keep.ensures }

pub returns : goal.returns
returns c =
    let d = midway (goal.at.returns c).After-insert_event in
    rw (← c.read-score.ensures) record { same = refl; said = d.said; left = d.left c.keep.new.words c.keep.ensures }
