-- A voice or an event that is not there turns the cut away; else the words lie as the score then has them.
use Rattle.std.proofs.Common.{◌-◌, refl, sym, ap, subst, arith}
use Rattle.score.specs.Calls.{cut}
use Rattle.voices.proofs.Found.{Done, no_voice_to_cut, no_event_to_cut, not_longer, in_all, last_in_all, some_there, cut_is}
use Rattle.voices.proofs.editing.StoredMut.cut.Goals as goal
use Rattle.voices.proofs.editing.StoredMut.cut.Goals.{After-remove_event}

pub returns-in_default : goal.returns-in_default
returns-in_default c =
    let a = no_voice_to_cut c.read-score.result.words.now c.read-score.result.holds c.args.voice c.args.index c.in_default.ensures in
    rw (← c.read-score.ensures) record { same = refl; said = a.said; left = a.left }

pub returns-in_default-find : goal.returns-in_default-find
returns-in_default-find c =
    let a = no_event_to_cut c.read-score.result.words.now c.read-score.result.holds c.args.voice c.args.index _ c.in-Some.ensures c.in_default-find.ensures in
    rw (← c.read-score.ensures) record { same = refl; said = a.said; left = a.left }

pub overflow_sub-ticks : goal.overflow_sub-ticks
overflow_sub-ticks c =
    let n = not_longer c.read-score.result.words.now c.read-score.result.holds c.args.voice c.args.index _ c.in-Some.ensures _ c.in-Some-find.ensures _ c.row_at.ensures in
    omega (arith, n, c.ticks_of.ensures.value)

pub remove_event-requires-clause-some : goal.remove_event-requires-clause-some
remove_event-requires-clause-some c = rw (← c.read-score.ensures) (some_there c.read-score.result.words.now c.read-score.result.holds c.args.voice c.args.index _ c.in-Some.ensures _ c.in-Some-find.ensures _ c.row_at.ensures)

pub remove_event-requires-clause-within : goal.remove_event-requires-clause-within
remove_event-requires-clause-within c =
    let n = in_all c.read-score.result.words.now c.read-score.result.holds c.args.voice c.args.index _ c.in-Some.ensures _ c.in-Some-find.ensures _ c.row_at.ensures in
    omega (arith, n, c.events_in-used.ensures.value)

pub remove_event-requires-clause-inside : goal.remove_event-requires-clause-inside
remove_event-requires-clause-inside c =
    let n = last_in_all c.read-score.result.words.now c.read-score.result.holds c.args.voice c.args.index _ c.in-Some.ensures _ c.in-Some-find.ensures _ c.row_at.ensures in
    omega (arith, n, c.events_in-used.ensures.value)

-- the words without the event, before what is kept is derived anew
midway : (c : After-remove_event) →
    Done c.read-score.result.words.now (cut c.args.voice c.args.index) c.remove_event.new.words c.in-Some.span.begin (c.in-Some.span.count - 1) c.args.index (c.in-Some.span.count - 1)
midway c =
    let d = cut_is c.read-score.result.words.now c.read-score.result.holds c.args.voice c.args.index _ c.in-Some.ensures _ c.in-Some-find.ensures _ c.row_at.ensures c.events_in-used.result _ c.events_in-used.ensures.value (ap (λ n. n - c.row_at.result.length) c.ticks_of.ensures.value) in
    let laid = rw (← c.read-score.ensures) at c.remove_event.ensures in
    subst (λ x. Done c.read-score.result.words.now (cut c.args.voice c.args.index) x c.in-Some.span.begin (c.in-Some.span.count - 1) c.args.index (c.in-Some.span.count - 1)) (sym laid) d

pub keep-requires-clause-unkept : goal.keep-requires-clause-unkept
keep-requires-clause-unkept c = (midway (goal.at.keep-requires-clause-unkept c).After-remove_event).unkept

pub invariant_of-self : goal.invariant_of-self
invariant_of-self c = record { holds = (midway (goal.at.invariant_of-self c).After-remove_event).holds c.keep.new.words c.keep.ensures }

pub returns : goal.returns
returns c =
    let d = midway (goal.at.returns c).After-remove_event in
    rw (← c.read-score.ensures) record { same = refl; said = d.said; left = d.left c.keep.new.words c.keep.ensures }
