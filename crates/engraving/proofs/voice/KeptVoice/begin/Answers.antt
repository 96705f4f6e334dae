-- The last of the events before the first bar is found; where there is none, printing begins with the first event.
use Rattle.std.proofs.Common.{◌-◌, ◌<◌, arith}
use Rattle.rows.specs.Rows.{voice_in}
use Rattle.engraving.proofs.Beginning.{begins_first, kept_rise, Found, found_at, begins_later}
use Rattle.engraving.proofs.voice.KeptVoice.begin.Goals as goal
use Rattle.engraving.proofs.voice.KeptVoice.begin.Goals.{After-events_before-before}

pub events_before-before-requires : goal.events_before-before-requires
events_before-before-requires c = kept_rise c.args.self.onsets c.args.self.voice.layout (voice_in c.args.self.voice.rows) c.args.self.voice.ready.some c.args.self.keeps

pub returns-then-before-eq0 : goal.returns-then-before-eq0
returns-then-before-eq0 c = begins_first c.args.self.voice.rows c.args.self.voice.layout _ _ c.args.self.voice.ready c.args.self.keeps.kept_signs

-- the events before the first bar
found : (c : After-events_before-before) → Found c.args.self.voice.rows c.args.self.onsets c.args.self.voice.layout c.args.from c.events_before-before.result
found c = record { ready = c.args.self.voice.ready; keeps = c.args.self.keeps; before = c.events_before-before.ensures }

pub overflow_sub-result : goal.overflow_sub-result
overflow_sub-result c =
    let q = found_at (found (goal.at.overflow_sub-result c).After-events_before-before) (c.events_before-before.result - 1) (omega arith) in
    omega (arith, q.0, q.1)

pub returns : goal.returns
returns c =
    let h : c.events_before-before.result - 1 < c.events_before-before.result = omega arith in
    begins_later c.args.self.voice.rows c.args.self.onsets c.args.self.voice.layout c.args.from c.events_before-before.result _ (found (goal.at.returns c).After-events_before-before) h
