-- Each event that is passed over leaves the same to be printed.
use Rattle.std.proofs.Common.{sym, refl, ◌∙◌, arith}
use Rattle.rows.specs.Rows.{row_at}
use Rattle.engraving.proofs.Turns.{starts_voice, turn, pass_turn, no_event}
use Rattle.engraving.proofs.voice.Voice.reach.Goals as goal
use Rattle.engraving.proofs.voice.Voice.reach.Goals.{Then-skip-length, Else-skip-length}

pub loop-event-init : goal.loop-event-init
loop-event-init c = (λ ss n. sym (starts_voice c.args.self.rows c.args.self.layout.bar ss c.args.begin.event c.args.begin.skip n), c.requires)

pub returns-then-skip-length : goal.returns-then-skip-length
returns-then-skip-length c = record {
  same = λ ss n. c.loop-event.invariant.0 ss n ∙ starts_voice c.args.self.rows c.args.self.layout.bar ss c.loop-event.event c.loop-event.skip n;
  within = omega arith;
  short = omega arith;
  thirds = c.loop-event.invariant.1;
}

pub loop-event-preserved : goal.loop-event-preserved
loop-event-preserved c =
    let w = row_at c.args.self.rows c.loop-event.event in
    let t = turn c.args.self.rows c.args.self.layout c.loop-event.event w c.args.self.ready c.loop-event-test.true refl in (
      λ ss n. c.loop-event.invariant.0 ss n ∙ pass_turn c.args.self.layout.bar c.loop-event.skip 0 c.loop-event.event ss n t c.if-skip-length.false,
      omega (arith, t.words.three, c.loop-event.invariant.1, c.if-skip-length.false),
    )

pub returns : goal.returns
returns c =
    record {
      same = λ ss n.
          c.loop-event.invariant.0 ss n ∙ no_event _ _ _ _ c.args.self.rows c.loop-event.event n c.loop-event-test.false c.args.self.ready.same_places
          ∙ sym (no_event _ _ _ _ c.args.self.rows _ n (omega arith) c.args.self.ready.same_places) ∙ starts_voice c.args.self.rows c.args.self.layout.bar ss _ 0 n;
      within = omega arith;
      short = omega arith;
      thirds = refl;
    }
