-- How far the events are passed over. Assumes nothing.
use Rattle.std.proofs.Common.{◌≡◌, ℕ, ◌%◌, List, drop}
use Rattle.rows.specs.Rows.{voice_in}
use Rattle.engraving.specs.Shown.{left_of}
use Rattle.engraving.proofs.Turns.{in_voice, events_from}
use Rattle.engraving.proofs.voice.Voice.reach.Given as goal

abbrev pub invariant-loop-event : goal.invariant-loop-event
invariant-loop-event l =
    ((ss : List ℕ) (n : ℕ) → left_of l.self.layout.bar (voice_in l.self.rows) ss l.fn.begin.event l.fn.begin.skip n ≡ in_voice l.self.layout.bar l.skip 0 (events_from l.self.rows l.event) (drop l.event ss) n)
    × (l.skip % 3 ≡ 0)
