-- What is heard of the events that come yet is all that was heard before the first silence.
use Rattle.std.proofs.Common.{◌≡◌, ◌≤◌, length}
use Rattle.sounds.specs.Single.{rows_yet, heard_yet, Playable}
use Rattle.sounds.proofs.single.NotesIterator.next.Given as goal

abbrev pub invariant-loop-row : goal.invariant-loop-row
invariant-loop-row l = record {
  playable : Playable l.self;
  same_heard : heard_yet l.self ≡ heard_yet l.initial.self;
  same_voice : l.self.voice ≡ l.initial.self.voice;
  fewer : length (rows_yet l.self) ≤ length (rows_yet l.initial.self);
}

abbrev pub decreases-loop-row : goal.decreases-loop-row
decreases-loop-row l = length (rows_yet l.self)
