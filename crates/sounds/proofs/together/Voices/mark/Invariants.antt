-- The voices so far are marked, and their events end where the next voice begins.
use Rattle.std.proofs.Common.{◌≡◌, length, take, sum}
use Rattle.sounds.specs.Scores.{end_of}
use Rattle.sounds.proofs.Marked.{Marked}
use Rattle.sounds.proofs.together.Voices.mark.Given as goal

abbrev pub invariant-loop-voice : goal.invariant-loop-voice
invariant-loop-voice l = record {
  begins : l.begin ≡ sum (take l.voice l.self.counts.now);
  many : length l.cursors ≡ 64;
  first : l.slots.first ≡ l.initial.slots.first;
  count : l.slots.count ≡ l.initial.slots.count;
  marked : Marked l.self.counts.now l.self.rows.places.now l.self.rows.alterations.now l.self.rows.lengths.now l.initial.slots.first (end_of l.initial.slots) l.cursors l.slots.voices l.voice;
}
