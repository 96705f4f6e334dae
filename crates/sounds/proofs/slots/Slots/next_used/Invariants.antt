-- No slot from the given one on up to the word's first is used.
use Rattle.std.proofs.Common.{◌*◌}
use Rattle.sounds.specs.Spans.{NoneBetween}
use Rattle.sounds.proofs.slots.Slots.next_used.Given as goal

abbrev pub invariant-loop-word : goal.invariant-loop-word
invariant-loop-word l = NoneBetween l.from (64 * l.word) l.self.voices
