-- In every turn, what is written and what is left of the voices come to all that was left; each turn leaves one note less.
use Rattle.std.proofs.Common.{◌+◌, ◌-◌, ◌*◌, ◌^◌, ◌<◌, ◌∷◌, length, drop}
use Rattle.sounds.specs.Spans.{grain}
use Rattle.sounds.specs.Scores.{end_of, all_left}
use Rattle.sounds.proofs.Writing.{Writing}
use Rattle.sounds.proofs.Passing.{Passing}
use Rattle.sounds.proofs.together.Voices.write.Given as goal

abbrev pub invariant-slots : goal.invariant-slots
invariant-slots l =
    Passing l.self.counts.now l.self.rows.places.now l.self.rows.alterations.now l.self.rows.lengths.now (end_of l.slots)
    l.initial.cursors l.initial.out l.cursors l.out l.count l.slots.first l.slots.voices l.next

abbrev pub decreases-slots : goal.decreases-slots
decreases-slots l = l.slots.count - l.next

abbrev pub invariant-voices : goal.invariant-voices
invariant-voices l = record {
  writing :
      Writing l.self.counts.now l.self.rows.places.now l.self.rows.alterations.now l.self.rows.lengths.now (end_of l.slots)
      l.initial.cursors l.initial.out l.initial.count l.cursors l.out l.count (grain * (l.slots.first + l.slot)) (l.voices ∷ drop (l.slot + 1) l.slots.voices);
  small : l.voices < 2 ^ 64;
}

abbrev pub decreases-voices : goal.decreases-voices
decreases-voices l = length (all_left l.self l.cursors l.slots)
