-- What is still to be marked in the slots as they are comes to the same as all of it in the slots as they came.
use Rattle.std.proofs.Common.{◌≡◌, List, ℕ, ◌+◌, ◌*◌, ◌≤◌, sum}
use Rattle.std.specs.Slice.Iter.{iter_rest}
use Rattle.std.specs.Iterator.Adapters.{zip_first, zip_second}
use Rattle.sounds.specs.Spans.{grain, note_ticks, marks}
use Rattle.sounds.specs.Scores.{end_of}
use Rattle.sounds.proofs.slots.Slots.mark.Given as goal

abbrev pub invariant-loop-place : goal.invariant-loop-place
invariant-loop-place l =
    let ps : List ℕ = iter_rest (zip_first l.place-iterator) in
    let ds : List ℕ = iter_rest (zip_second l.place-iterator) in
    let end : ℕ = end_of l.initial.self in record {
      first : l.self.first ≡ l.initial.self.first;
      count : l.self.count ≡ l.initial.self.count;
      short : l.tick + sum ds ≡ l.start + sum l.lengths;
      begun : grain * l.initial.self.first ≤ l.tick;
      marked : marks l.voice l.initial.self.first (note_ticks end l.tick ps ds) l.self.voices ≡ marks l.voice l.initial.self.first (note_ticks end l.start l.places l.lengths) l.initial.self.voices;
    }
