-- What holds before each sign is written. Assumes nothing.
use Rattle.engraving.proofs.Deriving.{Derived}
use Rattle.engraving.proofs.voice.Voice.derive_signs.Given as goal

-- the signs that are written and those of the events to come are all
abbrev pub invariant-loop-i : goal.invariant-loop-i
invariant-loop-i l =
    (goal.iterator-loop-i).can_next l.i-iterator × (goal.iterator-loop-i).is_finite l.i-iterator
    × Derived l.self.rows l.layout l.initial.signs l.signs l.i-iterator.count l.tick l.holds l.i-iterator.iter
