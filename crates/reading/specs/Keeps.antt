-- What the note that a player holds means. Assumes nothing: these are definitions.
use Rattle.std.specs.Prelude.{ℕ, Some, None, Option}
use Rattle.score.specs.Print as print
use Rattle.reading.specs.declared.player.Held.{Held}

abbrev pub held_meant : Option Held → print.Held
held_meant None = print.nothing
held_meant (Some h) = print.held h.place h.alteration h.since h.long

-- how long it is by now
abbrev pub long_of : Option Held → ℕ
long_of None = 0
long_of (Some h) = h.long
