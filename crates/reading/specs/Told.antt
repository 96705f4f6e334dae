-- What a player and a note as it is heard mean. Assumes nothing: these are definitions.
use Rattle.std.specs.Prelude.{ℕ, List, [], ◌∷◌, Some, None, Option}
use Rattle.score.specs.Music as music
use Rattle.reading.specs.declared.Heard.{Heard}
use Rattle.reading.specs.declared.player.Held.{Held}
use Rattle.reading.specs.declared.player.Player.{Player}
use Rattle.reading.specs.Keeps.{held_meant}
use Rattle.reading.specs.Player.{State}

abbrev pub state_of : ℕ → Option Held → List ℕ → State
state_of t h hs = record { time = t; holds = hs; note = held_meant h }

abbrev pub state : Player → List ℕ → State
state p hs = state_of p.time p.held hs

abbrev pub heard_meant : Heard → music.Heard
heard_meant h = record { start = h.start; long = h.length; high = h.tone }

-- the note that there may be, as a row, and what is heard of it
abbrev pub listed : Option Heard → List Heard
listed None = []
listed (Some h) = h ∷ []

abbrev pub notes : Option Heard → List music.Heard
notes None = []
notes (Some h) = heard_meant h ∷ []
