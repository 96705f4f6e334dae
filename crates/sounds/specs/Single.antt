-- What is heard of one voice, note by note. Assumes nothing: these are definitions.
use Rattle.std.specs.Prelude.{◌≡◌, ◌+◌, ◌<◌, true, List, [], ◌∷◌, map, None, Option, MatchOption}
use Rattle.std.specs.Iterator.{YieldsThen}
use Rattle.score.specs.declared.Sound.{Sound}
use Rattle.score.specs.Meaning.{sound_meant}
use Rattle.score.specs.Music.{Event, Heard, heard, total, all_fine}
use Rattle.score.specs.Calls.{ticks_end}
use Rattle.rows.specs.declared.Row.{Row}
use Rattle.rows.specs.Rows.{zipped, voice_in, IsEven}
use Rattle.sounds.specs.declared.single.Notes.{Notes}

-- the rows that are left, as one
abbrev pub rows_yet : Notes → List Row
rows_yet n = zipped n.rows.places.now n.rows.alterations.now n.rows.lengths.now

-- the events that come yet, and what is heard of them
abbrev pub events_yet : Notes → List Event
events_yet n = voice_in n.rows

abbrev pub heard_yet : Notes → List Heard
heard_yet n = heard (events_yet n) n.tick

-- rows of one length, and events that can be written and are not too long together
pub record Playable (n : Notes) : Type 0 where
  pub even : IsEven n.rows
  pub fines : all_fine (events_yet n) ≡ true
  pub short : n.tick + total (events_yet n) < ticks_end

-- one step: no note comes where none is left, and none is left then; else the first of them, and the rest is left
pub record Steps (n : Notes) (r : Option Sound) (m : Notes) : Type 0 where
  pub same_voice : m.voice ≡ n.voice
  pub gives : MatchOption r ((heard_yet n ≡ []) × (heard_yet m ≡ [])) (λ x. (x.voice ≡ n.voice) × (heard_yet n ≡ (sound_meant x).1 ∷ heard_yet m))

-- what comes of calls until no note comes is all that is heard yet
abbrev pub NotesHeard : Type 0
NotesHeard = (n m : Notes) (xs : List Sound) → YieldsThen Steps n xs None m → map (λ x. (sound_meant x).1) xs ≡ heard_yet n
