-- A score as the code has it, in four lent rows of words: how many events each voice has, and the events of all voices in three rows; and the slots of a
-- span. Assumes nothing: these are definitions.
use Rattle.std.specs.Prelude.{◌≡◌, ℕ, ◌+◌, ◌*◌, List}
use Rattle.score.specs.Calls.{Score}
use Rattle.sounds.specs.Spans as over
use Rattle.sounds.specs.Spans.{grain, marks}
use Rattle.sounds.specs.declared.slots.Slots.{Slots}
use Rattle.sounds.specs.declared.together.Voices.{Voices}

abbrev pub score_in : Voices → Score
score_in v = over.score_in v.counts.now v.rows.places.now v.rows.alterations.now v.rows.lengths.now

-- the tick at which slots end
abbrev pub end_of : Slots → ℕ
end_of s = grain * (s.first + s.count)

-- voice u begins a note at each of these ticks, besides what began in the slots before
pub record Marks (u : ℕ) (ts : List ℕ) (s t : Slots) : Type 0 where
  pub first : t.first ≡ s.first
  pub count : t.count ≡ s.count
  pub voices : t.voices ≡ marks u s.first ts s.voices

abbrev pub IsMarked : Voices → List ℕ → Slots → Type 0
IsMarked v cursors s = over.Ready v.counts.now v.rows.places.now v.rows.alterations.now v.rows.lengths.now (end_of s) cursors (grain * s.first) s.voices

-- the notes of which slots tell
abbrev pub all_left : Voices → List ℕ → Slots → over.Row
all_left v cursors s = over.all_left v.counts.now v.rows.places.now v.rows.alterations.now v.rows.lengths.now (end_of s) cursors
