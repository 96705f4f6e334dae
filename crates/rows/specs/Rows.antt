-- What three words, and three rows of words, mean. Assumes nothing: these are definitions.
use Rattle.std.specs.Prelude.{◌≡◌, ℕ, Bool, true, false, ◌&&◌, ◌||◌, List, [], ◌∷◌, length, Option, MatchOption, Result, MatchResult, ◌==◌, nat_lt, slice_index}
use Rattle.std.specs.Iterator.{YieldsFirst}
use Rattle.score.specs.declared.Event.{Event as EventType}
use Rattle.score.specs.Music.{Event, note, silence, lasts, places, length_end}
use Rattle.score.specs.Meaning.{event_meant}
use Rattle.laws.specs.Rows.{event_of, voice_of}
use Rattle.rows.specs.declared.Row.{Row}
use Rattle.rows.specs.declared.Rows.{Rows}

-- an event as three words: its place, where a silence has one that no note has, its alteration and its length
abbrev pub stands : Event → ℕ
stands (note p a d) = p
stands (silence d) = places

abbrev pub alters : Event → ℕ
alters (note p a d) = a
alters (silence d) = 0

-- the same as a row, and back
abbrev pub row_of : Event → Row
row_of e = record { place = stands e; alteration = alters e; length = lasts e }

abbrev pub event_in : Row → Event
event_in r = event_of r.place r.alteration r.length

-- whether each number fits its field, of which a silence has only one
abbrev pub fits : Row → Bool
fits r = nat_lt r.length length_end && (r.place == places || (nat_lt r.place 256 && nat_lt r.alteration 256))

-- the event of a row whose numbers fit their fields, and none else
abbrev pub IfFits : {E : Type 0} → Row → Result EventType E → Type 0
IfFits r result = MatchResult result (λ e. (fits r ≡ true) × (event_meant e ≡ event_in r)) (λ _. fits r ≡ false)

-- three rows as one, up to the end of the shortest
unfoldable pub zipped : List ℕ → List ℕ → List ℕ → List Row
zipped [] xs ds = []
zipped (p ∷ ps) [] ds = []
zipped (p ∷ ps) (a ∷ xs) [] = []
zipped (p ∷ ps) (a ∷ xs) (d ∷ ds) = record { place = p; alteration = a; length = d } ∷ zipped ps xs ds

-- the words of the event of an index
abbrev pub row_at : Rows → ℕ → Row
row_at r i = record { place = slice_index r.places.now i; alteration = slice_index r.alterations.now i; length = slice_index r.lengths.now i }

-- rows of one length
abbrev pub IsEven : Rows → Type 0
IsEven r = (length r.alterations.now ≡ length r.places.now) × (length r.lengths.now ≡ length r.places.now)

-- a word of each row comes, and the others are left; where one row is over, all are left as they were
abbrev pub GoesOn : Rows → Option Row → Rows → Type 0
GoesOn r o rest =
    MatchOption o (rest ≡ r)
    (λ e. (r.places.now ≡ e.place ∷ rest.places.now) × (r.alterations.now ≡ e.alteration ∷ rest.alterations.now) × (r.lengths.now ≡ e.length ∷ rest.lengths.now))

-- one step along rows: the first event of what was left comes, rows of one length stay so, and each row goes on by a word
abbrev pub Steps : Rows → Option Row → Rows → Type 0
Steps r o rest = YieldsFirst (λ s. zipped s.places.now s.alterations.now s.lengths.now) r o rest × (IsEven r → IsEven rest) × GoesOn r o rest

-- the voice in three rows
abbrev pub voice_in : Rows → List Event
voice_in r = voice_of r.places.now r.alterations.now r.lengths.now
