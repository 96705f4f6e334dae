-- What is still to be printed in the middle of an event, and of events of which some ticks are passed over. Assumes nothing: these are definitions.
use Rattle.std.specs.Prelude.{ℕ, suc, ◌+◌, ◌-◌, ◌%◌, Bool, List, [], ◌∷◌, ◌++◌, drop, ◌==◌, nat_le, slice_index}
use Rattle.score.specs.Music.{pick, Event, note, silence, lasts}
use Rattle.score.specs.Print.{Symbol, bar, head, rest, key, Chunk, value, line, chunks, has_line, has_value}

-- the sign of a note that begins, and what holds behind chunks if st held before them: the key, if a bar line was among them
abbrev pub sign_of : (ℕ → ℕ) → ℕ → ℕ → ℕ
sign_of st p a = pick (st p == a) 0 (suc a)

abbrev pub holding : ℕ → List Chunk → (ℕ → ℕ) → ℕ → ℕ
holding k cs st = pick (has_line cs) (key k) st

-- one symbol of an event at place p: a rest if that is 70, the place of a silence
abbrev pub one : ℕ → ℕ → ℕ → Bool → Symbol
one p s v tied = pick (p == 70) (rest v) (head p s v tied)

-- heads or rests, by the place
unfoldable pub drawn : ℕ → ℕ → List Chunk → List Symbol
drawn p s [] = []
drawn p s (line ∷ cs) = bar ∷ drawn p s cs
drawn p s (value v ∷ cs) = one p s v (has_value cs) ∷ drawn p 0 cs

unfoldable pub place_of : Event → ℕ
place_of (note p a d) = p
place_of (silence d) = 70

-- events from tick o of a bar on, each with the sign that a row of signs gives it
unfoldable pub signed : ℕ → ℕ → List Event → List ℕ → List Symbol
signed b o [] sg = []
signed b o (e ∷ es) sg = drawn (place_of e) (slice_index sg 0) (chunks (suc (lasts e)) b o (lasts e)) ++ signed b ((o + lasts e) % b) es (drop 1 sg)

-- d ticks of an event at place p, from tick o of a bar on, and the events behind it
unfoldable pub going : ℕ → ℕ → ℕ → ℕ → ℕ → List Event → List ℕ → List Symbol
going b o p s d es sg = drawn p s (chunks (suc d) b o d) ++ signed b ((o + d) % b) es sg

-- the same, where the bar may be full and its line not yet printed
unfoldable pub owed : ℕ → ℕ → ℕ → ℕ → ℕ → List Event → List ℕ → List Symbol
owed b o p s d es sg = pick (o == b) (bar ∷ going b 0 p s d es sg) (going b o p s d es sg)

-- what is printed of events if t ticks are passed over first: an event that has begun before has no sign
unfoldable pub rest_from : ℕ → ℕ → ℕ → List Event → List ℕ → List Symbol
rest_from b t o [] sg = []
rest_from b t o (e ∷ es) sg =
    pick (nat_le (lasts e) t) (rest_from b (t - lasts e) o es (drop 1 sg))
    (owed b o (place_of e) (pick (t == 0) (slice_index sg 0) 0) (lasts e - t) es (drop 1 sg))
