-- Voices, and what the ear gets of them. Assumes nothing: these are definitions.
use Rattle.std.specs.Prelude.{ℕ, ◌+◌, ◌*◌, ◌/◌, ◌%◌, Bool, true, false, ◌&&◌, List, [], ◌∷◌, ◌==◌, nat_lt, slice_index}

abbrev pub pick : {A : Type 0} → Bool → A → A → A
pick true a b = a
pick false a b = b

-- the limits of the notation: places, alterations, and the first length that is too long for its two bytes
abbrev pub places : ℕ
places = 70

abbrev pub alterations : ℕ
alterations = 5

abbrev pub length_end : ℕ
length_end = 65536

-- A note has a place, which is 7 times its octave and its step from c, 0, to b, 6; an alteration, from double flat, 0, over none, 2, to double
-- sharp, 4; and a length in ticks, of which a whole note has 192. A silence has only a length.
pub data Event : Type 0 where
  note : ℕ → ℕ → ℕ → Event
  silence : ℕ → Event

unfoldable pub lasts : Event → ℕ
lasts (note p a d) = d
lasts (silence d) = d

-- half tones from c up to each step of an octave
unfoldable pub of_step : ℕ → ℕ
of_step s = slice_index (0 ∷ (2 ∷ (4 ∷ (5 ∷ (7 ∷ (9 ∷ (11 ∷ []))))))) s

-- which tone a place sounds when it is altered so, in half tones
abbrev pub tone : ℕ → ℕ → ℕ
tone p a = 12 * (p / 7) + of_step (p % 7) + a

-- a note as it is heard: when it begins, how long it is, and its tone
pub record Heard : Type 0 where
  pub start : ℕ
  pub long : ℕ
  pub high : ℕ

-- what is heard of events that follow one another from tick t on
unfoldable pub heard : List Event → ℕ → List Heard
heard [] t = []
heard (note p a d ∷ es) t = record { start = t; long = d; high = tone p a } ∷ heard es (t + d)
heard (silence d ∷ es) t = heard es (t + d)

unfoldable pub total : List Event → ℕ
total [] = 0
total (e ∷ es) = lasts e + total es

-- events that can be written: in range, and 3 ticks long or a multiple of that
abbrev pub fine_length : ℕ → Bool
fine_length d = (nat_lt 0 d && nat_lt d length_end) && d % 3 == 0

unfoldable pub fine : Event → Bool
fine (note p a d) = (nat_lt p places && nat_lt a alterations) && fine_length d
fine (silence d) = fine_length d

unfoldable pub all_fine : List Event → Bool
all_fine [] = true
all_fine (e ∷ es) = fine e && all_fine es
