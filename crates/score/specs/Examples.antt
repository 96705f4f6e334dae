-- Voices with their print, and what is heard of one of them: examples that are computed from the definitions. Assumes nothing.
use Rattle.std.specs.Prelude.{◌≡◌, true, false, List, [], ◌∷◌}
use Rattle.score.specs.Music.{Event, note, heard}
use Rattle.score.specs.Print.{bar, head, printed}

-- c4, d4 and e4, which fill a bar
abbrev pub scale : List Event
scale = note 28 2 48 ∷ (note 29 2 48 ∷ (note 30 2 96 ∷ []))

-- f sharp 4 twice, and f4 over the bar line
abbrev pub sharps : List Event
sharps = note 31 3 96 ∷ (note 31 3 48 ∷ (note 31 2 96 ∷ []))

-- Of no events nothing is printed; the scale is three heads and a bar line; and after the first sharp the second f needs none, the third needs a
-- natural, and what it is tied to behind the bar line has no sign.
abbrev pub WorkedExamples : Type 0
WorkedExamples =
    (printed 7 192 [] ≡ [])
    × (printed 7 192 scale ≡ head 28 0 48 false ∷ (head 29 0 48 false ∷ (head 30 0 96 false ∷ (bar ∷ []))))
    × (printed 7 192 sharps ≡ head 31 4 96 false ∷ (head 31 0 48 false ∷ (head 31 3 48 true ∷ (bar ∷ (head 31 0 48 false ∷ [])))))
    × (heard sharps 0 ≡ record { start = 0; long = 96; high = 56 } ∷ (record { start = 96; long = 48; high = 56 } ∷ (record { start = 144; long = 96; high = 55 } ∷ [])))
