-- A voice as it lies in three parallel rows of words: places, alterations and lengths, of which a silence has place 70. Assumes nothing: these are definitions.
use Rattle.std.specs.Prelude.{ℕ, List, [], ◌∷◌, ◌==◌}
use Rattle.score.specs.Music.{pick, Event, note, silence}

abbrev pub event_of : ℕ → ℕ → ℕ → Event
event_of p a d = pick (p == 70) (silence d) (note p a d)

unfoldable pub voice_of : List ℕ → List ℕ → List ℕ → List Event
voice_of [] xs ds = []
voice_of (p ∷ ps) [] ds = []
voice_of (p ∷ ps) (a ∷ xs) [] = []
voice_of (p ∷ ps) (a ∷ xs) (d ∷ ds) = event_of p a d ∷ voice_of ps xs ds
