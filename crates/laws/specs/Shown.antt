-- What is promised of bars that are shown alone. Assumes nothing: these are definitions.
use Rattle.std.specs.Prelude.{◌≡◌, ℕ, ◌+◌, ◌*◌, ◌%◌, ◌<◌, true, List}
use Rattle.score.specs.Music.{Event, heard, all_fine}
use Rattle.score.specs.Print.{printed, read_from, from_bar, so_many}
use Rattle.score.specs.Promise.{no_tie_over, later, begun_in}

-- Who reads n bars from bar m on, and nothing else, hears just what begins in them, with the time counted from bar m, if nothing is tied into
-- that bar nor into the bar behind the last.
abbrev pub BarsHeard : Type 0
BarsHeard =
    (k b m n : ℕ) (es : List Event) → 0 < b → b % 3 ≡ 0 → all_fine es ≡ true →
    no_tie_over (printed k b es) m ≡ true → no_tie_over (printed k b es) (m + n) ≡ true →
    later (m * b) (read_from k (so_many (from_bar m (printed k b es)) n)) ≡ begun_in (m * b) ((m + n) * b) (heard es 0)
