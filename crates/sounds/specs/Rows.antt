-- A note in a row of words, as it is heard. Assumes nothing: these are definitions.
use Rattle.std.specs.Prelude.{ℕ}
use Rattle.score.specs.Music.{tone, Heard}
use Rattle.rows.specs.declared.Row.{Row}

-- the note of a row that begins at tick t
abbrev pub heard_at : Row → ℕ → Heard
heard_at r t = record { start = t; long = r.length; high = tone r.place r.alteration }
