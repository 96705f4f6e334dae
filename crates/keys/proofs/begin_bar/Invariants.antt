use Rattle.std.proofs.Common.{◌≡◌, ℕ, ◌*◌, ◌<◌, length, get_or}
use Rattle.score.specs.Music.{places}
use Rattle.score.specs.Print.{key}
use Rattle.keys.proofs.begin_bar.Given as goal

-- the key holds at each place that was reached
abbrev pub invariant-loop-octave : goal.invariant-loop-octave
invariant-loop-octave l = ((q : ℕ) → q < 7 * l.octave → get_or l.holds q 0 ≡ key l.signature q) × (length l.holds ≡ places)
