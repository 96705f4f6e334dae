-- What was written down and what is to be heard of the bytes that are left is all; time is not late; and each symbol took its five bytes.
use Rattle.std.proofs.Common.{◌≡◌, ◌+◌, ◌*◌, ◌≤◌, length}
use Rattle.score.specs.Music.{places}
use Rattle.score.specs.Print.{read_from}
use Rattle.reading.specs.Keeps.{long_of}
use Rattle.reading.specs.Symbols.{symbols_of}
use Rattle.reading.specs.Told.{state_of}
use Rattle.reading.proofs.Steps.{to_hear}
use Rattle.reading.proofs.Hearing.{Noted}
use Rattle.reading.proofs.play_row.Given as goal

abbrev pub invariant-symbols : goal.invariant-symbols
invariant-symbols l = record {
  noted : Noted (read_from l.signature (symbols_of l.fn.symbols.0.now)) l.initial.heard l.heard l.notes (to_hear l.signature (symbols_of l.symbols.0.now) (state_of l.player.0 l.player.1.0 l.holds));
  in_time : l.player.0 + 65536 * length (symbols_of l.symbols.0.now) ≤ 65536 * length (symbols_of l.fn.symbols.0.now);
  row : length l.holds ≡ places;
  within : long_of l.player.1.0 ≤ l.player.0;
  taken : 5 * length (symbols_of l.fn.symbols.0.now) + length l.symbols.0.now ≡ 5 * length (symbols_of l.symbols.0.now) + length l.fn.symbols.0.now;
}

abbrev pub decreases-symbols : goal.decreases-symbols
decreases-symbols l = length (symbols_of l.symbols.0.now)
