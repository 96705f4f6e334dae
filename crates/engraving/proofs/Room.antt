-- How many bytes the bars that are asked for take at most. Assumes nothing.
use Rattle.std.proofs.Common.{◌≡◌, ℕ, ◌+◌, ◌*◌, ◌/◌, ◌%◌, ◌<◌, ◌≤◌, true, List, length, arith}
use Rattle.score.specs.Calls.{most_bars}
use Rattle.score.specs.Music.{Event, all_fine}
use Rattle.laws.proofs.Room.{symbols_fit, page_fits}
use Rattle.wire.proofs.Rows.{length_symbols}
use Rattle.engraving.specs.Shown.{asked_for, shown, page_bytes}

-- each bar a line, and of values at most a third of its ticks
pub shown_fits : (k b : ℕ) (es : List Event) (from n : ℕ) → 0 < b → b % 3 ≡ 0 → all_fine es ≡ true → length (shown k b es from n) ≤ 5 * (n * (b / 3 + 1))
shown_fits k b es from n h b3 f = let e = length_symbols (asked_for k b es from n) in omega (arith, symbols_fit k b es from n h b3 f)

pub page_enough : (k b : ℕ) (es : List Event) (from n : ℕ) → 0 < b → b % 3 ≡ 0 → all_fine es ≡ true → b ≤ 768 → n ≤ most_bars → length (shown k b es from n) ≤ page_bytes
page_enough k b es from n h b3 f l m = let e = length_symbols (asked_for k b es from n) in omega (arith, page_fits k b es from n h b3 f l m)
