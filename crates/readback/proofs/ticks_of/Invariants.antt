use Rattle.std.proofs.Common.{◌≡◌, ◌+◌, ◌<◌, ◌≤◌}
use Rattle.score.specs.Calls.{ticks_end}
use Rattle.score.specs.Music.{all_fine, total}
use Rattle.rows.specs.Rows.{voice_in}
use Rattle.readback.proofs.ticks_of.Given as goal

-- events that were passed are fine, and their ticks are counted up to where they are too many
abbrev pub invariant-loop-row : goal.invariant-loop-row
invariant-loop-row l =
    (all_fine (voice_in l.row-iterator) ≡ all_fine (voice_in l.fn.rows))
    × (l.ticks < ticks_end → l.ticks + total (voice_in l.row-iterator) ≡ total (voice_in l.fn.rows))
    × (ticks_end ≤ l.ticks → ticks_end ≤ total (voice_in l.fn.rows))
