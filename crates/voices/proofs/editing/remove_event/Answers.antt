-- A word out of each region, and the voice's count and ticks.
use Rattle.std.proofs.Common.{get_or, ap}
use Rattle.memory.specs.Moves.{rows_out, without_event}
use Rattle.voices.proofs.editing.remove_event.Goals as goal

pub returns : goal.returns
unfolding rows_out without_event
returns c =
    let rows = ap (λ r. get_or r.rows 0 0) c.regions_of-regions.ensures.begins in
    let onsets = ap (λ r. get_or r.onsets 0 0) c.regions_of-regions.ensures.begins in
    cc
