-- A word in each region, and the voice's ticks.
use Rattle.std.proofs.Common.{get_or, ap}
use Rattle.memory.specs.Moves.{rows_set, with_other}
use Rattle.voices.proofs.editing.set_event.Goals as goal

pub returns : goal.returns
unfolding rows_set with_other
returns c =
    let places = ap (λ r. get_or r.rows 0 0) c.regions_of.ensures.begins in
    let alterations = ap (λ r. get_or r.rows 1 0) c.regions_of.ensures.begins in
    let lengths = ap (λ r. get_or r.rows 2 0) c.regions_of.ensures.begins in
    cc
