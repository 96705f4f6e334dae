-- A word into each region, and the voice's count and ticks.
use Rattle.std.proofs.Common.{get_or, ap, arith}
use Rattle.memory.specs.Moves.{rows_in, with_event}
use Rattle.memory.proofs.Held.{count_at, within_limit}
use Rattle.voices.proofs.editing.insert_event.Goals as goal

pub overflow_add-words : goal.overflow_add-words
overflow_add-words c =
    let n = count_at c.args.words.now c.requires.holds c.args.voice c.requires.there in
    let l = within_limit c.args.words.now c.requires.holds c.args.voice c.requires.there in
    omega (arith, c.requires.holds.proper.good_limits.2)

pub returns : goal.returns
unfolding rows_in with_event
returns c =
    let rows = ap (λ r. get_or r.rows 0 0) c.regions_of-regions.ensures.begins in
    let onsets = ap (λ r. get_or r.onsets 0 0) c.regions_of-regions.ensures.begins in
    cc
