-- A word of each of three regions.
use Rattle.std.proofs.Common.{◌+◌, slice_index_or, slice_set, ap}
use Rattle.memory.specs.Moves.{rows_set}
use Rattle.voices.specs.declared.regions.Regions.{Regions}
use Rattle.voices.proofs.regions.Regions.write_onset.Goals as goal

pub returns : goal.returns
unfolding rows_set
returns c =
    ap (λ (r : Regions). slice_set (slice_set (slice_set c.args.words.now (slice_index_or r.onsets 0 0 + c.args.at) c.args.bar) (slice_index_or r.onsets 1 0 + c.args.at) c.args.tick) (slice_index_or r.onsets 2 0 + c.args.at) c.args.sign)
    c.requires.regions
