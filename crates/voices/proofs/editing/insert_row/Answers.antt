-- A word into each of three regions.
use Rattle.memory.specs.Moves.{rows_in}
use Rattle.voices.proofs.editing.insert_row.Goals as goal

pub returns : goal.returns
unfolding rows_in
returns c = cc
