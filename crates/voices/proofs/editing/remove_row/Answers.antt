-- A word out of each of three regions.
use Rattle.memory.specs.Moves.{rows_out}
use Rattle.voices.proofs.editing.remove_row.Goals as goal

pub returns : goal.returns
unfolding rows_out
returns c = cc
