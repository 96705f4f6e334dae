-- A note in range, or a silence, of a length that can be written.
use Rattle.std.proofs.Common.{rules}
use Rattle.score.specs.Music.{fine}
use Rattle.rows.proofs.Row.is_fine.Goals as goal

pub returns-then-self-ge-ALTERATIONS : goal.returns-then-self-ge-ALTERATIONS
unfolding fine
returns-then-self-ge-ALTERATIONS c = search rules

pub returns : goal.returns
unfolding fine
returns c = search rules
