-- Of each kind of event the words that it is.
use Rattle.std.proofs.Common.{rules}
use Rattle.score.specs.Music.{lasts}
use Rattle.rows.proofs.RowFromEvent.from.Goals as goal

pub returns-in-Note : goal.returns-in-Note
unfolding lasts
returns-in-Note c = search rules

pub returns-in-Silence : goal.returns-in-Silence
unfolding lasts
returns-in-Silence c = search rules
