-- The table says which value is the largest.
use Rattle.lengths.proofs.Drawing.{table_known}
use Rattle.lengths.proofs.largest.Goals as goal

pub returns : goal.returns
returns c = table_known c.args.n c.min.result c.min.ensures
