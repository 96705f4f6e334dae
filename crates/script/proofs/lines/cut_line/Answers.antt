-- The first line end cuts, or there is none.
use Rattle.script.proofs.Cuts.{cut_at, cut_last}
use Rattle.script.proofs.lines.cut_line.Goals as goal

pub returns-in-Some-clause-cut : goal.returns-in-Some-clause-cut
returns-in-Some-clause-cut c = cut_at _ _ c.in-Some.ensures

pub returns-in-None-clause-cut : goal.returns-in-None-clause-cut
returns-in-None-clause-cut c = cut_last _ c.requires c.in-None.ensures
