-- Where no line says something, none is left of the text that takes its place either.
use Rattle.std.proofs.Common.{refl, rules}
use Rattle.script.proofs.Cuts.{lines_none}
use Rattle.script.proofs.lines.LinesIterator.next.Goals as goal

pub returns-in_default-clause-steps : goal.returns-in_default-clause-steps
returns-in_default-clause-steps c = (search rules, lines_none _ refl)
