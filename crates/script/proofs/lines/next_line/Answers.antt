-- Line by line, until one says something.
use Rattle.std.proofs.Common.{sym, ◌∙◌, arith}
use Rattle.std.proofs.lemmas.Bool.{eqb-true}
use Rattle.script.proofs.Cuts.{line_said, line_passed, lines_none}
use Rattle.script.proofs.lines.next_line.Goals as goal

pub returns-then-says_something : goal.returns-then-says_something
returns-then-says_something c = (
  c.loop-rest.invariant.0 ∙ line_said _ _ _ c.cut_line.ensures.cut (sym c.if-says_something.ensures),
  omega arith,
)

pub loop-rest-preserved : goal.loop-rest-preserved
loop-rest-preserved c = (
  c.loop-rest.invariant.0 ∙ line_passed _ _ _ c.cut_line.ensures.cut (sym c.if-says_something.ensures),
  omega arith,
)

pub returns : goal.returns
returns c = c.loop-rest.invariant.0 ∙ lines_none _ (eqb-true _ 0 (sym c.loop-rest-test.ensures))
