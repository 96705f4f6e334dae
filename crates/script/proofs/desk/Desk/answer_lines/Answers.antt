-- Line by line.
use Rattle.script.proofs.Answered.{line_more, lines_over}
use Rattle.script.proofs.desk.Desk.answer_lines.Goals as goal

pub loop-line-preserved : goal.loop-line-preserved
loop-line-preserved c =
    line_more c.loop-line.self.words.items c.loop-line.self.bytes.items c.answer_line.new.self.words.items _ _ _ _ _ _ _ c.loop-line.self.ready c.in-Some.ensures.steps
    c.in_ok-answer_line.ensures.said c.in_ok-push_str.ensures.bytes c.in_ok-answer_line.ensures.left c.loop-line.invariant

pub returns : goal.returns
returns c = lines_over c.loop-line.self.words.items _ _ _ c.in-None.ensures.steps.0 c.loop-line.invariant
