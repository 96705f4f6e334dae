-- What stands there, and the answers to the lines that are left, are the whole.
use Rattle.std.proofs.Common.{◌≡◌, ◌++◌, string_bytes}
use Rattle.script.specs.Lines.{lines_in}
use Rattle.script.specs.Script.{answer_lines}
use Rattle.script.specs.Desk.{line_answers_in}
use Rattle.script.proofs.desk.Desk.answer_lines.Given as goal

abbrev pub invariant-loop-line : goal.invariant-loop-line
invariant-loop-line l =
    string_bytes l.out ++ answer_lines (line_answers_in l.self.words.items (lines_in l.line-iterator))
    ≡ string_bytes l.fn.out ++ answer_lines (line_answers_in l.fn.self.words.items (lines_in l.fn.lines))
