-- Lines of an opening that cannot be read are answered by one refusal.
use Rattle.std.proofs.Common.{ℕ, List, ◌++◌, Result, string_bytes, ap, ◌∙◌}
use Rattle.score.specs.Calls.{refused}
use Rattle.score.specs.declared.Opening.{Opening}
use Rattle.script.specs.Script.{answers_by, answer_lines, opening_in}
use Rattle.script.proofs.Answered.{one_line}
use Rattle.script.proofs.desk.answer_all.Goals as goal

pub returns-in_ok-writeln-in-Err : goal.returns-in_ok-writeln-in-Err
returns-in_ok-writeln-in-Err c =
    one_line _ _ (refused 1 c.in-Err.unfit.at) c.in_ok-writeln-in-Err.ensures.bytes
    ∙ ap (λ (r : Result (Opening × List (List ℕ)) ℕ). string_bytes c.args.out.now ++ answer_lines (answers_by r)) (c.in-Err.ensures.said ∙ ap opening_in c.of-lines.ensures)
