-- The lines are answered from the opening on, or there is one refusal.
use Rattle.std.proofs.Common.{List, [], ◌∷◌, ◌++◌, string_bytes, ap, ◌∙◌}
use Rattle.score.specs.declared.Refusal.{Refusal}
use Rattle.score.specs.Calls.{Answer}
use Rattle.score.specs.Meaning.{refusal_meant}
use Rattle.spelling.proofs.Rows.{retold}
use Rattle.script.specs.Script.{answer_lines}
use Rattle.script.specs.Lines.{lines_in}
use Rattle.script.proofs.Answered.{opened_so, one_line, picked_ok, picked_err, unserved}
use Rattle.script.proofs.desk.answer_opened.Goals as goal

pub returns-in_ok-open-in-Ok : goal.returns-in_ok-open-in-Ok
returns-in_ok-open-in-Ok c =
    retold c.answer_lines.result (string_bytes c.answer_lines.new.out) (string_bytes c.args.out.now) _ _
    (opened_so c.args.opening c.in_ok-open-in-Ok.field-0.words.items (lines_in c.args.lines) ((picked_ok _ _ _ _ c.in-Ok.ensures).0) c.in_ok-open-in-Ok.ensures) c.answer_lines.ensures

pub returns-in_ok-writeln-in-Err : goal.returns-in_ok-writeln-in-Err
returns-in_ok-writeln-in-Err c =
    let p = picked_err _ _ _ _ c.in-Err.ensures in
    one_line _ _ (refusal_meant c.in-Err.refusal) c.in_ok-writeln-in-Err.ensures.bytes
    ∙ ap (λ (r : Refusal). string_bytes c.args.out.now ++ answer_lines (refusal_meant r ∷ [])) p.1
    ∙ ap (λ (as' : List Answer). string_bytes c.args.out.now ++ answer_lines as') (unserved c.args.opening (lines_in c.args.lines) p.0)
