-- What a script's answers have to do with the answers that are promised to calls: the statement is proved where a function names it. Assumes nothing.
use Rattle.std.specs.Prelude.{◌≡◌, ℕ, true, List, map, Ok}
use Rattle.score.specs.Calls.{Call, empty_voices, answers}
use Rattle.score.specs.declared.Opening.{Opening}
use Rattle.session.specs.Session.{limits_for, layout_for}
use Rattle.text.specs.Lines.{call_line}
use Rattle.script.specs.Lines.{lines}
use Rattle.script.specs.Script.{opening_in, serves, answer_lines, script_answers}

-- If the first four lines open a score that is served, and each line behind them is a call, then what is printed are the answers to these calls, each
-- to the score that the calls before it left.
abbrev pub CallsAnswered : Type 0
CallsAnswered =
    (text : List ℕ) (o : Opening) (ls : List (List ℕ)) (cs : List Call) → opening_in (lines text) ≡ Ok (o, ls) → serves o ≡ true → map call_line ls ≡ map Ok cs →
    script_answers text ≡ answer_lines (answers (limits_for o) (layout_for o) (empty_voices o.voices) cs)
