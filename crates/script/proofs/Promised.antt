-- The answers to lines that are all calls are the answers to these calls. Assumes nothing.
use Rattle.std.proofs.Common.{◌≡◌, ℕ, List, [], ◌∷◌, map, Ok, Result, refl, ap, ◌∙◌}
use Rattle.score.specs.Calls.{Call, Answer, Limits, Layout, Score, empty_voices, answers, answer, after}
use Rattle.score.proofs.Picks.{pick_true}
use Rattle.score.specs.declared.Opening.{Opening}
use Rattle.session.specs.Session.{limits_for, layout_for}
use Rattle.text.specs.Lines.{call_line}
use Rattle.script.specs.Script.{answers_by, answer_lines, line_answer, after_line, line_answers}
use Rattle.script.specs.Promised.{CallsAnswered}

all_calls : (l : Limits) (y : Layout) (s : Score) (ls : List (List ℕ)) (cs : List Call) → map call_line ls ≡ map Ok cs → line_answers l y s ls ≡ answers l y s cs
unfolding line_answers answers
all_calls l y s [] [] e = refl
all_calls l y s [] (c ∷ cs) e = cc
all_calls l y s (x ∷ xs) [] e = cc
all_calls l y s (x ∷ xs) (c ∷ cs) e =
    let h : call_line x ≡ Ok c = cc in
    let t : map call_line xs ≡ map Ok cs = cc in
    ap (λ (r : Result Call ℕ). line_answer l y s r ∷ line_answers l y (after_line l y s r) xs) h
    ∙ ap (λ (as' : List Answer). answer l y s c ∷ as') (all_calls l y (after l y s c) xs cs t)

pub calls_answered : CallsAnswered
calls_answered text o ls cs e s t =
    ap (λ (r : Result (Opening × List (List ℕ)) ℕ). answer_lines (answers_by r)) e
    ∙ ap answer_lines (pick_true _ _ _ s ∙ all_calls (limits_for o) (layout_for o) (empty_voices o.voices) ls cs t)
