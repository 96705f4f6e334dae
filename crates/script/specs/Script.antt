-- What answers a script: a text of lines, of which the first four open a score and each that follows is a call. Assumes nothing: these are definitions.
use Rattle.std.specs.Prelude.{ℕ, Bool, ◌&&◌, List, [], ◌∷◌, ◌++◌, drop, Ok, Err, codes, Result, nat_le, slice_index_or}
use Rattle.score.specs.Music.{pick}
use Rattle.score.specs.Calls.{Call, Answer, refused, Limits, Layout, Score, empty_voices, after, answer}
use Rattle.wire.specs.Bytes.{each}
use Rattle.score.specs.declared.Opening.{Opening}
use Rattle.session.specs.Session.{opens, limits_for, layout_for}
use Rattle.text.specs.declared.Unfit.{Unfit}
use Rattle.text.specs.Lines.{call_line, setting_line}
use Rattle.score.specs.Spelling.{spelled_answer}
use Rattle.script.specs.declared.lines.Lines.{Lines}
use Rattle.script.specs.Lines.{line_end, lines, lines_in}

-- first one, and with what it gives the other; or the first byte of a line that does not fit
abbrev pub then : {A B : Type 0} → Result A ℕ → (A → Result B ℕ) → Result B ℕ
then (Ok a) f = f a
then (Err n) f = Err n

-- the setting of this name in the first of some lines, and the lines behind it; a line that is missing counts as an empty one
abbrev pub setting_in : List ℕ → List (List ℕ) → Result (ℕ × List (List ℕ)) ℕ
setting_in name ls = then (setting_line name (slice_index_or ls 0 [])) (λ n. Ok (n, drop 1 ls))

-- the opening that the first four lines say, and the lines behind them
abbrev pub opening_in : List (List ℕ) → Result (Opening × List (List ℕ)) ℕ
opening_in ls =
    then (setting_in (codes "key") ls) (λ k. then (setting_in (codes "bar") k.1) (λ b.
    then (setting_in (codes "voices") b.1) (λ v. then (setting_in (codes "events") v.1) (λ e.
    Ok (record { key = k.0; bar = b.0; voices = v.0; events = e.0 }, e.1)))))

-- lines that are left: behind what one gave, or these where it gave nothing
abbrev pub then_left : {A : Type 0} → Result A ℕ → List (List ℕ) → (A → List (List ℕ)) → List (List ℕ)
then_left (Ok a) ls f = f a
then_left (Err n) ls f = ls

-- the lines that an opening leaves, read or not: those behind the fourth, or behind the first that cannot be read
abbrev pub left_by_opening : List (List ℕ) → List (List ℕ)
left_by_opening ls =
    then_left (setting_in (codes "key") ls) (drop 1 ls) (λ k. then_left (setting_in (codes "bar") k.1) (drop 1 k.1) (λ b.
    then_left (setting_in (codes "voices") b.1) (drop 1 b.1) (λ v. drop 1 v.1)))

-- the same as the code has it, which keeps the lines that are left
abbrev pub with_rest : {A : Type 0} → Result A Unfit → Lines → Result (A × List (List ℕ)) ℕ
with_rest (Ok a) s = Ok (a, lines_in s)
with_rest (Err u) s = Err u.at

-- what is answered to a line, by the call that it says or the first byte that does not fit, and the score that it leaves
abbrev pub line_answer : Limits → Layout → Score → Result Call ℕ → Answer
line_answer l y s (Ok c) = answer l y s c
line_answer l y s (Err n) = refused 1 n

abbrev pub after_line : Limits → Layout → Score → Result Call ℕ → Score
after_line l y s (Ok c) = after l y s c
after_line l y s (Err n) = s

-- the answers to lines one after the other, each to the score that those before it left
unfoldable pub line_answers : Limits → Layout → Score → List (List ℕ) → List Answer
line_answers l y s [] = []
line_answers l y s (x ∷ xs) = line_answer l y s (call_line x) ∷ line_answers l y (after_line l y s (call_line x)) xs

-- openings that are served: in range, and of not more than eight voices and 1,024 events
abbrev pub most_voices : ℕ
most_voices = 8

abbrev pub most_events : ℕ
most_events = 1024

abbrev pub serves : Opening → Bool
serves o = (nat_le o.voices most_voices && nat_le o.events most_events) && opens o

abbrev pub opened_answers : Opening → List (List ℕ) → List Answer
opened_answers o ls = pick (serves o) (line_answers (limits_for o) (layout_for o) (empty_voices o.voices) ls) (refused 3 1 ∷ [])

-- the answers to a script: lines of an opening that cannot be read end it, and so does an opening that is not served
abbrev pub answers_by : Result (Opening × List (List ℕ)) ℕ → List Answer
answers_by (Ok v) = opened_answers v.0 v.1
answers_by (Err n) = refused 1 n ∷ []

-- each answer is a line
abbrev pub answer_line : Answer → List ℕ
answer_line a = spelled_answer a ++ (line_end ∷ [])

abbrev pub answer_lines : List Answer → List ℕ
answer_lines xs = each answer_line xs

-- the whole text that answers a script
abbrev pub script_answers : List ℕ → List ℕ
script_answers text = answer_lines (answers_by (opening_in (lines text)))
