-- Lines that are answered by a session in lent words. Assumes nothing: these are definitions.
use Rattle.std.specs.Prelude.{ℕ, List, take, Result}
use Rattle.score.specs.Calls.{Call, Answer}
use Rattle.memory.specs.Store.{stored, limits_of, layout_of, score_of}
use Rattle.score.specs.declared.Opening.{Opening}
use Rattle.session.specs.declared.Sizes.{Sizes}
use Rattle.session.specs.Session.{words_taken, sizes_for}
use Rattle.script.specs.Script.{line_answer, after_line, line_answers}

-- the words that a score takes
abbrev pub score_words : List ℕ → List ℕ
score_words w = take (words_taken w) w

-- what is answered to a line, and the words that it leaves
abbrev pub line_answer_in : List ℕ → Result Call ℕ → Answer
line_answer_in w r = line_answer (limits_of (score_words w)) (layout_of (score_words w)) (score_of (score_words w)) r

abbrev pub words_after : List ℕ → Result Call ℕ → List ℕ
words_after w r = stored (limits_of (score_words w)) (layout_of (score_words w)) (after_line (limits_of (score_words w)) (layout_of (score_words w)) (score_of (score_words w)) r)

-- what is answered to lines
abbrev pub line_answers_in : List ℕ → List (List ℕ) → List Answer
line_answers_in w ls = line_answers (limits_of (score_words w)) (layout_of (score_words w)) (score_of (score_words w)) ls

-- how many words and bytes an opening asks for
abbrev pub asked_by : Opening → Sizes
asked_by o = sizes_for o.voices o.events
