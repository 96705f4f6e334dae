-- A call is written as bytes, and what a session answers to these bytes is what is answered to the call. Assumes nothing.
use Rattle.std.proofs.Common.{◌≡◌, ℕ, List, [], ◌++◌, length, take, drop, Some, Ok, Result, sym, ap, ◌∙◌}
use Rattle.std.proofs.lemmas.List.{append-nil, take_at}
use Rattle.score.specs.Calls.{Call, Answer}
use Rattle.score.specs.Promise.{Memory}
use Rattle.wire.specs.Bytes.{call_bytes, answer_bytes}
use Rattle.wire.specs.Reading.{answer_of}
use Rattle.wire.specs.ReadingCalls.{read_call}
use Rattle.wire.proofs.Back.{answer_back}
use Rattle.wire.proofs.CallsBack.{call_back}
use Rattle.memory.specs.Words.{answer_by, words_by}
use Rattle.session.specs.Session.{memory_in, said_to, left_in, Answered}
use Rattle.script.specs.Desk.{score_words, line_answer_in, words_after}

module _ (w b row rest w' b' : List ℕ) (c : Call) (n r : ℕ) (wrote : row ≡ call_bytes c ++ rest) (many : n ≡ length (call_bytes c)) (a : Answered w b (take n row) w' b' r) where
  -- the session reads the call
  asked : read_call (take n row) ≡ Ok c
  asked =
      ap (λ (x : List ℕ). read_call (take n x)) wrote ∙ ap read_call (take_at (call_bytes c) rest n (sym many)) ∙ call_back c

  answered : take r b' ≡ answer_bytes (line_answer_in w (Ok c))
  unfolding answer_by
  answered = a.answer ∙ ap (λ (q : Result Call Answer). answer_bytes (said_to (memory_in w b) q)) asked

  pub told : answer_of (take r b') ≡ Some (line_answer_in w (Ok c))
  told = ap answer_of (answered ∙ sym (append-nil _)) ∙ answer_back (line_answer_in w (Ok c)) []

  pub left : score_words w' ≡ words_after w (Ok c)
  unfolding words_by
  left = ap (λ (m : Memory). m.words) a.memory ∙ ap (λ (q : Result Call Answer). (left_in (memory_in w b) q).words) asked

-- what a vector has after all of it was lent
pub back : (xs ys : List ℕ) (n : ℕ) → length xs ≡ n → take n (xs ++ drop (length xs) ys) ≡ xs
back xs ys n e = take_at xs (drop (length xs) ys) n e
