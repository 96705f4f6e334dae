-- Lent memory as a session keeps it: what opening leaves there, and what a call leaves there and is answered. Assumes nothing: these are definitions.
use Rattle.std.specs.Prelude.{◌≡◌, ℕ, ◌%◌, ◌≤◌, Bool, true, ◌&&◌, List, ◌++◌, length, take, drop, Ok, Err, Result, ◌==◌, nat_le, nat_lt}
use Rattle.score.specs.declared.Answer.{Answer as AnswerType}
use Rattle.score.specs.declared.Opening.{Opening}
use Rattle.score.specs.declared.Refusal.{Refusal}
use Rattle.score.specs.declared.Refusal.TheVariants.{BadOpening}
use Rattle.score.specs.Meaning.{refusal_meant}
use Rattle.score.specs.Music.{pick}
use Rattle.score.specs.Calls.{Call, Answer, done, refused, Limits, Layout}
use Rattle.score.specs.Promise.{Memory, Engraver, whole}
use Rattle.wire.specs.Bytes.{said_bytes, answer_bytes, written}
use Rattle.wire.specs.ReadingCalls.{read_call}
use Rattle.memory.specs.Store.{words_asked, bytes_asked, voices_in, limit_in}
use Rattle.memory.specs.Words.{Holds, answer_at, engraver_by}
use Rattle.session.specs.declared.Sizes.{Sizes}

-- the engraver that the session is: every call, and notes with every sign
abbrev pub engraver : Engraver
engraver = engraver_by whole true

-- what an opening asks for
abbrev pub limits_for : Opening → Limits
limits_for o = record { calls_can = whole; signs = true; voices = o.voices; events = o.events }

abbrev pub layout_for : Opening → Layout
layout_for o = record { in_key = o.key; bar_long = o.bar }

-- key, bar, voices and events that a score may be opened with
abbrev pub opens : Opening → Bool
opens o =
    nat_le o.key 14 && (nat_lt 0 o.bar && (nat_le o.bar 768 && (o.bar % 3 == 0
    && (nat_lt 0 o.voices && (nat_le o.voices 64 && nat_le o.events 65536)))))

-- what a score of so many voices and at most so many events takes, and what an opening asks for
abbrev pub sizes_for : ℕ → ℕ → Sizes
sizes_for voices events = record { words = words_asked voices events; bytes = bytes_asked events }

abbrev pub sizes_of : Opening → Result Sizes Refusal
sizes_of o = pick (opens o) (Ok (sizes_for o.voices o.events)) (Err BadOpening)

-- what is answered to an opening, in so many words and bytes
abbrev pub open_answer : Opening → ℕ → ℕ → Answer
open_answer o words bytes =
    pick (opens o) (pick (nat_le (words_asked o.voices o.events) words && nat_le (bytes_asked o.events) bytes) done (refused 3 0)) (refused 3 1)

-- how many of the lent words and bytes a score takes, by its header; what is past them is never touched
abbrev pub words_taken : List ℕ → ℕ
words_taken w = words_asked (voices_in w) (limit_in w)

abbrev pub bytes_taken : List ℕ → ℕ
bytes_taken w = bytes_asked (limit_in w)

abbrev pub memory_in : List ℕ → List ℕ → Memory
memory_in w b = record { words = take (words_taken w) w; bytes = take (bytes_taken w) b }

-- memory as opening and each call leave it
pub record Ready (w b : List ℕ) : Type 0 where
  pub holds : Holds (take (words_taken w) w)
  pub words_room : words_taken w ≤ length w
  pub bytes_room : bytes_taken w ≤ length b

-- what is answered to bytes, and what they leave in memory: bytes that are no call are refused and leave the words as they were
abbrev pub said_to : Memory → Result Call Answer → Answer
said_to m (Ok c) = engraver.says m c
said_to m (Err a) = a

abbrev pub left_in : Memory → Result Call Answer → Memory
left_in m (Ok c) = engraver.next m c
left_in m (Err a) = record { words = m.words; bytes = written (answer_bytes a) m.bytes }

-- what is told to a call that neither symbols nor sounds answer, or why it is turned away, as bytes
abbrev pub told_bytes : Result AnswerType Refusal → List ℕ
told_bytes (Ok a) = said_bytes a
told_bytes (Err f) = answer_bytes (refusal_meant f)

-- of words that hold a score, what a call is answered over the front of the bytes
pub record Says (w b b' : List ℕ) (c : Call) (r : ℕ) : Type 0 where
  pub wrote : b' ≡ answer_bytes (answer_at w c) ++ drop r b
  pub many : r ≡ length (answer_bytes (answer_at w c))

-- the words and bytes past what a score takes are as they were
pub record Untouched (w b w' b' : List ℕ) : Type 0 where
  pub words : drop (words_taken w') w' ≡ drop (words_taken w') w
  pub bytes : drop (bytes_taken w') b' ≡ drop (bytes_taken w') b

-- a score was opened
pub record Opened (o : Opening) (w b w' b' : List ℕ) : Type 0 where
  pub memory : memory_in w' b' ≡ engraver.opened (limits_for o) (layout_for o)
  pub past : Untouched w b w' b'
  pub ready : Ready w' b'

-- or nothing has changed
pub record Unchanged (w b w' b' : List ℕ) : Type 0 where
  pub words : w' ≡ w
  pub bytes : b' ≡ b

-- bytes were answered
pub record Answered (w b input w' b' : List ℕ) (r : ℕ) : Type 0 where
  pub memory : memory_in w' b' ≡ left_in (memory_in w b) (read_call input)
  pub long : r ≡ length (answer_bytes (said_to (memory_in w b) (read_call input)))
  pub answer : take r b' ≡ answer_bytes (said_to (memory_in w b) (read_call input))
  pub past : Untouched w b w' b'
  pub ready : Ready w' b'
