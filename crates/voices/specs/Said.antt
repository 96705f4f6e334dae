-- What the results of calls say. Assumes nothing: these are definitions.
use Rattle.std.specs.Prelude.{◌≡◌, ℕ, true, List, length, Some, None, Ok, Err, Option, Result, nat_lt, slice_index_or}
use Rattle.score.specs.declared.Refusal.{Refusal}
use Rattle.score.specs.Music.{pick, Event, silence, fine}
use Rattle.score.specs.Calls.{Call, put, change, Answer, done, number, Score, voice}
use Rattle.score.specs.Meaning.{refusal_meant}
use Rattle.memory.specs.Words.{Spans, answer_at, next_words}
use Rattle.rows.specs.declared.Row.{Row}
use Rattle.rows.specs.Rows.{row_of}
use Rattle.voices.specs.declared.Span.{Span}

-- a call that is done, or a number that was asked for, or a refusal
abbrev pub said_done : Result (Unit {0}) Refusal → Answer
said_done (Ok x) = done
said_done (Err f) = refusal_meant f

abbrev pub said_number : Result ℕ Refusal → Answer
said_number (Ok n) = number n
said_number (Err f) = refusal_meant f

-- the i-th event of voice v, if there is one
abbrev pub event_at : Score → ℕ → ℕ → Option Event
event_at s v i = pick (nat_lt i (length (voice s v))) (Some (slice_index_or (voice s v) i (silence 0))) None

-- a call is turned away, and leaves the words as they were
pub record TurnedAway (w : List ℕ) (c : Call) (f : Refusal) : Type 0 where
  pub said : refusal_meant f ≡ answer_at w c
  pub left : w ≡ next_words w c

-- what a put and a change of a voice need: an event that can be written, and a voice that is there
pub record Writable (w : List ℕ) (v : ℕ) (e : Event) (row : Row) (span : Span) : Type 0 where
  pub can_write : fine e ≡ true
  pub words : row ≡ row_of e
  pub spans : Spans w v span.begin span.count

-- without it both are turned away, whatever the index
pub record NotWritable (w : List ℕ) (v : ℕ) (e : Event) (f : Refusal) : Type 0 where
  pub no_put : (i : ℕ) → TurnedAway w (put v i e) f
  pub no_change : (i : ℕ) → TurnedAway w (change v i e) f
