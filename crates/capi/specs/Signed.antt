-- One signed number for all that can come of an opening or a call, and memory by whose header a score lies there. Assumes nothing: these are definitions.
use Rattle.std.specs.Prelude.{◌≡◌, ℕ, ◌+◌, ◌*◌, Bool, ◌&&◌, List, length, ℤ, pos, neg_ℤ, Some, None, Option, nat_le, slice_index}
use Rattle.score.specs.Music.{pick}
use Rattle.score.specs.Calls.{Answer, done, refused, symbols, sounds, number}
use Rattle.wire.specs.Bytes.{answer_bytes}
use Rattle.wire.specs.ReadingCalls.{read_call}
use Rattle.score.specs.declared.Answer.{Answer as Said}
use Rattle.score.specs.declared.Answer.TheVariants.{Done, Refused, Symbols, Sounds, Number}
use Rattle.memory.specs.Store.{words_asked, bytes_asked, voices_in, limit_in}
use Rattle.session.specs.Session.{opens, words_taken, bytes_taken, memory_in, said_to, Answered}
use Rattle.score.specs.declared.Opening.{Opening}
use Rattle.session.specs.declared.Sizes.{Sizes}

-- a refusal, below 0
abbrev pub turned_away : ℕ → ℕ → ℤ
turned_away n place = neg_ℤ (pos (n * 4294967296 + place))

-- a refusal, or else so long
abbrev pub signed : ℕ → Answer → ℤ
signed n (refused f place) = turned_away f place
signed n done = pos n
signed n (symbols xs) = pos n
signed n (sounds xs) = pos n
signed n (number m) = pos n

-- the same by what is said first in an answer
abbrev pub signed_by : ℕ → Option Said → ℤ
signed_by n (Some (Refused f place)) = turned_away f place
signed_by n (Some Done) = pos n
signed_by n (Some (Symbols m)) = pos n
signed_by n (Some (Sounds m)) = pos n
signed_by n (Some (Number m)) = pos n
signed_by n None = pos n

-- one thing holds where an answer is done, and another where it is not
abbrev pub if_done : Answer → Type 0 → Type 0 → Type 0
if_done done P Q = P
if_done (refused f place) P Q = Q
if_done (symbols xs) P Q = Q
if_done (sounds xs) P Q = Q
if_done (number m) P Q = Q

abbrev pub opening_of : ℕ → ℕ → ℕ → ℕ → Opening
opening_of k b v e = record { key = k; bar = b; voices = v; events = e }

-- how many words and bytes an opening asks for
abbrev pub words_number : Opening → ℤ
words_number o = pick (opens o) (pos (words_asked o.voices o.events)) (turned_away 3 1)

abbrev pub bytes_number : Opening → ℤ
bytes_number o = pick (opens o) (pos (bytes_asked o.events)) (turned_away 3 1)

-- what a header says that a score was opened with
abbrev pub header_of : List ℕ → Opening
header_of w = opening_of (slice_index w 0) (slice_index w 1) (voices_in w) (limit_in w)

-- words have a header that a score may have, and are as many as such a score takes
abbrev pub words_fit : List ℕ → Bool
words_fit w = nat_le 4 (length w) && (opens (header_of w) && nat_le (words_taken w) (length w))

-- and how much it takes
abbrev pub taken_by : List ℕ → Option Sizes
taken_by w = pick (words_fit w) (Some (record { words = words_taken w; bytes = bytes_taken w })) None

-- memory has a header that a score may have, and room for such a score
abbrev pub header_fits : List ℕ → List ℕ → Bool
header_fits w b = nat_le 4 (length w) && (opens (header_of w) && (nat_le (words_taken w) (length w) && nat_le (bytes_taken w) (length b)))

-- the length of what bytes are answered
abbrev pub answer_long : List ℕ → List ℕ → List ℕ → ℕ
answer_long w b input = length (answer_bytes (said_to (memory_in w b) (read_call input)))

-- bytes were answered, and the number says how
pub record Replied (w b input w' b' : List ℕ) (r : ℤ) : Type 0 where
  pub answered : Answered w b input w' b' (answer_long w b input)
  pub says : r ≡ signed (answer_long w b input) (said_to (memory_in w b) (read_call input))
