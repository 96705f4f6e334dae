-- Calls, symbols and answers as rows of bytes, the low byte of a number first. Assumes nothing: these are definitions.
-- No field is cut: what is too large for its field would make a byte that is none, of 256 or more.
use Rattle.std.specs.Prelude.{ℕ, ◌/◌, ◌%◌, List, [], ◌∷◌, ◌++◌, length, drop}
use Rattle.score.specs.Music.{pick, Event, note, silence, Heard}
use Rattle.score.specs.Print.{Symbol, bar, head, rest}
use Rattle.score.specs.Calls.{Call, put, cut, change, show, heard_in, how_long, Answer, done, refused, symbols, sounds, number}
use Rattle.score.specs.declared.Answer.{Answer as Said}
use Rattle.score.specs.declared.Answer.TheVariants.{Done, Refused, Symbols, Sounds, Number}

abbrev pub two : ℕ → List ℕ
two n = n % 256 ∷ (n / 256 ∷ [])

abbrev pub four : ℕ → List ℕ
four n = n % 256 ∷ (n / 256 % 256 ∷ (n / 65536 % 256 ∷ (n / 16777216 ∷ [])))

-- an event: its kind, 0 for a note and 1 for a silence, place, alteration, length in two bytes
abbrev pub event_bytes : Event → List ℕ
event_bytes (note p a d) = 0 ∷ (p ∷ (a ∷ two d))
event_bytes (silence d) = 1 ∷ (0 ∷ (0 ∷ two d))

-- a call: its number, and its fields in four bytes each
abbrev pub call_bytes : Call → List ℕ
call_bytes (put v i e) = 0 ∷ (four v ++ (four i ++ event_bytes e))
call_bytes (cut v i) = 1 ∷ (four v ++ four i)
call_bytes (change v i e) = 2 ∷ (four v ++ (four i ++ event_bytes e))
call_bytes (show v b n) = 3 ∷ (four v ++ (four b ++ four n))
call_bytes (heard_in a b) = 4 ∷ (four a ++ four b)
call_bytes (how_long v) = 5 ∷ four v

-- a symbol: its kind, 0 for a bar line, 1 for a head, 2 for a head tied to the next, 3 for a rest, place, sign, value in two bytes
abbrev pub symbol_bytes : Symbol → List ℕ
symbol_bytes bar = 0 ∷ (0 ∷ (0 ∷ two 0))
symbol_bytes (head p s v tied) = pick tied 2 1 ∷ (p ∷ (s ∷ two v))
symbol_bytes (rest v) = 3 ∷ (0 ∷ (0 ∷ two v))

-- a note as it is heard: voice, tone, beginning in four bytes, length in two
abbrev pub sound_bytes : ℕ × Heard → List ℕ
sound_bytes x = x.0 ∷ (x.1.high ∷ (four x.1.start ++ two x.1.long))

-- each of a row, one after the other
unfoldable pub each : {A : Type 0} → (A → List ℕ) → List A → List ℕ
each f [] = []
each f (x ∷ xs) = f x ++ each f xs

abbrev pub symbols_bytes : List Symbol → List ℕ
symbols_bytes xs = each symbol_bytes xs

abbrev pub sounds_bytes : List (ℕ × Heard) → List ℕ
sounds_bytes xs = each sound_bytes xs

-- what stands before a row of symbols, and before one of sounds: the answer's kind, and how many there are
abbrev pub symbols_head : ℕ → List ℕ
symbols_head n = 2 ∷ four n

abbrev pub sounds_head : ℕ → List ℕ
sounds_head n = 3 ∷ four n

-- what is said first in an answer
abbrev pub said_bytes : Said → List ℕ
said_bytes Done = 0 ∷ []
said_bytes (Refused n p) = 1 ∷ (n ∷ four p)
said_bytes (Symbols n) = symbols_head n
said_bytes (Sounds n) = sounds_head n
said_bytes (Number n) = 4 ∷ four n

-- an answer: its kind, and a refusal's number and place, a count and so many symbols or sounds, or a number
abbrev pub answer_bytes : Answer → List ℕ
answer_bytes done = 0 ∷ []
answer_bytes (refused n p) = 1 ∷ (n ∷ four p)
answer_bytes (symbols xs) = symbols_head (length xs) ++ symbols_bytes xs
answer_bytes (sounds xs) = sounds_head (length xs) ++ sounds_bytes xs
answer_bytes (number n) = 4 ∷ four n

-- written over the front of lent bytes: what is behind stays
unfoldable pub written : List ℕ → List ℕ → List ℕ
written xs bs = xs ++ drop (length xs) bs
