-- What the declared types mean: each in the definitions' own data, and of a refusal its number and its place. Assumes nothing.
use Rattle.std.specs.Prelude.{ℕ, ◌%◌, Bool, ◌&&◌, List, ◌==◌, nat_le, nat_lt}
use Rattle.score.specs.Music as music
use Rattle.score.specs.Print as print
use Rattle.score.specs.Calls as calls
use Rattle.score.specs.declared.Event.{Event}
use Rattle.score.specs.declared.Event.TheVariants.{Note, Silence}
use Rattle.score.specs.declared.Symbol.{Symbol}
use Rattle.score.specs.declared.Symbol.TheVariants.{BarLine, Head, Rest}
use Rattle.score.specs.declared.Sound.{Sound}
use Rattle.score.specs.declared.Call.{Call}
use Rattle.score.specs.declared.Call.TheVariants.{Put, Cut, Change, Show, HeardIn, HowLong}
use Rattle.score.specs.declared.Layout.{Layout}
use Rattle.score.specs.declared.Refusal.{Refusal}
use Rattle.score.specs.declared.Refusal.TheVariants.{Unreadable, OutOfRange, BadOpening, TooLittleMemory, NoVoice, NoEvent, Full}
use Rattle.score.specs.declared.Answer.{Answer}
use Rattle.score.specs.declared.Answer.TheVariants.{Done, Refused, Symbols, Sounds, Number}

abbrev pub event_meant : Event → music.Event
event_meant (Note p a d) = music.note p a d
event_meant (Silence d) = music.silence d

abbrev pub symbol_meant : Symbol → print.Symbol
symbol_meant BarLine = print.bar
symbol_meant (Head p s v t) = print.head p s v t
symbol_meant (Rest v) = print.rest v

-- a sound is a note as it is heard, with its voice
abbrev pub sound_meant : Sound → ℕ × music.Heard
sound_meant s = (s.voice, record { start = s.start; long = s.length; high = s.tone })

abbrev pub call_meant : Call → calls.Call
call_meant (Put v i e) = calls.put v i (event_meant e)
call_meant (Cut v i) = calls.cut v i
call_meant (Change v i e) = calls.change v i (event_meant e)
call_meant (Show v b n) = calls.show v b n
call_meant (HeardIn a b) = calls.heard_in a b
call_meant (HowLong v) = calls.how_long v

abbrev pub refusal_number : Refusal → ℕ
refusal_number (Unreadable at) = 1
refusal_number OutOfRange = 2
refusal_number BadOpening = 3
refusal_number TooLittleMemory = 3
refusal_number (NoVoice v) = 4
refusal_number (NoEvent i) = 5
refusal_number Full = 6

abbrev pub refusal_place : Refusal → ℕ
refusal_place (Unreadable at) = at
refusal_place OutOfRange = 0
refusal_place BadOpening = 1
refusal_place TooLittleMemory = 0
refusal_place (NoVoice v) = v
refusal_place (NoEvent i) = i
refusal_place Full = 0

abbrev pub refusal_meant : Refusal → calls.Answer
refusal_meant r = calls.refused (refusal_number r) (refusal_place r)

-- an answer, with the symbols or the sounds that follow
abbrev pub answer_meant : Answer → List print.Symbol → List (ℕ × music.Heard) → calls.Answer
answer_meant Done xs hs = calls.done
answer_meant (Refused n p) xs hs = calls.refused n p
answer_meant (Symbols n) xs hs = calls.symbols xs
answer_meant (Sounds n) xs hs = calls.sounds hs
answer_meant (Number n) xs hs = calls.number n

-- a layout that a score may be opened with
abbrev pub good_layout : Layout → Bool
good_layout y = nat_le y.key 14 && (nat_lt 0 y.bar && (nat_le y.bar 768 && y.bar % 3 == 0))
