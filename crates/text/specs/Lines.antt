-- What a line of text says: an event, a call, a setting. Assumes nothing: these are definitions.
use Rattle.std.specs.Prelude.{ℕ, ◌-◌, List, [], ◌∷◌, length, Ok, Err, codes, Result}
use Rattle.score.specs.Music.{Event, note, silence}
use Rattle.score.specs.Calls.{Call, put, cut, change, show, heard_in, how_long}
use Rattle.score.specs.Meaning.{event_meant, call_meant}
use Rattle.score.specs.declared.Event.{Event as EventType}
use Rattle.score.specs.declared.Call.{Call as CallType}
use Rattle.words.specs.Words.{Read, got, stuck, then, strip, one_of, spaced_number, place_on, most_in_two, most_in_four}
use Rattle.text.specs.declared.Unfit.{Unfit}
use Rattle.text.specs.declared.Beginning.{Beginning}
use Rattle.text.specs.declared.Beginning.TheVariants.{Step, Silence}
use Rattle.text.specs.declared.Verb.{Verb}
use Rattle.text.specs.declared.Verb.TheVariants.{Put, Cut, Change, Show, HeardIn, HowLong}

-- how an event begins: with one of the steps, from c on, or as a silence
unfoldable pub beginning : List ℕ → Read Beginning
beginning xs =
    one_of
    ((codes "c", Step 0) ∷ ((codes "d", Step 1) ∷ ((codes "e", Step 2) ∷ ((codes "f", Step 3) ∷ ((codes "g", Step 4) ∷ ((codes "a", Step 5) ∷ ((codes "b", Step 6) ∷
    ((codes "silence", Silence) ∷ [])))))))) xs xs

-- alterations but for none, by their numbers
unfoldable pub alteration_word : List ℕ → Read ℕ
alteration_word xs = one_of ((codes "double flat ", 0) ∷ ((codes "flat ", 1) ∷ ((codes "sharp ", 3) ∷ ((codes "double sharp ", 4) ∷ [])))) xs xs

-- a space leads to an alteration; else there is none
abbrev pub alteration_in : List ℕ → Read (Unit {0}) → Read ℕ
alteration_in xs (got t ys) = alteration_word ys
alteration_in xs (stuck ys) = got 2 xs

abbrev pub alteration : List ℕ → Read ℕ
alteration xs = alteration_in xs (strip (codes " ") xs)

abbrev pub length_on : List ℕ → Read ℕ
length_on xs = spaced_number most_in_two xs

-- a note behind its step: c4 48, or f sharp 4 96
abbrev pub note_on : ℕ → List ℕ → Read Event
note_on step xs = then (alteration xs) (λ a ys. then (place_on step ys) (λ p zs. then (length_on zs) (λ d rest. got (note p a d) rest)))

abbrev pub silence_on : List ℕ → Read Event
silence_on xs = then (length_on xs) (λ d rest. got (silence d) rest)

abbrev pub event_on : Beginning → List ℕ → Read Event
event_on (Step step) xs = note_on step xs
event_on Silence xs = silence_on xs

abbrev pub event : List ℕ → Read Event
event xs = then (beginning xs) (λ b ys. event_on b ys)

abbrev pub event_read : Read EventType → Read Event
event_read (got e xs) = got (event_meant e) xs
event_read (stuck xs) = stuck xs

-- which call a line is, by its first word
unfoldable pub verb : List ℕ → Read Verb
verb xs =
    one_of
    ((codes "put", Put) ∷ ((codes "cut", Cut) ∷ ((codes "change", Change) ∷ ((codes "show", Show) ∷ ((codes "heard in", HeardIn) ∷ ((codes "how long", HowLong) ∷ [])))))) xs xs

-- a field of a call, and two of them
abbrev pub field : List ℕ → Read ℕ
field xs = spaced_number most_in_four xs

abbrev pub pair_on : List ℕ → Read (ℕ × ℕ)
pair_on xs = then (field xs) (λ a ys. then (field ys) (λ b rest. got (a, b) rest))

-- a voice, an index and an event
abbrev pub edit_on : List ℕ → Read (ℕ × ℕ × Event)
edit_on xs = then (pair_on xs) (λ p ys. then (strip (codes " ") ys) (λ _ zs. then (event zs) (λ e rest. got (p.0, p.1, e) rest)))

abbrev pub edit_read : Read (ℕ × ℕ × EventType) → Read (ℕ × ℕ × Event)
edit_read (got e xs) = got (e.0, e.1, event_meant e.2) xs
edit_read (stuck xs) = stuck xs

-- a voice, a bar and how many bars
abbrev pub bars_on : List ℕ → Read (ℕ × ℕ × ℕ)
bars_on xs = then (pair_on xs) (λ p ys. then (field ys) (λ n rest. got (p.0, p.1, n) rest))

-- a call behind its first word
abbrev pub call_on : Verb → List ℕ → Read Call
call_on Put xs = then (edit_on xs) (λ e rest. got (put e.0 e.1 e.2) rest)
call_on Cut xs = then (pair_on xs) (λ p rest. got (cut p.0 p.1) rest)
call_on Change xs = then (edit_on xs) (λ e rest. got (change e.0 e.1 e.2) rest)
call_on Show xs = then (bars_on xs) (λ b rest. got (show b.0 b.1 b.2) rest)
call_on HeardIn xs = then (pair_on xs) (λ p rest. got (heard_in p.0 p.1) rest)
call_on HowLong xs = then (field xs) (λ v rest. got (how_long v) rest)

abbrev pub call_words : List ℕ → Read Call
call_words xs = then (verb xs) (λ v ys. call_on v ys)

abbrev pub call_read : Read CallType → Read Call
call_read (got c xs) = got (call_meant c) xs
call_read (stuck xs) = stuck xs

-- a line is read whole: what it says, or the first byte that does not fit, or its length where it ends too early
abbrev pub whole : {A : Type 0} → List ℕ → Read A → Result A ℕ
whole line (got a []) = Ok a
whole line (got a (x ∷ xs)) = Err (length line - length (x ∷ xs))
whole line (stuck xs) = Err (length line - length xs)

abbrev pub call_line : List ℕ → Result Call ℕ
call_line xs = whole xs (call_words xs)

abbrev pub event_line : List ℕ → Result Event ℕ
event_line xs = whole xs (event xs)

-- a setting, as `key 7`
abbrev pub named : List ℕ → List ℕ → Read ℕ
named name xs = then (strip name xs) (λ _ ys. field ys)

abbrev pub setting_line : List ℕ → List ℕ → Result ℕ ℕ
setting_line name xs = whole xs (named name xs)

-- the same as the code has it
abbrev pub said : {A B : Type 0} → (A → B) → Result A Unfit → Result B ℕ
said f (Ok a) = Ok (f a)
said f (Err u) = Err u.at
