-- That text loses nothing: what is spelled is read back as it was. Each statement is proved where a function names it. Assumes nothing.
use Rattle.std.specs.Prelude.{◌≡◌, ℕ, ◌^◌, ◌<◌, ◌≤◌, Bool, true, false, not, ◌&&◌, ◌||◌, List, [], ◌∷◌, ◌++◌, Ok, decimal, ◌==◌, nat_le, nat_lt}
use Rattle.score.specs.Music.{Event, Heard, fine, places, length_end}
use Rattle.score.specs.Print.{Symbol, bar, head, rest}
use Rattle.score.specs.Promise.{field}
use Rattle.words.specs.Words.{got, is_digit, begins_with_digit, number}
use Rattle.text.specs.Lines.{event_line}
use Rattle.score.specs.Spelling.{spelled_event, spelled_symbol, spelled_sound}
use Rattle.notation.specs.Notation.{symbol_text, sound_text}

-- A number is read back from its digits, if nothing that follows is a digit.
abbrev pub NumbersBack : Type 0
NumbersBack = (most n : ℕ) (more : List ℕ) → n ≤ most → n < 2 ^ 64 → begins_with_digit more ≡ false → number most (decimal n ++ more) ≡ got n more

-- Every event that can be written is read back from its line.
abbrev pub EventsBack : Type 0
EventsBack = (e : Event) → fine e ≡ true → event_line (spelled_event e) ≡ Ok e

-- symbols whose place, sign and value are ones that can be printed
abbrev pub printable : Symbol → Bool
printable bar = true
printable (head p s v tied) = nat_lt p places && (nat_le s 5 && nat_lt v length_end)
printable (rest v) = nat_lt v length_end

-- what follows is neither a digit nor a tie, so that a symbol has ended
abbrev pub ended : List ℕ → Bool
ended [] = true
ended (x ∷ xs) = not (is_digit x || x == 126)

-- Every symbol is read back from its text, whatever stands behind its end.
abbrev pub SymbolsBack : Type 0
SymbolsBack = (x : Symbol) (more : List ℕ) → printable x ≡ true → ended more ≡ true → symbol_text (spelled_symbol x ++ more) ≡ got x more

-- And every note as it is heard.
abbrev pub hearable : ℕ × Heard → Bool
hearable x = nat_lt x.0 256 && (field x.1.start && (nat_lt x.1.long length_end && nat_lt x.1.high 256))

abbrev pub SoundsBack : Type 0
SoundsBack = (x : ℕ × Heard) (more : List ℕ) → hearable x ≡ true → begins_with_digit more ≡ false → sound_text (spelled_sound x ++ more) ≡ got x more
