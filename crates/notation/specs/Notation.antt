-- Which symbol, and which note as it is heard, a text begins with. Assumes nothing: these are definitions.
use Rattle.std.specs.Prelude.{ℕ, Bool, true, false, List, [], ◌∷◌, codes}
use Rattle.score.specs.Music.{Heard}
use Rattle.score.specs.Print.{Symbol, bar, head, rest}
use Rattle.score.specs.Meaning.{symbol_meant, sound_meant}
use Rattle.score.specs.declared.Symbol.{Symbol as SymbolType}
use Rattle.score.specs.declared.Sound.{Sound as SoundType}
use Rattle.words.specs.Words.{Read, got, stuck, then, strip, one_of, number, spaced_number, place_on, most_in_one, most_in_two, most_in_four}
use Rattle.notation.specs.declared.Kind.{Kind}
use Rattle.notation.specs.declared.Kind.TheVariants.{BarLine, Rest, Head}

-- how a symbol begins: as a bar line, or as a rest, or else as a head
unfoldable pub kind : List ℕ → Read Kind
kind xs = one_of ((codes "bar", BarLine) ∷ ((codes "r", Rest) ∷ (([], Head) ∷ []))) xs xs

-- signs by their marks, from double flat on, and last none
unfoldable pub sign_mark : List ℕ → Read ℕ
sign_mark xs = one_of ((codes "--", 1) ∷ ((codes "-", 2) ∷ ((codes "n", 3) ∷ ((codes "#", 4) ∷ ((codes "x", 5) ∷ (([], 0) ∷ [])))))) xs xs

-- steps by their letters, from c on
unfoldable pub step : List ℕ → Read ℕ
step xs =
    one_of ((codes "c", 0) ∷ ((codes "d", 1) ∷ ((codes "e", 2) ∷ ((codes "f", 3) ∷ ((codes "g", 4) ∷ ((codes "a", 5) ∷ ((codes "b", 6) ∷ []))))))) xs xs

-- a tie, or none
abbrev pub tie_in : List ℕ → Read (Unit {0}) → Read Bool
tie_in xs (got t ys) = got true ys
tie_in xs (stuck ys) = got false xs

abbrev pub tie : List ℕ → Read Bool
tie xs = tie_in xs (strip (codes "~") xs)

-- a number of ticks, and a value behind its colon
abbrev pub ticks_on : List ℕ → Read ℕ
ticks_on xs = number most_in_two xs

abbrev pub value : List ℕ → Read ℕ
value xs = then (strip (codes ":") xs) (λ _ ys. ticks_on ys)

-- a head behind its sign, its step known: f4:96, or f4:48~
abbrev pub head_on : ℕ → ℕ → List ℕ → Read Symbol
head_on sign s xs = then (place_on s xs) (λ p ys. then (value ys) (λ v zs. then (tie zs) (λ t us. got (head p sign v t) us)))

abbrev pub head_text : List ℕ → Read Symbol
head_text xs = then (sign_mark xs) (λ sign ys. then (step ys) (λ s zs. head_on sign s zs))

abbrev pub rest_text : List ℕ → Read Symbol
rest_text xs = then (ticks_on xs) (λ v ys. got (rest v) ys)

abbrev pub symbol_on : Kind → List ℕ → Read Symbol
symbol_on BarLine xs = got bar xs
symbol_on Rest xs = rest_text xs
symbol_on Head xs = head_text xs

abbrev pub symbol_text : List ℕ → Read Symbol
symbol_text xs = then (kind xs) (λ k ys. symbol_on k ys)

-- a note as it is heard behind its voice, and with it
abbrev pub heard_on : ℕ → List ℕ → Read (ℕ × Heard)
heard_on v xs =
    then (spaced_number most_in_four xs) (λ s ys. then (spaced_number most_in_two ys) (λ d zs. then (spaced_number most_in_one zs) (λ t us.
    got (v, record { start = s; long = d; high = t }) us)))

abbrev pub sound_text : List ℕ → Read (ℕ × Heard)
sound_text xs = then (number most_in_one xs) (λ v ys. heard_on v ys)

-- the same as the code has it
abbrev pub symbol_read : Read SymbolType → Read Symbol
symbol_read (got x xs) = got (symbol_meant x) xs
symbol_read (stuck xs) = stuck xs

abbrev pub sound_read : Read SoundType → Read (ℕ × Heard)
sound_read (got x xs) = got (sound_meant x) xs
sound_read (stuck xs) = stuck xs
