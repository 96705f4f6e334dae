-- How words and numbers are read from the front of a line. Assumes nothing: these are definitions.
use Rattle.std.specs.Prelude.{ℕ, ◌+◌, ◌-◌, ◌*◌, ◌/◌, Bool, false, ◌&&◌, List, [], ◌∷◌, length, Ok, Err, codes, Result, ◌==◌, nat_le, nat_lt}
use Rattle.std.specs.Borrow.{Bor}
use Rattle.score.specs.Music.{pick}

-- the largest numbers that fields of one, two and four bytes carry
abbrev pub most_in_one : ℕ
most_in_one = 255

abbrev pub most_in_two : ℕ
most_in_two = 65535

abbrev pub most_in_four : ℕ
most_in_four = 4294967295

-- what came of reading: a value and the bytes behind it, or the bytes from the first on that does not fit
pub data Read (A : Type 0) : Type 0 where
  got : A → List ℕ → Read A
  stuck : List ℕ → Read A

-- the same as the code has it
abbrev pub outcome : {A : Type 0} → Result (A × Bor (List ℕ)) (Bor (List ℕ)) → Read A
outcome (Ok v) = got v.0 v.1.now
outcome (Err e) = stuck e.now

-- the same of a word, which has no value
abbrev pub word_outcome : Result (Bor (List ℕ)) (Bor (List ℕ)) → Read (Unit {0})
word_outcome (Ok v) = got tt v.now
word_outcome (Err e) = stuck e.now

-- one after the other
abbrev pub then : {A B : Type 0} → Read A → (A → List ℕ → Read B) → Read B
then (got a xs) f = f a xs
then (stuck xs) f = stuck xs

abbrev pub is_digit : ℕ → Bool
is_digit x = nat_le 48 x && nat_le x 57

unfoldable pub begins_with_digit : List ℕ → Bool
begins_with_digit [] = false
begins_with_digit (x ∷ xs) = is_digit x

-- a number whose digits so far came to n: a digit that would make it more than `most` does not fit
unfoldable pub number_on : ℕ → ℕ → List ℕ → Read ℕ
number_on most n [] = got n []
number_on most n (x ∷ xs) =
    pick (is_digit x)
    (pick (nat_le (10 * n + (x - 48)) most) (number_on most (10 * n + (x - 48)) xs) (stuck (x ∷ xs)))
    (got n (x ∷ xs))

-- a number has at least one digit
unfoldable pub number : ℕ → List ℕ → Read ℕ
number most xs = pick (begins_with_digit xs) (number_on most 0 xs) (stuck xs)

-- just this word
unfoldable pub strip : List ℕ → List ℕ → Read (Unit {0})
strip [] xs = got tt xs
strip (w ∷ ws) [] = stuck []
strip (w ∷ ws) (x ∷ xs) = pick (w == x) (strip ws xs) (stuck (x ∷ xs))

abbrev pub shorter : List ℕ → List ℕ → List ℕ
shorter xs ys = pick (nat_lt (length xs) (length ys)) xs ys

abbrev pub or_else : {A : Type 0} → Read (Unit {0}) → A → (List ℕ → Read A) → Read A
or_else (got t ys) a f = got a ys
or_else (stuck ys) a f = f ys

-- the value beside the first of some words that fits; if none does, from the furthest place on that one of them came to
unfoldable pub one_of : {A : Type 0} → List (List ℕ × A) → List ℕ → List ℕ → Read A
one_of [] furthest xs = stuck furthest
one_of (w ∷ ws) furthest xs = or_else (strip w.0 xs) w.1 (λ ys. one_of ws (shorter ys furthest) xs)

abbrev pub spaced_number : ℕ → List ℕ → Read ℕ
spaced_number most xs = then (strip (codes " ") xs) (λ _ ys. number most ys)

-- an octave behind its step is a place, as long as it fits a byte
abbrev pub place_on : ℕ → List ℕ → Read ℕ
place_on step xs = then (number ((most_in_one - step) / 7) xs) (λ octave ys. got (7 * octave + step) ys)
