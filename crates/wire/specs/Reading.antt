-- Symbols, notes and answers taken back from rows of bytes. Assumes nothing: these are definitions.
-- A row is read from its front, and what stands behind is not looked at.
use Rattle.std.specs.Prelude.{ℕ, zero, suc, ◌+◌, ◌*◌, true, false, List, [], ◌∷◌, drop, Some, None, Option, ◌==◌}
use Rattle.std.specs.Option.{option_map}
use Rattle.score.specs.Music.{pick, Heard}
use Rattle.score.specs.Print.{Symbol, bar, head, rest}
use Rattle.score.specs.Calls.{Answer, done, refused, symbols, sounds, number}
use Rattle.score.specs.declared.Answer.{Answer as Said}
use Rattle.score.specs.declared.Answer.TheVariants.{Done, Refused, Symbols, Sounds, Number}

-- a number from its bytes, the low one first
abbrev pub of_two : ℕ → ℕ → ℕ
of_two a b = a + b * 256

abbrev pub of_four : ℕ → ℕ → ℕ → ℕ → ℕ
of_four a b c d = a + b * 256 + c * 65536 + d * 16777216

-- a symbol by its kind, from its place, its sign and its value; what a kind does not have is not looked at, and another kind is no symbol
abbrev pub symbol_by : ℕ → ℕ → ℕ → ℕ → Option Symbol
symbol_by k p s v =
    pick (k == 0) (Some bar)
    (pick (k == 1) (Some (head p s v false))
    (pick (k == 2) (Some (head p s v true))
    (pick (k == 3) (Some (rest v)) None)))

abbrev pub symbol_of : List ℕ → Option Symbol
symbol_of [] = None
symbol_of (k ∷ []) = None
symbol_of (k ∷ (p ∷ [])) = None
symbol_of (k ∷ (p ∷ (s ∷ []))) = None
symbol_of (k ∷ (p ∷ (s ∷ (l ∷ [])))) = None
symbol_of (k ∷ (p ∷ (s ∷ (l ∷ (h ∷ bs))))) = symbol_by k p s (of_two l h)

-- a note as it is heard: eight bytes
abbrev pub sound_of : List ℕ → Option (ℕ × Heard)
sound_of [] = None
sound_of (v ∷ []) = None
sound_of (v ∷ (t ∷ [])) = None
sound_of (v ∷ (t ∷ (a ∷ []))) = None
sound_of (v ∷ (t ∷ (a ∷ (b ∷ [])))) = None
sound_of (v ∷ (t ∷ (a ∷ (b ∷ (c ∷ []))))) = None
sound_of (v ∷ (t ∷ (a ∷ (b ∷ (c ∷ (d ∷ [])))))) = None
sound_of (v ∷ (t ∷ (a ∷ (b ∷ (c ∷ (d ∷ (l ∷ []))))))) = None
sound_of (v ∷ (t ∷ (a ∷ (b ∷ (c ∷ (d ∷ (l ∷ (h ∷ bs)))))))) = Some (v, record { start = of_four a b c d; long = of_two l h; high = t })

-- a number in four bytes
abbrev pub number_of : List ℕ → Option ℕ
number_of [] = None
number_of (a ∷ []) = None
number_of (a ∷ (b ∷ [])) = None
number_of (a ∷ (b ∷ (c ∷ []))) = None
number_of (a ∷ (b ∷ (c ∷ (d ∷ bs)))) = Some (of_four a b c d)

-- a refusal: its number in a byte, and its place
abbrev pub refusal_of : List ℕ → Option Said
refusal_of [] = None
refusal_of (n ∷ bs) = option_map (Refused n) (number_of bs)

-- what is said first in an answer: by its kind, nothing more, a refusal, how many symbols or sounds follow, or a number
abbrev pub said_by : ℕ → List ℕ → Option Said
said_by k bs =
    pick (k == 0) (Some Done)
    (pick (k == 1) (refusal_of bs)
    (pick (k == 2) (option_map Symbols (number_of bs))
    (pick (k == 3) (option_map Sounds (number_of bs))
    (pick (k == 4) (option_map Number (number_of bs)) None))))

abbrev pub said_of : List ℕ → Option Said
said_of [] = None
said_of (k ∷ bs) = said_by k bs

-- one before others, if all are there
abbrev pub before : {A : Type 0} → Option A → Option (List A) → Option (List A)
before None xs = None
before (Some x) None = None
before (Some x) (Some xs) = Some (x ∷ xs)

-- so many, each of so many bytes
unfoldable pub row_of : {A : Type 0} → (List ℕ → Option A) → ℕ → ℕ → List ℕ → Option (List A)
row_of f w zero bs = Some []
row_of f w (suc n) bs = before (f bs) (row_of f w n (drop w bs))

-- the answer by what is said first, and the row behind that
abbrev pub answer_by : Option Said → List ℕ → Option Answer
answer_by None bs = None
answer_by (Some Done) bs = Some done
answer_by (Some (Refused n p)) bs = Some (refused n p)
answer_by (Some (Symbols n)) bs = option_map symbols (row_of symbol_of 5 n bs)
answer_by (Some (Sounds n)) bs = option_map sounds (row_of sound_of 8 n bs)
answer_by (Some (Number n)) bs = Some (number n)

abbrev pub answer_of : List ℕ → Option Answer
answer_of bs = answer_by (said_of bs) (drop 5 bs)
