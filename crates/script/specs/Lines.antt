-- The lines of a text, and those of them that say something. Assumes nothing: these are definitions.
use Rattle.std.specs.Prelude.{ℕ, Bool, false, not, List, [], ◌∷◌, ◌==◌}
use Rattle.score.specs.Music.{pick}
use Rattle.script.specs.declared.lines.Lines.{Lines}

-- the byte that ends a line, and the one that a comment begins with
abbrev pub line_end : ℕ
line_end = 10

abbrev pub comment : ℕ
comment = 59

-- a byte before the first line
abbrev pub onto : ℕ → List (List ℕ) → List (List ℕ)
onto x [] = (x ∷ []) ∷ []
onto x (l ∷ ls) = (x ∷ l) ∷ ls

-- all lines, without their ends; what follows the last end is a line if it is not empty
unfoldable pub all_lines : List ℕ → List (List ℕ)
all_lines [] = []
all_lines (x ∷ xs) = pick (x == line_end) ([] ∷ all_lines xs) (onto x (all_lines xs))

-- empty lines and comments say nothing
abbrev pub says : List ℕ → Bool
says [] = false
says (x ∷ xs) = not (x == comment)

unfoldable pub saying : List (List ℕ) → List (List ℕ)
saying [] = []
saying (l ∷ ls) = pick (says l) (l ∷ saying ls) (saying ls)

abbrev pub lines : List ℕ → List (List ℕ)
lines text = saying (all_lines text)

-- the lines that the code has still to give
abbrev pub lines_in : Lines → List (List ℕ)
lines_in s = lines s.text.now
