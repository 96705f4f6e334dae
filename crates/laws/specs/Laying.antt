-- What is promised of a length in values, and of a length laid over bar lines. Assumes nothing: these are definitions.
use Rattle.std.specs.Prelude.{◌≡◌, ℕ, suc, ◌+◌, ◌%◌, ◌<◌, true, List, [], ◌∷◌}
use Rattle.score.specs.Print.{all_values, pieces, Chunk, value, line, chunks}
use Rattle.score.specs.Promise.{sum_of, is_value, all_are}

-- A length comes to what it was, in values that can be drawn.
abbrev pub ComesTo : Type 0
ComesTo = (n : ℕ) → n % 3 ≡ 0 → (sum_of (pieces n n) ≡ n) × (all_are (pieces n n) ≡ true)

-- how long chunks are: bar lines have no length
unfoldable pub span : List Chunk → ℕ
span [] = 0
span (value v ∷ cs) = v + span cs
span (line ∷ cs) = span cs

-- Chunks that lie well from tick t of a bar of b ticks on. A line stands where the bar is full, and there only: where it is full no value stands,
-- and it is not left so. What is no line is a value that can be drawn.
unfoldable pub LiesWell : ℕ → ℕ → List Chunk → Type 0
LiesWell b t [] = t < b
LiesWell b t (value v ∷ cs) = (t < b) × (is_value all_values v ≡ true) × LiesWell b (t + v) cs
LiesWell b t (line ∷ cs) = (t ≡ b) × LiesWell b 0 cs

-- A length laid over bar lines from any tick of a bar on lies well, and its values come to it.
abbrev pub LiesOverBars : Type 0
LiesOverBars =
    (b o d : ℕ) → o < b → b % 3 ≡ 0 → o % 3 ≡ 0 → d % 3 ≡ 0 →
    LiesWell b o (chunks (suc d) b o d) × (span (chunks (suc d) b o d) ≡ d)
