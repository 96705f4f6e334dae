-- How much room a reader asks for at most. The statement is proved where a function names it. Assumes nothing.
use Rattle.std.specs.Prelude.{ℕ, ◌*◌, ◌≤◌, List, length}
use Rattle.score.specs.Print.{read_from}
use Rattle.reading.specs.Symbols.{symbols_of}

-- no symbol is more than one note, and a symbol has five bytes
abbrev pub FewNotes : Type 0
FewNotes = (k : ℕ) (bs : List ℕ) → 5 * length (read_from k (symbols_of bs)) ≤ length bs
