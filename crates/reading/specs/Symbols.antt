-- The symbols that a row of bytes begins with, up to the first that cannot be played. Assumes nothing: these are definitions.
use Rattle.std.specs.Prelude.{◌≡◌, ℕ, ◌*◌, List, [], ◌∷◌, length, drop, Some, None, Ok, Err, Option, Result, nat_lt}
use Rattle.std.specs.Iterator.{YieldsFirstBy}
use Rattle.score.specs.declared.Symbol.{Symbol as SymbolType}
use Rattle.score.specs.Meaning.{symbol_meant}
use Rattle.score.specs.Music.{pick}
use Rattle.score.specs.Print.{Symbol, read_from}
use Rattle.wire.specs.Reading.{of_two, symbol_by}
use Rattle.reading.specs.declared.Symbols.{Symbols}
use Rattle.reading.specs.Player.{can_play}

abbrev pub playable : Option Symbol → Option Symbol
playable None = None
playable (Some x) = pick (can_play x) (Some x) None

-- a symbol and those behind it, or none of them
abbrev pub before : Option Symbol → List Symbol → List Symbol
before None xs = []
before (Some x) xs = x ∷ xs

unfoldable pub symbols_of : List ℕ → List Symbol
symbols_of [] = []
symbols_of (k ∷ []) = []
symbols_of (k ∷ (p ∷ [])) = []
symbols_of (k ∷ (p ∷ (s ∷ []))) = []
symbols_of (k ∷ (p ∷ (s ∷ (l ∷ [])))) = []
symbols_of (k ∷ (p ∷ (s ∷ (l ∷ (h ∷ bs))))) = before (playable (symbol_by k p s (of_two l h))) (symbols_of bs)

-- how many bytes are taken with a symbol
abbrev pub taken_with : Option SymbolType → ℕ
taken_with None = 0
taken_with (Some x) = 5

-- one step: the first of the symbols is given and its bytes are taken; where none is left, nothing is taken
pub record Steps (s : Symbols) (r : Option SymbolType) (t : Symbols) : Type 0 where
  pub gives : YieldsFirstBy symbol_meant (λ u. symbols_of u.0.now) s r t
  pub takes : t.0.now ≡ drop (taken_with r) s.0.now

-- how many notes are heard of bytes that are such symbols to their end, or else the byte where the first stands that cannot be played
abbrev pub outcome : ℕ → List ℕ → Result ℕ ℕ
outcome k bs = pick (nat_lt (5 * length (symbols_of bs)) (length bs)) (Err (5 * length (symbols_of bs))) (Ok (length (read_from k (symbols_of bs))))
