-- The bytes of bars that are asked for. Assumes nothing: these are definitions.
use Rattle.std.specs.Prelude.{ℕ, zero, suc, ◌+◌, ◌*◌, ◌/◌, List, [], ◌∷◌, drop, ◌==◌}
use Rattle.score.specs.Calls.{most_bars}
use Rattle.score.specs.Music.{pick, Event}
use Rattle.score.specs.Print.{Symbol, printed, from_bar, so_many}
use Rattle.laws.specs.Owed.{rest_from}
use Rattle.wire.specs.Bytes.{symbols_bytes}

-- a voice in key k and bars of b ticks, from a bar on, so many bars: the symbols, and their bytes
abbrev pub asked_for : ℕ → ℕ → List Event → ℕ → ℕ → List Symbol
asked_for k b es from n = so_many (from_bar from (printed k b es)) n

abbrev pub shown : ℕ → ℕ → List Event → ℕ → ℕ → List ℕ
shown k b es from n = symbols_bytes (asked_for k b es from n)

-- so many bars of the events from number i on, with the signs that are given, of which t ticks are passed over
abbrev pub left_of : ℕ → List Event → List ℕ → ℕ → ℕ → ℕ → List Symbol
left_of b es sg i t n = so_many (rest_from b t 0 (drop i es) (drop i sg)) n

-- as many bytes as most_bars of 768 ticks can take, each a line and no value shorter than 3
abbrev pub page_bytes : ℕ
page_bytes = 5 * (most_bars * (768 / 3 + 1))

-- how many of the bytes of symbols the first n bars with their lines take, by the bar lines among them
unfoldable pub bars_take : ℕ → List ℕ → ℕ
bars_take zero bs = 0
bars_take (suc n) [] = 0
bars_take (suc n) (k ∷ []) = 0
bars_take (suc n) (k ∷ (p ∷ [])) = 0
bars_take (suc n) (k ∷ (p ∷ (s ∷ []))) = 0
bars_take (suc n) (k ∷ (p ∷ (s ∷ (l ∷ [])))) = 0
bars_take (suc n) (k ∷ (p ∷ (s ∷ (l ∷ (h ∷ bs))))) = 5 + bars_take (pick (k == 0) n (suc n)) bs
