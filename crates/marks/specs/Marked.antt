-- A set of events as the bits of words: event i is marked by bit i % 32 of word i / 32. Assumes nothing: these are definitions.
use Rattle.std.specs.Prelude.{ℕ, ◌-◌, ◌*◌, ◌/◌, ◌%◌, ◌^◌, ◌<◌, min, Bool, List, length, map, ◌==◌, slice_index, slice_set}
use Rattle.std.specs.List.{range_with_len}

-- of a number, the bit of weight 2 ^ k
abbrev pub bit : ℕ → ℕ → ℕ
bit n k = n / 2 ^ k % 2

-- is there a word for event i?
abbrev pub InReach : List ℕ → ℕ → Type 0
InReach ws i = i / 32 < length ws

-- is event i marked?
abbrev pub has : List ℕ → ℕ → Bool
has ws i = bit (slice_index ws (i / 32)) (i % 32) == 1

-- without the mark of event i, which has one
abbrev pub unmarked : List ℕ → ℕ → List ℕ
unmarked ws i = slice_set ws (i / 32) (slice_index ws (i / 32) - 2 ^ (i % 32))

-- how many of the 32 bits of word q are for events before a
abbrev pub low : ℕ → ℕ → ℕ
low a q = min (a - 32 * q) 32

-- word q where just the events from a up to before c are marked
abbrev pub mark_word : ℕ → ℕ → ℕ → ℕ
mark_word a c q = 2 ^ low c q - 2 ^ low a q

-- m such words
unfoldable pub marked : ℕ → ℕ → ℕ → List ℕ
marked a c m = map (mark_word a c) (range_with_len 0 m)
