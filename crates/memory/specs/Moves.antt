-- One word comes in among others, or goes out. Assumes nothing: these are definitions.
use Rattle.std.specs.Prelude.{ℕ, suc, ◌+◌, ◌-◌, List, ◌∷◌, ◌++◌, take, drop, slice_index, slice_range, slice_set}
use Rattle.memory.specs.Store.{counts_from, limit_in, ticks_from, places_from, bars_from}

-- x comes in at a place, and what stood from there up to an end goes one on, over what stood at the end
unfoldable pub shifted : List ℕ → ℕ → ℕ → ℕ → List ℕ
shifted w at end x = take at w ++ (x ∷ (slice_range w at end ++ drop (suc end) w))

-- what stood at a place goes out, what stood behind it up to an end comes one back, and 0 comes in before the end
unfoldable pub closed : List ℕ → ℕ → ℕ → List ℕ
closed w at end = take at w ++ (take (end - suc at) (drop (suc at) w) ++ (0 ∷ drop end w))

-- of an event its place, alteration and length come in at place j of the u in use, in each of three regions of n words that begin at m
unfoldable pub rows_in : List ℕ → ℕ → ℕ → ℕ → ℕ → ℕ → ℕ → ℕ → List ℕ
rows_in w m n u j p a d = shifted (shifted (shifted w (m + j) (m + u) p) (m + n + j) (m + n + u) a) (m + n + n + j) (m + n + n + u) d

-- they go out at place j
unfoldable pub rows_out : List ℕ → ℕ → ℕ → ℕ → ℕ → List ℕ
rows_out w m n u j = closed (closed (closed w (m + j) (m + u)) (m + n + j) (m + n + u)) (m + n + n + j) (m + n + n + u)

-- they become others at place j
unfoldable pub rows_set : List ℕ → ℕ → ℕ → ℕ → ℕ → ℕ → ℕ → List ℕ
rows_set w m n j p a d = slice_set (slice_set (slice_set w (m + j) p) (m + n + j) a) (m + n + n + j) d

-- The same in words that hold a score, for voice v, whose count and ticks are written: an event comes in at place j of the u in use, or goes out there,
-- or becomes another; t is how long the voice is then. Where an event begins on paper comes in, as zeros,
-- or goes out at place q, the last of the voice.
unfoldable pub with_event : List ℕ → ℕ → ℕ → ℕ → ℕ → ℕ → ℕ → ℕ → ℕ → List ℕ
with_event w v u j q t p a d =
    rows_in (slice_set (slice_set (rows_in w (places_from w) (limit_in w) u j p a d) (counts_from + v) (slice_index w (counts_from + v) + 1)) (ticks_from w + v) t) (bars_from w) (limit_in w) u q 0 0 0

unfoldable pub without_event : List ℕ → ℕ → ℕ → ℕ → ℕ → ℕ → List ℕ
without_event w v u j q t =
    rows_out (slice_set (slice_set (rows_out w (places_from w) (limit_in w) u j) (counts_from + v) (slice_index w (counts_from + v) - 1)) (ticks_from w + v) t) (bars_from w) (limit_in w) u q

unfoldable pub with_other : List ℕ → ℕ → ℕ → ℕ → ℕ → ℕ → ℕ → List ℕ
with_other w v j t p a d = slice_set (rows_set w (places_from w) (limit_in w) j p a d) (ticks_from w + v) t
