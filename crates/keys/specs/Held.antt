-- What holds at each place of a bar, as it lies in words. Assumes nothing: these are definitions.
use Rattle.std.specs.Prelude.{ℕ, suc, List, map, Some, None, Option, ◌==◌, nat_lt, slice_index, slice_set}
use Rattle.std.specs.List.{range_with_len}
use Rattle.score.specs.Music.{pick, places}
use Rattle.score.specs.Print.{key}

-- the key's alteration at each place
unfoldable pub key_row : ℕ → List ℕ
key_row k = map (key k) (range_with_len 0 places)

-- what words say that holds at each place, and past all places the key
unfoldable pub held_in : ℕ → List ℕ → ℕ → ℕ
held_in k hs q = pick (nat_lt q places) (slice_index hs q) (key k q)

-- the number of a sign on paper: 0 for none, or one more than the alteration that it is of
abbrev pub sign_number : Option ℕ → ℕ
sign_number None = 0
sign_number (Some a) = suc a

-- The sign of an event that begins at place p, altered by a, where words say what holds: none if it is a silence, which has the place behind all
-- others, or if that alteration holds. And what holds from then on.
abbrev pub sign_needed : List ℕ → ℕ → ℕ → ℕ
sign_needed hs p a = pick (p == places) 0 (pick (slice_index hs p == a) 0 (suc a))

abbrev pub then_holding : List ℕ → ℕ → ℕ → List ℕ
then_holding hs p a = pick (p == places) hs (slice_set hs p a)
