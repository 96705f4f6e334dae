-- What holds at each place in a bar, as `Holding` has it. Assumes nothing: these are definitions.
use Rattle.std.specs.Prelude.{◌≡◌, ◌≢◌, ℕ, ◌<◌, List, map, ◌==◌, slice_index}
use Rattle.std.specs.List.{range_with_len}
use Rattle.score.specs.Music.{pick, places}
use Rattle.score.specs.Print.{key}
use Rattle.voices.specs.declared.holding.Holding.{Holding}

-- past all bars
abbrev pub no_bar : ℕ
no_bar = 4294967295

-- at each place what an event of that bar has altered, and else what the key has there
abbrev pub held_at : Holding → ℕ → ℕ → ℕ
held_at h bar q = pick (slice_index h.bars q == bar) (slice_index h.altered q) (slice_index h.key q)

unfoldable pub holds_in : Holding → ℕ → List ℕ
holds_in h bar = map (held_at h bar) (range_with_len 0 places)

-- the key is this, and no event of a later bar has altered anything
pub record UpTo (k : ℕ) (h : Holding) (bar : ℕ) : Type 0 where
  pub by_key : (q : ℕ) → q < places → slice_index h.key q ≡ key k q
  pub not_later : (q later : ℕ) → bar < later → later < no_bar → slice_index h.bars q ≢ later
