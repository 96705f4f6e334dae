-- When rows of words can be printed, and with which signs. Assumes nothing: these are definitions.
use Rattle.std.specs.Prelude.{◌≡◌, ℕ, ◌%◌, ◌<◌, ◌≤◌, true, List, length, slice_index}
use Rattle.score.specs.Music.{alterations, all_fine}
use Rattle.score.specs.declared.Layout.{Layout}
use Rattle.rows.specs.declared.Rows.{Rows}
use Rattle.rows.specs.Rows.{voice_in}

-- the rows are as long as each other, their events can be written, and a bar is 3 ticks long or a multiple of that
pub record Ready (r : Rows) (y : Layout) : Type 0 where
  pub same_places : length r.places.now ≡ length r.lengths.now
  pub same_alterations : length r.alterations.now ≡ length r.lengths.now
  pub fine : all_fine (voice_in r) ≡ true
  pub some : 0 < y.bar
  pub thirds : y.bar % 3 ≡ 0

-- signs that are given to the events of rows: each is none, or that of one of the alterations
pub record SignsFit (r : Rows) (ss : List ℕ) : Type 0 where
  pub same_signs : length ss ≡ length r.lengths.now
  pub small : (i : ℕ) → slice_index ss i ≤ alterations
