-- What is kept of a voice, and where printing begins by it. Assumes nothing: these are definitions.
use Rattle.std.specs.Prelude.{◌≡◌, ℕ, ◌%◌, ◌<◌, ◌≤◌, ◌^◌, List, length, slice_index}
use Rattle.score.specs.declared.Layout.{Layout}
use Rattle.score.specs.Music.{Event}
use Rattle.laws.specs.Onsets.{bars_of, ticks_of, signs_of}
use Rattle.rows.specs.declared.Onsets.{Onsets}
use Rattle.rows.specs.declared.Rows.{Rows}
use Rattle.rows.specs.Rows.{voice_in}
use Rattle.engraving.specs.declared.kept.Begin.{Begin}
use Rattle.engraving.specs.Shown.{asked_for, left_of}

-- the three rows are those of the events
pub record Keeps (x : Onsets) (y : Layout) (es : List Event) : Type 0 where
  pub kept_bars : x.bars.now ≡ bars_of y.key y.bar es
  pub kept_ticks : x.ticks.now ≡ ticks_of y.key y.bar es
  pub kept_signs : x.signs.now ≡ signs_of y.key y.bar es

-- a row of words that never falls, and how many of its words are less than n: they are its first
abbrev pub NeverFalls : List ℕ → Type 0
NeverFalls ws = (i j : ℕ) → i ≤ j → j < length ws → slice_index ws i ≤ slice_index ws j

pub record Before (ws : List ℕ) (n r : ℕ) : Type 0 where
  pub within : r ≤ length ws
  pub less : (i : ℕ) → i < r → slice_index ws i < n
  pub others : (i : ℕ) → r ≤ i → i < length ws → n ≤ slice_index ws i

-- printing begins rightly for bar m: with the signs that are given, what is left from there on is what is asked for, however many bars
pub record Begins (r : Rows) (ss : List ℕ) (y : Layout) (m : ℕ) (g : Begin) : Type 0 where
  pub asked : (n : ℕ) → left_of y.bar (voice_in r) ss g.event g.skip n ≡ asked_for y.key y.bar (voice_in r) m n
  pub thirds : g.skip % 3 ≡ 0

-- where printing begins, said again: with an event that has not ended by then, or behind the last
pub record Reached (r : Rows) (y : Layout) (g h : Begin) : Type 0 where
  pub same : (ss : List ℕ) (n : ℕ) → left_of y.bar (voice_in r) ss g.event g.skip n ≡ left_of y.bar (voice_in r) ss h.event h.skip n
  pub within : h.skip ≤ slice_index r.lengths.now h.event
  pub short : h.skip < 2 ^ 32
  pub thirds : h.skip % 3 ≡ 0
