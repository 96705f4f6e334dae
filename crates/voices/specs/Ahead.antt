-- Events that are to be derived, of which the next have lost their marks already. Assumes nothing: these are definitions.
use Rattle.std.specs.Prelude.{◌≡◌, ℕ, ◌≤◌, List, ◌++◌, length, take, drop}
use Rattle.marks.specs.Marked.{marked}
use Rattle.memory.specs.Store.{marks_asked, words_asked, voices_in, limit_in, marks_from}
use Rattle.memory.specs.Words.{kept_anew, Deriving}

-- the words if just the events from one on up to before an end were marked
abbrev pub with_marks : List ℕ → ℕ → ℕ → List ℕ
with_marks w at end = take (marks_from w) w ++ marked at end (marks_asked (limit_in w))

-- The events from place `at` on are to be derived, and of these the marks of those before `to` are taken already. With right onsets the words are `whole`.
pub record Ahead (w whole : List ℕ) (at to bar tick : ℕ) (st : ℕ → ℕ) : Type 0 where
  pub end : ℕ
  pub state : Deriving (with_marks w at end) at bar tick st
  pub marks : drop (marks_from w) w ≡ marked to end (marks_asked (limit_in w))
  pub size : length w ≡ words_asked (voices_in w) (limit_in w)
  pub up_to : to ≤ end
  pub anew : kept_anew (with_marks w at end) ≡ whole
