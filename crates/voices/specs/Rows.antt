-- The regions of words that hold a score, and the words of an event in each. Assumes nothing: these are definitions.
use Rattle.std.specs.Prelude.{ℕ, ◌+◌, List, [], ◌∷◌, slice_index}
use Rattle.memory.specs.Store.{places_from, alterations_from, lengths_from}
use Rattle.rows.specs.declared.Row.{Row}

-- where the regions of events begin
abbrev pub begins_in : List ℕ → List ℕ
begins_in w = places_from w ∷ (alterations_from w ∷ (lengths_from w ∷ []))

-- the words at a place of each region
abbrev pub row_in : List ℕ → ℕ → Row
row_in w at = record {
  place = slice_index w (places_from w + at);
  alteration = slice_index w (alterations_from w + at);
  length = slice_index w (lengths_from w + at);
}
