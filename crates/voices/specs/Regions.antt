-- Where the regions of lent words begin. Assumes nothing: these are definitions.
use Rattle.std.specs.Prelude.{ℕ, List, [], ◌∷◌}
use Rattle.memory.specs.Store.{bars_from, beats_from, signs_from, marks_from}
use Rattle.voices.specs.Rows.{begins_in}
use Rattle.voices.specs.declared.regions.Regions.{Regions}

-- of the bars, ticks and signs
abbrev pub onsets_begin_in : List ℕ → List ℕ
onsets_begin_in w = bars_from w ∷ (beats_from w ∷ (signs_from w ∷ []))

-- and all
abbrev pub regions_in : List ℕ → Regions
regions_in w = record { rows = begins_in w; onsets = onsets_begin_in w; marks = marks_from w }
