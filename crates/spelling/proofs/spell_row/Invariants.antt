-- What stands there and what is left to write are the whole, by whatever says each one's text.
use denote.Text.{Utf8}
use denote.Shadow.{shadow}
use Rattle.std.proofs.Common.{◌≡◌, ℕ, List, [], ◌++◌, drop, Some, string_bytes}
use Rattle.score.specs.Spelling.{spelled_row}
use Rattle.spelling.proofs.spell_row.Given as goal

abbrev pub invariant-loop-item : goal.invariant-loop-item
invariant-loop-item g l =
    shadow (Utf8 l.lead)
    × ((text : _ → List ℕ) → ((x : _) → g.T.Display.output x ≡ Some (text x))
    → string_bytes l.out ++ spelled_row text l.lead l.between (drop l.item-index l.row) ≡ string_bytes l.initial.out ++ spelled_row text [] l.between l.row)
