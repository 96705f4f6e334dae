-- The words before the index have the bits of the range.
use Rattle.std.proofs.Common.{◌≡◌, ℕ, ◌+◌, ◌<◌, get_or}
use Rattle.marks.specs.Marked.{mark_word}
use Rattle.marks.proofs.mark.Given as goal

abbrev pub invariant-loop-i : goal.invariant-loop-i
invariant-loop-i l = (k : ℕ) → k < l.i → get_or l.bits-items k 0 ≡ mark_word l.from l.to (l.first + k)
