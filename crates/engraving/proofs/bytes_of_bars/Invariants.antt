-- How far the bars are passed. Assumes nothing.
use Rattle.std.proofs.Common.{◌≡◌, ◌+◌, ◌*◌, length}
use Rattle.std.specs.Slice.Iter.{chunks_exact_rest, chunks_exact_size}
use Rattle.engraving.specs.Shown.{bars_take}
use Rattle.engraving.proofs.bytes_of_bars.Given as goal

-- what was passed, and what the bars that are left take
abbrev pub invariant-loop-passed : goal.invariant-loop-passed
invariant-loop-passed l =
    (goal.iterator-loop-passed).can_next l.passed-iterator × (goal.iterator-loop-passed).is_finite l.passed-iterator
    × (chunks_exact_size l.passed-iterator.iter ≡ 5) × (5 * l.passed-iterator.count + length (chunks_exact_rest l.passed-iterator.iter) ≡ length l.page)
    × (5 * l.passed-iterator.count + bars_take l.more (chunks_exact_rest l.passed-iterator.iter) ≡ bars_take l.count l.page)
