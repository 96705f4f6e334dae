-- The records so far are put.
use Rattle.std.proofs.Common.{◌≡◌, length}
use Rattle.records.proofs.Turns.{Going}
use Rattle.records.proofs.put_all.Given as goal

abbrev pub invariant-loop-count : goal.invariant-loop-count
invariant-loop-count l =
    (l.score.words.ghost_name ≡ l.initial.score.words.ghost_name)
    × Going l.initial.score.words.now l.numbers l.score.words.now (length l.yielded)
