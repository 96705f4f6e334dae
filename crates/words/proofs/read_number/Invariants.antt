-- What is left to read, after the digits so far.
use Rattle.std.proofs.Common.{◌≡◌, ◌≤◌, length}
use Rattle.words.specs.Words.{number_on}
use Rattle.words.proofs.read_number.Given as goal

abbrev pub invariant-loop-d : goal.invariant-loop-d
invariant-loop-d l = (number_on l.most l.n l.rest ≡ number_on l.most 0 l.line) × (l.n ≤ l.most)

abbrev pub decreases-loop-d : goal.decreases-loop-d
decreases-loop-d l = length l.rest
