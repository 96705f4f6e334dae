-- What is left of the word has to stand at the front of what is left of the line.
use Rattle.std.proofs.Common.{◌≡◌, drop}
use Rattle.words.specs.Words.{strip}
use Rattle.words.proofs.read_word.Given as goal

abbrev pub invariant-loop-letter : goal.invariant-loop-letter
invariant-loop-letter l = strip (drop l.letter-index l.word) l.rest ≡ strip l.word l.line
