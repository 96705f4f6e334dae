-- The words that are left decide, from the furthest place so far on.
use Rattle.std.proofs.Common.{◌≡◌, map, drop}
use Rattle.words.specs.Words.{one_of}
use Rattle.words.proofs.read_one_of.Given as goal

abbrev pub invariant-loop-word : goal.invariant-loop-word
invariant-loop-word g l =
    one_of (map (λ w. (w.0.now, w.1)) (drop l.word-index l.words)) l.furthest l.line ≡ one_of (map (λ w. (w.0.now, w.1)) l.words) l.line l.line
