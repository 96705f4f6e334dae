-- The copy leaves a gap of one word, into which the word is written.
use Rattle.std.proofs.Common.{set, ap, ◌∙◌}
use Rattle.memory.proofs.Moved.{shift_is}
use Rattle.voices.proofs.moves.insert_at.Goals as goal

pub returns : goal.returns
returns c = ap (λ w. set w c.args.at c.args.word) c.copy_within.ensures.after ∙ shift_is c.args.words.now c.args.at c.args.end c.args.word c.requires.range c.requires.within
