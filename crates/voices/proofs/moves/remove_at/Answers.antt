-- The copy closes the gap, and 0 is written where it left the last word twice.
use Rattle.std.proofs.Common.{◌-◌, set, ap, ◌∙◌}
use Rattle.memory.proofs.Moved.{close_is}
use Rattle.voices.proofs.moves.remove_at.Goals as goal

pub returns : goal.returns
returns c = ap (λ w. set w (c.args.end - 1) 0) c.copy_within.ensures.after ∙ close_is c.args.words.now c.args.at c.args.end c.requires.range c.requires.within
