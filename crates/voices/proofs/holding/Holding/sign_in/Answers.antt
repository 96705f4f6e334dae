-- The alteration holds from then on.
use Rattle.std.proofs.Common.{◌+◌, eqb, ap, ◌∙◌, arith}
use Rattle.score.specs.Music.{pick, places}
use Rattle.voices.proofs.Altered.{sign_is, holds_is, up_to}
use Rattle.voices.proofs.holding.Holding.sign_in.Goals as goal

pub returns : goal.returns
returns c = record {
  sign = c.sign_word.ensures ∙ (ap (λ x. pick (eqb c.args.place places) 0 (pick (eqb x c.args.alteration) 0 (c.args.alteration + 1))) c.held-held.ensures ∙ sign_is c.args.self.now c.args.bar c.args.place c.args.alteration c.requires.place);
  holds = holds_is c.args.self.now c.args.bar c.args.place c.args.alteration c.requires.place (search arith) (search arith);
  up_to = up_to c.args.self.now c.args.bar c.args.place c.args.alteration c.requires.place (search arith);
}
