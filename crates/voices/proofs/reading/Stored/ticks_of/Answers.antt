-- A voice's ticks lie beside its count.
use Rattle.std.proofs.Common.{get_or, ap, ◌∙◌, arith}
use Rattle.memory.specs.Store.{score_of}
use Rattle.memory.proofs.Scores.{short_voice}
use Rattle.memory.proofs.Held.{ticks_at}
use Rattle.voices.proofs.reading.Stored.ticks_of.Goals as goal

pub returns : goal.returns
returns c =
    let t = ap (λ n. get_or c.args.self.words.now n 0) c.ticks_at.ensures ∙ ticks_at c.args.self.words.now c.args.self.holds c.args.voice c.requires in
    let s = short_voice (score_of c.args.self.words.now) c.args.voice c.args.self.holds.proper.kept.short in
    record { value = t; short = omega arith }
