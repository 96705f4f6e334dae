-- The counts of the voices before one are the events before it.
use Rattle.std.proofs.Common.{◌∙◌, arith}
use Rattle.memory.proofs.Held.{counts_sum, few_before}
use Rattle.voices.proofs.reading.Stored.events_before.Goals as goal

pub sum_of-requires : goal.sum_of-requires
sum_of-requires c =
    let s = counts_sum c.args.self.words.now c.args.self.holds c.args.voice c.requires in
    let f = few_before c.args.self.words.now c.args.self.holds c.args.voice in
    omega arith

pub returns : goal.returns
returns c =
    let s = counts_sum c.args.self.words.now c.args.self.holds c.args.voice c.requires in
    let f = few_before c.args.self.words.now c.args.self.holds c.args.voice in
    record { value = c.sum_of.ensures ∙ s; small = omega arith }
