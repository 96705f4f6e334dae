-- All events are those before the end of the last voice.
use Rattle.std.proofs.Common.{◌∙◌}
use Rattle.memory.proofs.Held.{all_before}
use Rattle.voices.proofs.reading.Stored.events_in.Goals as goal

pub returns : goal.returns
returns c = record { value = c.events_before.ensures.value ∙ all_before c.args.self.words.now c.args.self.holds; small = c.events_before.ensures.small }
