-- No event has altered anything yet.
use Rattle.std.proofs.Common.{◌∙◌}
use Rattle.voices.proofs.Altered.{first_up_to, first_holds}
use Rattle.voices.proofs.holding.Holding.of.Goals as goal

pub returns : goal.returns
returns c = record {
  up_to = first_up_to c.args.signature c.args.bar _ c.copy_from_slice.new.self (c.copy_from_slice.ensures.after ∙ c.begin_bar.ensures) c.other_bar.ensures.other c.other_bar.ensures.not_later;
  holds = first_holds c.args.signature c.args.bar _ c.copy_from_slice.new.self (c.copy_from_slice.ensures.after ∙ c.begin_bar.ensures) c.other_bar.ensures.other c.other_bar.ensures.not_later;
}
