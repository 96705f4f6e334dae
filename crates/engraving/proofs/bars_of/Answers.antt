-- The part is what the bars take behind those that are passed.
use Rattle.std.proofs.Common.{◌∙◌}
use Rattle.engraving.proofs.Parts.{part_is, bars_part}
use Rattle.engraving.proofs.bars_of.Goals as goal

pub returns : goal.returns
returns c =
    let p = part_is c.args.page.now c.args.from c.args.count c.bytes_of_bars-begin.result c.bytes_of_bars.result c.bytes_of_bars-begin.ensures.is c.bytes_of_bars.ensures.is in
    record { part = p; bars = λ xs e. p ∙ bars_part c.args.page.now xs c.args.from c.args.count e }
