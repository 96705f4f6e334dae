-- A bar that a score may have is short enough for the product.
use Rattle.std.proofs.Common.{◌+◌, ◌/◌, sym, arith, rules}
use Rattle.readback.proofs.Checks.{good, page_small}
use Rattle.readback.proofs.bars_needed.Goals as goal

pub overflow_mul-symbols-2 : goal.overflow_mul-symbols-2
overflow_mul-symbols-2 c =
    let g = good c.args.layout (sym c.if-not-is_good.ensures) in
    omega (arith, page_small c.args.layout.bar (c.in_ok-ticks.ticks / c.args.layout.bar + 1) g.most (search rules))
