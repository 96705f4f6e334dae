-- One of the row after the other.
use Rattle.std.proofs.Common.{rules}
use Rattle.spelling.proofs.Rows.{row_more, row_over}
use Rattle.spelling.proofs.spell_row.Goals as goal

pub returns : goal.returns
returns g c text h = row_over _ _ _ _ _ _ _ c.loop-item-test.false (c.loop-item.invariant.1 text h)

pub loop-item-preserved : goal.loop-item-preserved
loop-item-preserved g c = (
  search rules,
  λ text h. row_more text g.T.Display.output _ _ _ _ _ _ _ _ c.loop-item-test.true c.item-item.is (h _) c.in_ok-write.ensures.bytes
      (c.loop-item.invariant.1 text h),
)
