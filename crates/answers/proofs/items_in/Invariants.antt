-- Those that were taken, ahead of those that are left, are the whole.
use Rattle.std.proofs.Common.{◌≡◌, ◌-◌, map, vec_items}
use Rattle.wire.specs.Reading.{row_of}
use Rattle.answers.proofs.Taken.{ahead}
use Rattle.answers.proofs.items_in.Given as goal

abbrev pub invariant-loop-i : goal.invariant-loop-i
invariant-loop-i g l =
    ahead (map g.T.Item.meant (vec_items l.row)) (row_of g.T.Item.of g.T.Item.SIZE (l.count - l._i) l.rest) ≡ row_of g.T.Item.of g.T.Item.SIZE l.count l.bytes
