-- One after the other.
use Rattle.std.proofs.Common.{◌+◌, ◌-◌, map, length, take, drop, ap, ◌∙◌}
use Rattle.wire.specs.Reading.{row_of}
use Rattle.answers.proofs.Taken.{ahead, take_first, take_more, take_none, take_all}
use Rattle.answers.proofs.items_in.Goals as goal

pub loop-i-init : goal.loop-i-init
loop-i-init g c = take_first g.T.Item.of g.T.Item.meant g.T.Item.SIZE c.args.count _ c.args.bytes.now c.new-row.ensures.items

pub loop-i-preserved : goal.loop-i-preserved
loop-i-preserved g c =
    ap (λ w. ahead (map g.T.Item.meant c.push.new.self.items)
    (row_of g.T.Item.of g.T.Item.SIZE (c.args.count - (c.loop-i._i + 1)) (take (length c.loop-i.rest.now - w) (drop w c.loop-i.rest.now)))) c.SIZE.ensures
    ∙ take_more g.T.Item.of g.T.Item.meant g.T.Item.SIZE c.args.count c.loop-i._i _ _ c.in-Some.item c.loop-i.rest.now _
    c.loop-i-test.true c.in-Some.ensures.said c.in_ok-push.ensures.items c.loop-i.invariant

pub returns-in_default : goal.returns-in_default
returns-in_default g c =
    take_none g.T.Item.of g.T.Item.SIZE c.args.count c.loop-i._i _ c.loop-i.rest.now _ c.loop-i-test.true c.in_default.ensures.said c.loop-i.invariant

pub returns : goal.returns
returns g c = take_all g.T.Item.of g.T.Item.SIZE c.args.count c.loop-i._i _ c.loop-i.rest.now _ c.loop-i-test.false c.loop-i.invariant
