-- Those in the bars before the tick's begin before it.
use Rattle.std.proofs.Common.{◌/◌, ltb, ltb-true, rules, arith}
use Rattle.std.proofs.lemmas.List.Sorted.{IsPartitionPoint-from_clause, IsPartitionedBy-ltb}
use Rattle.sounds.proofs.Search.{earlier_bar}
use Rattle.sounds.proofs.reach.Goals as goal

pub loop-index-init : goal.loop-index-init
loop-index-init c =
    let bar = c.args.from / c.args.measure in
    let parted = IsPartitionedBy-ltb (λ x. x) c.args.bars.now bar c.requires.rise in
    let point = IsPartitionPoint-from_clause (λ x. ltb x bar) _ _ c.partition_point-passed.ensures.partitioned parted (λ a r q k. search rules) in
    λ i l. earlier_bar c.args.from i c.requires (omega (arith, c.partition_point-passed.ensures.bound)) (ltb-true _ _ (point.0 i 0 (omega arith) l))
