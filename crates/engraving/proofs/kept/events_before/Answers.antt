-- The bars before the point are less, and the others are not.
use Rattle.std.proofs.Common.{ltb, ltb-true, ltb-false, rules, arith}
use Rattle.std.proofs.lemmas.List.Sorted.{IsPartitionPoint-from_clause, IsPartitionedBy-ltb, IsNonDecreasingBy-from_default}
use Rattle.engraving.proofs.kept.events_before.Goals as goal

pub returns : goal.returns
returns c =
    let parted = IsPartitionedBy-ltb (λ n. n) _ c.args.bar (IsNonDecreasingBy-from_default (λ n. n) _ 0 c.requires) in
    let point = IsPartitionPoint-from_clause (λ n. ltb n c.args.bar) _ _ c.partition_point.ensures.partitioned parted (λ a r q k. search rules) in
    record {
      within = c.partition_point.ensures.bound;
      less = λ i h. ltb-true _ _ (point.0 i 0 (omega arith) h);
      others = λ i h l. ltb-false _ _ (point.1 i 0 h l);
    }
