-- All words are 0.
use Rattle.sounds.proofs.Used.{zero_at, tells_none}
use Rattle.sounds.proofs.slots.Slots.of.Goals as goal

pub invariant_of-result-clause-tells : goal.invariant_of-result-clause-tells
invariant_of-result-clause-tells c = tells_none _ 8 (zero_at 512)

pub returns-clause-empty : goal.returns-clause-empty
returns-clause-empty c = zero_at 512
