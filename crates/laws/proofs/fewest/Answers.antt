-- The theorem is proved in proofs/Few.antt. Named at the function, it is not found: the search has no row of values to give it.
use Rattle.laws.proofs.Few.{fewest}
use Rattle.laws.proofs.fewest.Goals as goal

pub returns : goal.returns
returns c = fewest
