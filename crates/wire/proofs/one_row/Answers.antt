-- A call that is read has its own row of bytes. Named at the function, the lemma is not found: it says that there are two bytes.
use Rattle.wire.proofs.OneRow as shown
use Rattle.wire.proofs.one_row.Goals as goal

pub returns : goal.returns
returns c = shown.one_row
