-- A score lies in words whose header fits.
use Rattle.capi.proofs.Entering.{fit}
use Rattle.capi.proofs.engraver_put_records.Goals as goal

pub enter-requires : goal.enter-requires
enter-requires c = let f = fit c.args.words.now c.in-Some.sizes c.in-Some.ensures in record { ready = c.requires f.0; part = f.1 }
