-- The rows of the voice's events are the parts of the regions that its span says.
use Rattle.std.proofs.Common.{refl}
use Rattle.sounds.proofs.Line.{from_words}
use Rattle.sounds.proofs.single.heard.Goals as goal

pub returns : goal.returns
returns c =
    let s = c.in_ok-span.ensures in
    let r = c.rows-rows.ensures in
    let f = from_words _ c.args.score.holds s r.places r.alterations r.lengths refl in
    (f.0, refl, s.there, f.1)
