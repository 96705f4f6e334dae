-- A number that is too large for its field makes an event that cannot be written.
use Rattle.std.proofs.Common.{length, refl}
use Rattle.score.specs.Calls.{voice}
use Rattle.memory.specs.Store.{score_of}
use Rattle.rows.specs.Rows.{event_in}
use Rattle.voices.proofs.Found.{unfine}
use Rattle.records.proofs.Numbers.{unfit}
use Rattle.records.proofs.Record.put_last.Goals as goal

pub returns-in_default : goal.returns-in_default
returns-in_default c =
    let w = c.args.score.now.words.now in
    let r = c.args.self in
    let a = (unfine w c.args.score.now.holds r.voice (event_in r.row) (unfit r.row c.in_default.ensures)).no_put (length (voice (score_of w) r.voice)) in
    record { same = refl; said = a.said; left = a.left }
