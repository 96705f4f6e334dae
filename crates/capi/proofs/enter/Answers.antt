-- The words that the score takes are lent on, and are back.
use Rattle.std.proofs.Common.{arith, w64}
use borrow.Author.Rules.{to_z-of_z_to, sfits_of}
use mir.Facts.{to_z_pos}
use Rattle.capi.proofs.Entering.{put_in}
use Rattle.capi.proofs.enter.Goals as goal

pub returns : goal.returns
returns c =
    let e = c.put_records-entered.ensures in
    put_in c.args.words.now c.requires.ready c.args.taken c.requires.part c.args.records.now c.put_records-entered.new.words c.put_records-entered.result.count _
    (record { count = e.count; next = e.next; left = e.left; puts = e.puts; holds = e.holds }) c.put_records-entered.auto.words _ _
    (to_z-of_z_to w64 _ _ (sfits_of c.number_of_next.type_inv) c.number_of_next.ensures) (to_z_pos w64 (omega (arith, e.few)))
