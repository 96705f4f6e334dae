-- Bars that may be shown fit a page.
use Rattle.std.proofs.Common.{le_trans, arith}
use Rattle.engraving.proofs.Room.{page_enough}
use Rattle.engraving.proofs.voice.KeptVoice.engrave_page.Goals as goal

pub engrave-requires : goal.engrave-requires
engrave-requires c =
    let y = c.args.self.voice.ready in
    le_trans (page_enough _ _ _ _ _ y.some y.thirds y.fine (omega arith) (omega arith)) (omega arith)
