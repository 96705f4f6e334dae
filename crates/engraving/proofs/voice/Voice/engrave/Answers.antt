-- With the signs that were derived, what is left from the first event on is what is asked for.
use Rattle.std.proofs.Common.{◌-◌, ◌*◌, ◌≤◌, List, length, take, sym, subst}
use Rattle.score.specs.Print.{Symbol}
use Rattle.wire.specs.Bytes.{symbols_bytes}
use Rattle.engraving.specs.Kept.{Begins}
use Rattle.engraving.proofs.Beginning.{signs_fit, signs_front, begins_first, wrote_so}
use Rattle.engraving.proofs.voice.Voice.engrave.Goals as goal
use Rattle.engraving.proofs.voice.Voice.engrave.Goals.{After-derive_signs}

-- printing begins with the first event
begins : (c : After-derive_signs) →
    Begins c.args.self.rows (take (length c.args.self.rows.lengths.now - 0) c.derive_signs.new.signs) c.args.self.layout c.args.from (record { event = 0; skip = c.args.from * c.args.self.layout.bar })
begins c = begins_first c.args.self.rows c.args.self.layout _ c.args.from c.args.self.ready (signs_front c.args.self.rows c.args.self.layout _ _ c.args.self.ready c.derive_signs.ensures)

pub print_bars-requires : goal.print_bars-requires
print_bars-requires c =
    let b = begins (goal.at.print_bars-requires c).After-derive_signs in
    record {
      signed = signs_fit c.args.self.rows c.args.self.layout _ c.args.self.ready (signs_front c.args.self.rows c.args.self.layout _ _ c.args.self.ready c.derive_signs.ensures);
      thirds = b.thirds;
      room = subst (λ (xs : List Symbol). length (symbols_bytes xs) ≤ length c.args.out.now) (sym (b.asked c.args.count)) c.requires.room;
    }

pub returns : goal.returns
returns c =
    let w = wrote_so _ _ _ _ _ ((begins (goal.at.returns c).After-derive_signs).asked c.args.count) c.print_bars.ensures.wrote c.print_bars.ensures.many in
    record { wrote = w.0; many = w.1; left = c.derive_signs.ensures }
