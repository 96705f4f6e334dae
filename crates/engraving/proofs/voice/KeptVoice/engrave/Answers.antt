-- With the signs that are kept, what is left from where printing begins on is what is asked for.
use Rattle.std.proofs.Common.{◌≤◌, List, length, sym, subst}
use Rattle.score.specs.Print.{Symbol}
use Rattle.wire.specs.Bytes.{symbols_bytes}
use Rattle.engraving.proofs.Beginning.{signs_fit, wrote_so}
use Rattle.engraving.proofs.voice.KeptVoice.engrave.Goals as goal

pub print_bars-requires : goal.print_bars-requires
print_bars-requires c = record {
  signed = signs_fit c.args.self.voice.rows c.args.self.voice.layout _ c.args.self.voice.ready c.args.self.keeps.kept_signs;
  thirds = c.begin-begin.ensures.thirds;
  room = subst (λ (xs : List Symbol). length (symbols_bytes xs) ≤ length c.args.out.now) (sym (c.begin-begin.ensures.asked c.args.count)) c.requires;
}

pub returns : goal.returns
returns c =
    let w = wrote_so _ _ _ _ _ (c.begin-begin.ensures.asked c.args.count) c.print_bars.ensures.wrote c.print_bars.ensures.many in
    record { wrote = w.0; many = w.1 }
