-- Each turn passes a silence, or writes the note that comes next.
use Rattle.std.proofs.Common.{sym, arith}
use Rattle.std.proofs.lemmas.List.{take_rest, length-drop}
use Rattle.sounds.proofs.Alone.{alone_order, alone_first, alone_none, along_silence, along_fields, along_room, along_note, along_late, along_behind}
use Rattle.sounds.proofs.together.Voices.write_alone.Goals as goal
use Rattle.sounds.proofs.together.Voices.write_alone.Goals.{Then-not-is_silent, then-not-is_silent, else-not-is_silent}

pub reach-requires : goal.reach-requires
reach-requires c = alone_order c.args.self.laid c.requires.alone c.args.self.timed

pub returns-in_default : goal.returns-in_default
returns-in_default c =
    let a = alone_none c.args.self.laid c.requires.alone c.args.self.timed c.args.to c.args.out.now c.in_default.ensures in
    record { wrote = a.0; many = a.1 }

pub loop-at-init : goal.loop-at-init
loop-at-init c = alone_first c.args.self.laid c.requires.alone c.args.self.timed c.in-Some.ensures

pub returns-then-tick-to : goal.returns-then-tick-to
returns-then-tick-to c = let a = along_late c.loop-at.invariant c.if-tick-to.true in record { wrote = a.0; many = a.1 }

pub returns : goal.returns
returns c = let a = along_behind c.loop-at.invariant (omega arith) in record { wrote = a.0; many = a.1 }

pub sound_of-requires : goal.sound_of-requires
sound_of-requires c =
    let f = along_fields c.args.self.laid c.requires.alone c.loop-at.invariant c.loop-at-test.true c.row-row.ensures (sym c.if-not-is_silent.ensures) in
    record { place = f.0; alteration = f.1; long = f.2 }

pub write-requires : goal.write-requires
write-requires c =
    let r = along_room c.args.self.laid c.requires.alone c.loop-at.invariant c.loop-at-test.true c.row-row.ensures (sym c.if-not-is_silent.ensures) c.if-tick-to.false in
    simp (take_rest, length-drop) (omega arith)

pub loop-at-preserved : goal.loop-at-preserved
loop-at-preserved c =
    let here = c.loop-at.invariant in
    elim c.if-not-is_silent.branch [
      | then-not-is_silent w ↦
          simp (w.out-is, w.count-is) (along_note c.args.self.laid c.requires.alone here c.loop-at-test.true c.row-row.ensures (sym w.if-not-is_silent.ensures) c.if-tick-to.false w.write.new.out
          (omega arith) w.sound_of.ensures w.write.ensures.many w.write.ensures.wrote)
      | else-not-is_silent w ↦
          simp (w.out-is, w.count-is) (along_silence c.args.self.laid c.requires.alone here c.loop-at-test.true c.row-row.ensures (sym w.if-not-is_silent.ensures))
    ]
