-- The first slot that is used has the lowest bit that is left of a word, or it lies in a later word.
use Rattle.std.proofs.Common.{arith, refl}
use Rattle.std.proofs.lemmas.Nat.Bits.{ones_shl}
use Rattle.sounds.proofs.Used.{none_here, used_here}
use Rattle.sounds.proofs.slots.Slots.next_used.Goals as goal

pub returns-then-left-ne0 : goal.returns-then-left-ne0
returns-then-left-ne0 c =
    let mask = ones_shl 64 c.saturating_sub-passed.result (omega arith) in
    simp mask (used_here c.loop-word.word c.saturating_sub-passed.result c.args.self.now.tells c.loop-word.invariant c.saturating_sub-passed.ensures (simp mask at c.if-left-ne0.true) (search arith) refl)

pub loop-word-preserved : goal.loop-word-preserved
loop-word-preserved c =
    let mask = ones_shl 64 c.saturating_sub-passed.result (omega arith) in
    none_here c.loop-word.word c.saturating_sub-passed.result c.args.self.now.tells c.loop-word.invariant c.saturating_sub-passed.ensures (simp mask at c.if-left-ne0.false)
