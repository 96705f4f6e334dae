-- At last all words have the bits of the range.
use Rattle.std.proofs.Common.{◌≡◌, ℕ, ◌+◌, ◌-◌, ◌/◌, ◌^◌, ◌≤◌, length, drop, length-take, length-drop, refl, arith, pow_mono}
use Rattle.marks.specs.Marked.{low}
use Rattle.marks.proofs.Bits.{marked_part}
use Rattle.marks.proofs.mark.Goals as goal

pub overflow_sub-bits : goal.overflow_sub-bits
overflow_sub-bits c =
    let w : ℕ = c.args.from / 32 + c.loop-i.i in
    let le : 2 ^ low c.args.from w ≤ 2 ^ low c.args.to w = pow_mono (omega arith) in
    omega (arith, c.bits_below.ensures, c.bits_below-in-loop-i.ensures)

pub returns : goal.returns
returns c =
    let part : length c.loop-i.bits-items ≡ c.args.to / 32 + 1 - c.args.from / 32 =
    omega (arith, c.requires.reach, length-take {A = ℕ} (c.args.to / 32 + 1 - c.args.from / 32) (drop (c.args.from / 32) c.args.marks.now), length-drop {A = ℕ} (c.args.from / 32) c.args.marks.now) in
    marked_part c.args.from c.args.to (length c.args.marks.now) (c.args.to / 32 + 1 - c.args.from / 32) c.args.marks.now c.loop-i.bits-items
    c.requires.empty c.requires.range c.requires.reach refl part (λ q b. c.loop-i.invariant q (omega arith))
