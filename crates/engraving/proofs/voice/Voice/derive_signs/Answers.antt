-- Each turn writes the sign of one event.
use Rattle.std.proofs.Common.{◌<◌, inl, length, arith, rules, refl, ap, ◌∙◌}
use Rattle.laws.proofs.Laid.{next_below}
use Rattle.rows.specs.Rows.{voice_in}
use Rattle.engraving.proofs.Deriving.{next, needed_small, within_turn, over_turn, starts, write, done}
use Rattle.engraving.proofs.Turns.{Turn}
use Rattle.engraving.proofs.voice.Voice.derive_signs.Goals as goal
use Rattle.engraving.proofs.voice.Voice.derive_signs.Goals.{In-Some}

pub loop-i-init : goal.loop-i-init
loop-i-init c =
    let d = starts c.args.self.rows c.args.self.layout c.args.signs.now c.into_iter-i-iterator.result.count _ c.into_iter-i-iterator.result.iter c.args.self.ready (search rules) (search rules) c.begin_bar.ensures in
    ((tt, tt, inl (omega (arith, d.many))), tt, d)

-- the event of this turn
this : (c : In-Some) → Turn (voice_in c.loop-i.i-iterator.iter) c.in-Some.row (voice_in c.next.new.self.iter)
this c = next c.loop-i.i-iterator.iter c.next.new.self.iter _ c.loop-i.invariant.2.fine c.in-Some.ensures.steps.0.0

pub sign_of-requires : goal.sign_of-requires
sign_of-requires c = (this (goal.at.sign_of-requires c).In-Some).words.place

pub kept_sign-requires : goal.kept_sign-requires
kept_sign-requires c = omega (arith, c.sign_of.ensures.sign, needed_small c.loop-i.holds (this (goal.at.kept_sign-requires c).In-Some))

-- there is room for its sign
fits : (c : In-Some) → c.loop-i.i-iterator.count < length c.loop-i.signs
fits c = omega (arith, c.loop-i.invariant.2.many, ap length c.in-Some.ensures.steps.0.0)

pub offset_bounds-signs-i : goal.offset_bounds-signs-i
offset_bounds-signs-i c = let h = fits (goal.at.offset_bounds-signs-i c).In-Some in omega (arith, c.in-Some.ensures.steps.1)

pub bounds-signs-i : goal.bounds-signs-i
bounds-signs-i c = let h = fits (goal.at.bounds-signs-i c).In-Some in omega (arith, c.in-Some.ensures.steps.1)

pub overflow_add-tick : goal.overflow_add-tick
overflow_add-tick c = let q = this (goal.at.overflow_add-tick c).In-Some in omega (arith, q.words.short, c.loop-i.invariant.2.begun)

pub loop-i-preserved-then-tick-layout : goal.loop-i-preserved-then-tick-layout
loop-i-preserved-then-tick-layout c =
    let q = this (goal.at.loop-i-preserved-then-tick-layout c).In-Some in
    let g = c.loop-i.invariant.2 in
    let s = c.in-Some.ensures.steps in
    let e = over_turn c.args.self.layout.key c.args.self.layout.bar c.loop-i.tick _ c.loop-i.holds c.begin_bar.new.holds q g.wide c.if-tick-layout.true refl c.begin_bar.ensures in
    let d = write c.next.new.self.iter c.in-Some.row c.next.new.self.count _ _ c.kept_sign.result g (fits (goal.at.loop-i-preserved-then-tick-layout c).In-Some) s.0.0 (omega (arith, s.2)) (c.kept_sign.ensures ∙ c.sign_of.ensures.sign) e (next_below _ _ c.args.self.ready.some) c.begin_bar.array_long in
    ((tt, tt, inl (omega (arith, d.many))), tt, rw s.1 d)

pub loop-i-preserved : goal.loop-i-preserved
loop-i-preserved c =
    let q = this (goal.at.loop-i-preserved c).In-Some in
    let g = c.loop-i.invariant.2 in
    let s = c.in-Some.ensures.steps in
    let e = within_turn c.args.self.layout.key c.args.self.layout.bar c.loop-i.tick _ c.loop-i.holds c.sign_of.new.holds q g.wide c.if-tick-layout.false refl c.sign_of.ensures.holds in
    let d = write c.next.new.self.iter c.in-Some.row c.next.new.self.count _ _ c.kept_sign.result g (fits (goal.at.loop-i-preserved c).In-Some) s.0.0 (omega (arith, s.2)) (c.kept_sign.ensures ∙ c.sign_of.ensures.sign) e c.if-tick-layout.false c.sign_of.array_long in
    ((tt, tt, inl (omega (arith, d.many))), tt, rw s.1 d)

pub returns : goal.returns
returns c = done c.loop-i.invariant.2 c.in-None.ensures.steps.0.0.0
