-- Each turn of a loop writes one symbol or passes to the next event; what is owed changes as `Turns` says.
use Rattle.std.proofs.Common.{◌≡◌, ℕ, ◌+◌, ◌-◌, ◌<◌, ◌≤◌, List, ◌∷◌, ◌++◌, length, take, drop, sym, refl, ap, ◌∙◌, arith, rules}
use Rattle.score.specs.Print.{Symbol, bar, pieces}
use Rattle.wire.specs.Bytes.{symbol_bytes, symbols_bytes, each}
use Rattle.rows.specs.declared.Row.{Row}
use Rattle.rows.specs.Rows.{voice_in}
use Rattle.engraving.proofs.Page.{Page, starts, owing, enter, leave, room, write, all}
use Rattle.engraving.proofs.Turns.{in_event, events_from, starts_voice, part_turn, part_begins, part_values, part_over, Value, value_turn, values_turn, line_turn, no_bar, Turn, turn, begin_turn, middle_turn, end_turn, no_event, none_asked}
use Rattle.engraving.proofs.voice.Voice.print_bars.Invariants.{whole_of}
use Rattle.engraving.proofs.voice.Voice.print_bars.Goals as goal
use Rattle.engraving.proofs.voice.Voice.print_bars.Goals.{then-gone-eq0, else-gone-eq0}
use Rattle.engraving.proofs.voice.Voice.print_bars.Goals.{After-row-row, In-Some, In-None, Then-begun-layout}

pub returns-then-count-eq0 : goal.returns-then-count-eq0
unfolding each
returns-then-count-eq0 c =
    let e = ap symbols_bytes (none_asked c.args.self.layout.bar (voice_in c.args.self.rows) c.args.signs.now c.args.begin.event c.args.begin.skip c.args.count c.if-count-eq0.true) in
    record { wrote = ap (λ (bs : List ℕ). bs ++ c.args.out.now) (sym e); many = ap length (sym e) }

pub events-init : goal.events-init
events-init c =
    let g = c.reach-event.ensures in (
      starts _ _ _ (starts_voice c.args.self.rows c.args.self.layout.bar c.args.signs.now c.reach-event.result.event c.reach-event.result.skip c.args.count ∙ sym (g.same c.args.signs.now c.args.count)),
      omega (arith, c.args.self.ready.some),
      refl,
      omega arith,
      g.within,
      g.thirds,
    )

-- the event of this turn
this : (c : After-row-row) → Turn (events_from c.args.self.rows c.events.i) c.row-row.result (events_from c.args.self.rows (c.events.i + 1))
this c = turn c.args.self.rows c.args.self.layout c.events.i c.row-row.result c.args.self.ready c.events-test.true c.row-row.ensures

-- of which no more is gone than it lasts
lasts : (c : After-row-row) → c.events.gone ≤ c.row-row.result.length
lasts c = let l = ap (λ (w : Row). w.length) c.row-row.ensures in omega (arith, l)

pub overflow_sub-left : goal.overflow_sub-left
overflow_sub-left c = lasts (goal.at.overflow_sub-left c).After-row-row

pub bars-init : goal.bars-init
bars-init c =
    let t = this (goal.at.bars-init c).After-row-row in
    let h = lasts (goal.at.bars-init c).After-row-row in
    elim c.if-gone-eq0.branch [
      | then-gone-eq0 w ↦
          simp w.sign-is (
            enter (owing _ c.events.invariant.0 (begin_turn _ _ _ c.events.i c.args.signs.now c.events.more t (omega arith) h w.if-gone-eq0.true)),
            omega arith,
            omega arith,
            omega (arith, t.words.three, h),
            c.requires.signed.small c.events.i,
            omega arith,
            omega arith,
          )
      | else-gone-eq0 w ↦
          simp w.sign-is (
            enter (owing _ c.events.invariant.0 (middle_turn _ _ _ c.events.i c.args.signs.now c.events.more t (omega arith) h w.if-gone-eq0.false)),
            omega arith,
            omega arith,
            omega (arith, t.words.three, h),
            omega arith,
            omega arith,
            omega arith,
          )
    ]

pub symbol_of-requires-clause-place : goal.symbol_of-requires-clause-place
symbol_of-requires-clause-place c = (this (goal.at.symbol_of-requires-clause-place c).After-row-row).words.place

-- before the first value of a bar
pub values-init : goal.values-init
values-init c =
    let g = c.part_in_bar-part.ensures in (
      enter (owing _ c.bars.invariant.0 (part_begins _ _ _ _ c.part_in_bar-part.result _ _ _ _ g.within)),
      part_turn _ _ _ _ g (omega arith) c.args.self.ready.thirds (omega arith) (omega arith),
      omega arith,
      omega arith,
      part_values _ _ _ (search rules) g.within,
    )

-- a value as it comes next
value : (c : In-Some) →
    Value c.args.self.layout.bar (c.bars.begun + c.part_in_bar-part.result) (c.bars.left - c.part_in_bar-part.result) c.row-row.result.place c.values.sign c.values.left c.in-Some.value
    (pieces c.next.new.self.0 c.next.new.self.0) (events_from c.args.self.rows (c.events.i + 1)) (drop (c.events.i + 1) c.args.signs.now) c.bars.more
value c = value_turn _ _ _ _ _ _ _ _ _ _ _ c.bars.more c.values.invariant.1 c.args.self.ready.thirds (omega arith) c.values.invariant.4 c.in-Some.ensures.steps

pub overflow_sub-left-in-values : goal.overflow_sub-left-in-values
overflow_sub-left-in-values c = (value (goal.at.overflow_sub-left-in-values c).In-Some).within

pub overflow_add-begun : goal.overflow_add-begun
overflow_add-begun c = let g = c.part_in_bar-part.ensures in omega (arith, g.fits)

pub symbol_of-requires-clause-value : goal.symbol_of-requires-clause-value
symbol_of-requires-clause-value c = let v = value (goal.at.symbol_of-requires-clause-value c).In-Some in omega (arith, v.small)

pub write-at-requires : goal.write-at-requires
write-at-requires c = room _ _ c.values.invariant.0 (value (goal.at.write-at-requires c).In-Some).owes (omega arith)

pub values-preserved : goal.values-preserved
values-preserved c =
    let v = value (goal.at.values-preserved c).In-Some in (
      write _ _ c.write-at.new.out c.write-at.result c.values.invariant.0 v.owes (omega arith) c.write-at.ensures.many
          (c.write-at.ensures.wrote ∙ ap (λ (x : Symbol). symbol_bytes x ++ drop c.write-at.result (take (length c.values.out - c.values.at) (drop c.values.at c.values.out))) c.symbol_of.ensures),
      v.part,
      omega arith,
      omega arith,
      v.then,
    )

-- behind the values of a bar, the bar is full or the event has ended
over : (c : In-None) → c.values.left ≡ c.bars.left - c.part_in_bar-part.result
over c = values_turn _ _ _ _ _ c.values.invariant.1 c.values.invariant.4 c.in-None.ensures.steps.0

behind : (c : In-None) →
    Page (whole_of c.args.self.rows c.args.self.layout c.args.signs.now c.args.begin c.args.count) c.bars.out c.values.out c.values.at
    (in_event c.args.self.layout.bar (c.bars.begun + c.part_in_bar-part.result) c.row-row.result.place c.values.sign c.values.left (events_from c.args.self.rows (c.events.i + 1)) (drop (c.events.i + 1) c.args.signs.now) c.bars.more)
behind c = owing _ c.values.invariant.0 (part_over _ _ _ _ _ _ _ _ _ (over c))

-- a bar line as it comes next
line : (c : Then-begun-layout) →
    in_event c.args.self.layout.bar (c.bars.begun + c.part_in_bar-part.result) c.row-row.result.place c.values.sign c.values.left (events_from c.args.self.rows (c.events.i + 1)) (drop (c.events.i + 1) c.args.signs.now) c.bars.more
    ≡ bar ∷ in_event c.args.self.layout.bar 0 c.row-row.result.place c.values.sign c.values.left (events_from c.args.self.rows (c.events.i + 1)) (drop (c.events.i + 1) c.args.signs.now) (c.bars.more - 1)
line c = line_turn _ _ _ _ _ _ _ c.bars.more (omega (arith, c.args.self.ready.some)) c.if-begun-layout.true (omega arith)

pub write-at-requires-then-begun-layout : goal.write-at-requires-then-begun-layout
write-at-requires-then-begun-layout c =
    let l = (goal.at.write-at-requires-then-begun-layout c).Then-begun-layout in
    room _ _ (behind (goal.at.write-at-requires-then-begun-layout c).In-None) (line l) (omega arith)

pub bars-preserved-else-more-eq0 : goal.bars-preserved-else-more-eq0
bars-preserved-else-more-eq0 c =
    let e = line (goal.at.bars-preserved-else-more-eq0 c).Then-begun-layout in
    let w = write _ _ c.write-at-then-begun-layout.new.out c.write-at-then-begun-layout.result (behind (goal.at.bars-preserved-else-more-eq0 c).In-None) e (omega arith) c.write-at-then-begun-layout.ensures.many c.write-at-then-begun-layout.ensures.wrote in (
      leave c.bars.at w c.bars.invariant.0.back (omega arith),
      omega (arith, c.args.self.ready.some),
      refl,
      omega (arith, c.values.invariant.1.left_three),
      omega arith,
      omega arith,
      omega arith,
    )

shorter : (c : In-None) → c.values.left < c.bars.left
shorter c =
    let o = over c in
    let g = c.part_in_bar-part.ensures in
    omega (arith, g.some (omega arith) (omega arith))

pub bars-smaller : goal.bars-smaller
bars-smaller c = shorter (goal.at.bars-smaller c).In-None

pub bars-smaller-else-more-eq0 : goal.bars-smaller-else-more-eq0
bars-smaller-else-more-eq0 c = shorter (goal.at.bars-smaller-else-more-eq0 c).In-None

pub bars-preserved : goal.bars-preserved
bars-preserved c =
    let w = c.values.invariant.1 in
    (leave c.bars.at (behind (goal.at.bars-preserved c).In-None) c.bars.invariant.0.back (omega arith), omega (arith, w.within), w.three, w.left_three, omega arith, omega arith, omega arith)

pub events-preserved : goal.events-preserved
events-preserved c =
    let o = (this (goal.at.events-preserved c).After-row-row).others in (
      leave c.events.at (owing _ c.bars.invariant.0 (end_turn _ _ _ _ _ _ _ _ o (omega arith) (omega arith))) c.events.invariant.0.back (omega arith),
      omega arith,
      omega arith,
      omega arith,
      omega arith,
      refl,
    )

pub returns-after-events : goal.returns-after-events
returns-after-events c =
    let a = all c.events.invariant.0 (no_event _ _ _ _ c.args.self.rows c.events.i _ c.events-test.false c.args.self.ready.same_places) in
    record { wrote = a.0; many = a.1 }

pub returns-then-more-eq0 : goal.returns-then-more-eq0
returns-then-more-eq0 c =
    let e = line (goal.at.returns-then-more-eq0 c).Then-begun-layout in
    let w = write _ _ c.write-at-then-begun-layout.new.out c.write-at-then-begun-layout.result (behind (goal.at.returns-then-more-eq0 c).In-None) e (omega arith) c.write-at-then-begun-layout.ensures.many c.write-at-then-begun-layout.ensures.wrote in
    let a = all (leave {was = c.args.out.now} c.events.at (leave {was = c.events.out} c.bars.at w c.bars.invariant.0.back (omega arith)) c.events.invariant.0.back (omega arith)) (no_bar _ _ _ _ _ _ _ _ c.if-more-eq0.true) in
    record { wrote = a.0; many = a.1 }
