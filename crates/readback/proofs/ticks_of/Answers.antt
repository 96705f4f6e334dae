-- Ticks are counted event by event, and the first event that cannot be written ends it.
use Rattle.std.proofs.Common.{sym, ◌∙◌, inl, inr, arith}
use Rattle.std.proofs.lemmas.Bool.{cases_lt}
use Rattle.score.specs.Calls.{ticks_end}
use Rattle.readback.proofs.Events.{fine_more, fine_not, total_more, none_left, not_writable, too_long, is_measured}
use Rattle.readback.proofs.ticks_of.Goals as goal

pub returns-then-not-is_fine : goal.returns-then-not-is_fine
returns-then-not-is_fine c =
    not_writable c.args.rows (sym c.loop-row.invariant.0 ∙ fine_not c.loop-row.row-iterator c.next.new.self c.in-Some.row c.in-Some.ensures.steps.0 c.if-not-is_fine.ensures)

pub loop-row-preserved : goal.loop-row-preserved
loop-row-preserved c =
    let f = fine_more c.loop-row.row-iterator c.next.new.self c.in-Some.row c.in-Some.ensures.steps.0 c.if-not-is_fine.ensures ∙ c.loop-row.invariant.0 in
    let m = total_more c.loop-row.row-iterator c.next.new.self c.in-Some.row c.in-Some.ensures.steps.0 in (
      f,
      (λ h. omega (arith, c.saturating_add-ticks.ensures)),
      (λ h. elim (cases_lt c.loop-row.ticks ticks_end) [
        | inl l ↦ let e = c.loop-row.invariant.1 l in omega (arith, c.saturating_add-ticks.ensures)
        | inr g ↦ c.loop-row.invariant.2 g
      ]),
    )

pub returns-then-ticks-ge-TICKS_END : goal.returns-then-ticks-ge-TICKS_END
returns-then-ticks-ge-TICKS_END c =
    let n = none_left c.loop-row.row-iterator c.in-None.ensures.steps.0.0 in
    too_long c.args.rows (omega arith) (omega arith) (sym c.loop-row.invariant.0 ∙ n.0) (c.loop-row.invariant.2 c.if-ticks-ge-TICKS_END.true)

pub returns : goal.returns
returns c =
    let n = none_left c.loop-row.row-iterator c.in-None.ensures.steps.0.0 in
    let e = c.loop-row.invariant.1 c.if-ticks-ge-TICKS_END.false in
    is_measured c.args.rows c.loop-row.ticks (omega arith) (omega arith) (sym c.loop-row.invariant.0 ∙ n.0) (omega arith) c.if-ticks-ge-TICKS_END.false
