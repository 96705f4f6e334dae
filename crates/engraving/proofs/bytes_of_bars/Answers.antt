-- Each turn passes one symbol.
use Rattle.std.proofs.Common.{◌≡◌, ◌+◌, length, sym, ap, ◌∙◌, arith, length-append}
use Rattle.std.specs.Slice.Iter.{chunks_exact_rest}
use Rattle.score.proofs.Picks.{pick_true, pick_false}
use Rattle.engraving.proofs.Parts.{bars_on, bar_read, bars_end, bars_none}
use Rattle.engraving.proofs.bytes_of_bars.Goals as goal

pub returns-then-more-eq0-clause-is : goal.returns-then-more-eq0-clause-is
returns-then-more-eq0-clause-is c =
    let e = bars_none c.loop-passed.more (chunks_exact_rest c.loop-passed.passed-iterator.iter) c.if-more-eq0.true in
    omega (arith, e, c.in-Some.ensures.steps.1)

pub loop-passed-preserved-then-eq : goal.loop-passed-preserved-then-eq
loop-passed-preserved-then-eq c =
    let s = c.in-Some.ensures.steps in
    let e = bars_on _ c.in-Some.symbol.now (chunks_exact_rest c.next.new.self.iter) c.loop-passed.more _ s.0.1.0 (omega arith) (omega arith) (sym (pick_true _ _ _ (sym (bar_read c.in-Some.symbol.now c.read.result (omega arith) c.read.ensures.said) ∙ sym c.eq.ensures ∙ c.if-eq.true))) in
    let l : length (chunks_exact_rest c.loop-passed.passed-iterator.iter) ≡ 5 + length (chunks_exact_rest c.next.new.self.iter) = omega (arith, ap length s.0.1.0, length-append c.in-Some.symbol.now (chunks_exact_rest c.next.new.self.iter)) in
    (c.in-Some.ensures.goes.keeps, tt, omega arith, omega arith, omega (arith, e))

pub loop-passed-preserved : goal.loop-passed-preserved
loop-passed-preserved c =
    let s = c.in-Some.ensures.steps in
    let e = bars_on _ c.in-Some.symbol.now (chunks_exact_rest c.next.new.self.iter) c.loop-passed.more _ s.0.1.0 (omega arith) (omega arith) (sym (pick_false _ _ _ (sym (bar_read c.in-Some.symbol.now c.read.result (omega arith) c.read.ensures.said) ∙ sym c.eq.ensures ∙ c.if-eq.false))) in
    let l : length (chunks_exact_rest c.loop-passed.passed-iterator.iter) ≡ 5 + length (chunks_exact_rest c.next.new.self.iter) = omega (arith, ap length s.0.1.0, length-append c.in-Some.symbol.now (chunks_exact_rest c.next.new.self.iter)) in
    (c.in-Some.ensures.goes.keeps, tt, omega arith, omega arith, omega (arith, e))

pub returns-clause-is : goal.returns-clause-is
returns-clause-is c =
    let l = c.in-None.ensures.steps.0.1.0 in
    let e = bars_end c.loop-passed.more (chunks_exact_rest c.loop-passed.passed-iterator.iter) (omega (arith, l)) in
    omega (arith, e, l)
