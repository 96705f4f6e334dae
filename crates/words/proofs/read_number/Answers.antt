-- The number ends, or grows too large.
use Rattle.std.proofs.Common.{sym, ◌∙◌}
use Rattle.words.proofs.Steps.{number_begun, digit_too_much, digits_over}
use Rattle.words.proofs.read_number.Goals as goal

pub returns-then-next-most-clause-read : goal.returns-then-next-most-clause-read
returns-then-next-most-clause-read c =
    let f = c.in-Some-digit.ensures in
    sym (digit_too_much _ _ _ _ _ f.0 f.1 c.if-next-most.true) ∙ c.loop-d.invariant.0 ∙ number_begun _ _ _ _ c.in-Some.ensures.0 c.in-Some.ensures.1

pub returns-clause-read : goal.returns-clause-read
returns-clause-read c =
    sym (digits_over _ _ _ c.in_default-digit.ensures) ∙ c.loop-d.invariant.0 ∙ number_begun _ _ _ _ c.in-Some.ensures.0 c.in-Some.ensures.1
