-- A span is turned away, or its sounds are written behind their head.
use Rattle.std.proofs.Common.{ℕ, ◌+◌, ◌-◌, ◌*◌, ◌≤◌, length, take, drop, subst, arith}
use Rattle.std.proofs.lemmas.List.{take_rest, length-drop}
use Rattle.score.specs.Calls.{refused, heard_in, widest_span, place}
use Rattle.memory.specs.Store.{limit_in}
use Rattle.memory.proofs.Outcomes.{heard_too_wide}
use Rattle.session.specs.Session.{Says}
use Rattle.session.proofs.Saying.{kept, not_kept, says, hear_says}
use Rattle.session.proofs.answers.hear.Goals as goal

pub returns-in_default : goal.returns-in_default
unfolding place
returns-in_default c =
    says _ _ _ _ (refused 2 0) _ (heard_too_wide c.args.score.words.now c.args.score.holds c.args.from c.args.to (omega (arith, not_kept _ c.args.to widest_span c.in_default.ensures, c.saturating_sub.ensures))).said
    c.write_refused.ensures.wrote c.write_refused.ensures.many

pub heard_in-notes-requires : goal.heard_in-notes-requires
heard_in-notes-requires c =
    let f = kept _ c.args.to c.in-Some.to widest_span c.in-Some.ensures in
    let near : c.in-Some.to ≤ c.args.from + widest_span = omega (arith, f.0, f.1, c.saturating_sub.ensures) in
    let b = c.args.bytes.now in
    let room : 8 * limit_in c.args.score.words.now ≤ length (take (length b - 5) (drop 5 b)) = rw (take_rest b 5, length-drop 5 b) (omega (arith, c.requires)) in
    record { span = near; room = room }

pub returns : goal.returns
returns c =
    let f = kept _ c.args.to c.in-Some.to widest_span c.in-Some.ensures in
    let near : c.in-Some.to ≤ c.args.from + widest_span = omega (arith, f.0, f.1, c.saturating_sub.ensures) in
    let w = c.args.score.words.now in
    let b = c.args.bytes.now in
    let five : 5 ≤ length b = omega (arith, c.requires) in
    let hears : Says w b c.write_answer.new.out (heard_in c.args.from c.in-Some.to) (c.write_answer.result + 8 * c.heard_in-notes.result) =
    hear_says w b _ c.args.from c.in-Some.to c.heard_in-notes.result c.write_answer.result _ c.args.score.holds near
    five c.heard_in-notes.ensures.wrote c.heard_in-notes.ensures.many c.write_answer.ensures.many c.write_answer.ensures.wrote in
    subst (λ (n : ℕ). Says w b c.write_answer.new.out (heard_in c.args.from n) (c.write_answer.result + 8 * c.heard_in-notes.result)) f.0 hears
