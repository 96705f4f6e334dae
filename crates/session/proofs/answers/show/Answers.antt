-- A show is turned away, or its bars are written behind their head.
use Rattle.std.proofs.Common.{◌≡◌, ℕ, ◌+◌, ◌-◌, ◌≤◌, true, length, take, drop, ap, ◌∙◌, subst, arith}
use Rattle.score.specs.Music.{all_fine}
use Rattle.score.specs.Calls.{refused, show, most_bars, place}
use Rattle.std.proofs.lemmas.List.{take_rest, length-drop}
use Rattle.memory.specs.Store.{score_of}
use Rattle.memory.specs.Words.{Holds, events_at}
use Rattle.memory.proofs.Outcomes.{show_too_many, show_no_voice}
use Rattle.memory.proofs.Scores.{fines_voice}
use Rattle.engraving.specs.Shown.{page_bytes}
use Rattle.session.specs.Session.{Says}
use Rattle.session.proofs.Saying.{kept, not_kept, says, show_says}
use Rattle.session.proofs.answers.show.Goals as goal

pub returns-in_default : goal.returns-in_default
unfolding place
returns-in_default c =
    says _ _ _ _ (refused 2 0) _ (show_too_many c.args.score.words.now c.args.score.holds c.args.voice c.args.bar c.args.count (not_kept c.args.count c.args.count most_bars c.in_default.ensures)).said
    c.write_refused.ensures.wrote c.write_refused.ensures.many

pub returns-in_default-find_voice : goal.returns-in_default-find_voice
unfolding place
returns-in_default-find_voice c =
    let f = kept c.args.count c.args.count c.in-Some.count most_bars c.in-Some.ensures in
    says _ _ _ _ (refused 4 c.args.voice) _
    (show_no_voice c.args.score.words.now c.args.score.holds c.args.voice c.args.bar c.args.count f.1 c.in_default-find_voice.ensures).said
    c.write_refused-in_default-find_voice.ensures.wrote c.write_refused-in_default-find_voice.ensures.many

pub print-long-requires : goal.print-long-requires
print-long-requires c =
    let f = kept c.args.count c.args.count c.in-Some.count most_bars c.in-Some.ensures in
    let s = c.in-Some-find_voice.ensures in
    let w = c.args.score.words.now in
    let b = c.args.bytes.now in
    let holds : Holds w = c.args.score.holds in
    let fine : all_fine (events_at w c.in-Some-find_voice.span.begin c.in-Some-find_voice.span.count) ≡ true =
    ap all_fine s.events ∙ fines_voice (score_of w) c.args.voice holds.proper.kept.fines in
    let room : page_bytes ≤ length (take (length b - 5) (drop 5 b)) = rw (take_rest b 5, length-drop 5 b) (omega (arith, c.requires)) in
    record { within = s.within; kept = s.kept_with; fine = fine; few = omega (arith, f.0, f.1); room = room }

pub returns : goal.returns
returns c =
    let f = kept c.args.count c.args.count c.in-Some.count most_bars c.in-Some.ensures in
    let w = c.args.score.words.now in
    let b = c.args.bytes.now in
    let five : 5 ≤ length b = omega (arith, c.requires) in
    let shows : Says w b c.write_answer.new.out (show c.args.voice c.args.bar c.in-Some.count) _ =
    show_says w b _ c.args.voice c.args.bar c.in-Some.count _ _ c.print-long.result c.write_answer.result _
    c.args.score.holds c.in-Some-find_voice.ensures (omega (arith, f.0, f.1))
    five c.print-long.ensures.wrote c.print-long.ensures.many c.write_answer.ensures.many c.write_answer.ensures.wrote in
    subst (λ (n : ℕ). Says w b c.write_answer.new.out (show c.args.voice c.args.bar n) (c.write_answer.result + c.print-long.result)) f.0 shows
