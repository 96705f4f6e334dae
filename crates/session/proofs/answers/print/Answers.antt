-- The bars that are asked for, and that they are not more than a page.
use Rattle.std.proofs.Common.{◌≡◌, ◌≤◌, length, get_or, arith, rules}
use Rattle.memory.specs.Words.{events_at}
use Rattle.engraving.specs.Shown.{shown, page_bytes}
use Rattle.engraving.proofs.Room.{page_enough}
use Rattle.session.proofs.answers.print.Goals as goal

pub returns : goal.returns
returns c =
    let w = c.args.score.words.now in
    let y = c.args.score.holds.proper.good_layout in
    let es = events_at w c.args.span.begin c.args.span.count in
    let most : length (shown (get_or w 0 0) (get_or w 1 0) es c.args.bar c.args.count) ≤ page_bytes =
    page_enough (get_or w 0 0) (get_or w 1 0) es c.args.bar c.args.count y.1 y.3 c.requires.fine y.2 c.requires.few in
    let many : c.engrave_page.result ≡ length (shown (get_or w 0 0) (get_or w 1 0) es c.args.bar c.args.count) = search rules in
    record { wrote = search rules; many = many; small = omega (arith, most, many) }
