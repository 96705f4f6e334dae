-- A score without events over the front of the lent memory.
use Rattle.std.proofs.Common.{◌≡◌, ◌-◌, ◌≤◌, length, replicate, ap, ◌∙◌, arith}
use Rattle.std.proofs.lemmas.List.{length-take-le}
use Rattle.session.proofs.Openings.{sized, opened, opens_good}
use Rattle.session.proofs.open.Goals as goal

pub returns : goal.returns
returns c =
    let s = sized c.args.opening c.in_ok-asked.asked c.in_ok-taken.field-0 (length c.args.words.now) (length c.args.bytes.now) c.in_ok-asked.ensures c.in_ok-taken.ensures in
    let n : c.in_ok-taken.field-0.bytes - 0 ≡ c.in_ok-taken.field-0.bytes = omega arith in
    let within : c.in_ok-taken.field-0.bytes - 0 ≤ length c.args.bytes.now = omega (arith, s.bytes_room) in
    let zeros : c.fill.new.self ≡ replicate c.in_ok-taken.field-0.bytes 0 =
    c.fill.ensures.after (λ y h. h) ∙ ap (λ m. replicate m 0) (length-take-le _ _ within ∙ n) in
    record {
      said = s.said;
      left = opened c.args.opening _ _ _ _ _ _ s.fits s.words_are s.bytes_are c.lay_out.ensures.left zeros;
    }

pub lay_out-requires : goal.lay_out-requires
lay_out-requires c =
    let s = sized c.args.opening c.in_ok-asked.asked c.in_ok-taken.field-0 (length c.args.words.now) (length c.args.bytes.now) c.in_ok-asked.ensures c.in_ok-taken.ensures in
    let g = opens_good c.args.opening s.fits in
    let n : c.in_ok-taken.field-0.words - 0 ≤ length c.args.words.now = omega (arith, s.words_room) in
    let z : c.in_ok-taken.field-0.words - 0 ≡ c.in_ok-taken.field-0.words = omega arith in
    record { layout = g.0; limits = g.1; size = length-take-le _ _ n ∙ z ∙ s.words_are }
