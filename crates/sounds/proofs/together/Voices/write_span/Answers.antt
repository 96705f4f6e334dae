-- What the slots tell is what is heard together, and there is room for it.
use Rattle.std.proofs.Common.{◌≡◌, ◌*◌, ◌++◌, length, drop, ap, ◌∙◌, arith}
use Rattle.score.specs.Calls.{together}
use Rattle.wire.specs.Bytes.{sounds_bytes}
use Rattle.memory.proofs.Fields.{few_together}
use Rattle.sounds.specs.Spans.{Row}
use Rattle.sounds.specs.Scores.{score_in, all_left}
use Rattle.sounds.proofs.Whole.{span_heard}
use Rattle.sounds.proofs.together.Voices.write_span.Goals as goal
use Rattle.sounds.proofs.together.Voices.write_span.Goals.{After-mark-cursors}

-- what is left of the voices when all are marked
whole : (c : After-mark-cursors) → all_left c.args.self c.mark-cursors.result c.mark-cursors.new.slots ≡ together (score_in c.args.self) 0 c.args.from c.args.to
whole c =
    c.mark-cursors.ensures.whole
    ∙ span_heard (score_in c.args.self) c.args.from c.args.to c.of-slots.result.first c.of-slots.result.count c.args.self.laid.fines c.of-slots.ensures.first c.of-slots.ensures.count

pub write_alone-requires-clause-room : goal.write_alone-requires-clause-room
write_alone-requires-clause-room c = omega (arith, c.requires.room, few_together (score_in c.args.self) 0 c.args.from c.args.to)

pub write-requires-clause-room : goal.write-requires-clause-room
write-requires-clause-room c =
    let all = ap length (whole (goal.at.write-requires-clause-room c).After-mark-cursors) in
    omega (arith, all, c.requires.room, few_together (score_in c.args.self) 0 c.args.from c.args.to)

pub returns : goal.returns
returns c =
    let all = whole (goal.at.returns c).After-mark-cursors in record {
      wrote = c.write.ensures.wrote ∙ ap (λ (xs : Row). sounds_bytes xs ++ drop (8 * c.write.result) c.args.out.now) all;
      many = c.write.ensures.many ∙ ap length all;
    }
