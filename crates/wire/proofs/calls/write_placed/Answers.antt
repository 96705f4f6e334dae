-- The event is written behind the number and the fields.
use Rattle.std.proofs.Common.{◌∷◌, ◌++◌, sym, arith}
use Rattle.score.specs.Meaning.{event_meant}
use Rattle.wire.specs.Bytes.{four, event_bytes, each}
use Rattle.wire.proofs.Written.{put_next}
use Rattle.wire.proofs.calls.write_placed.Goals as goal

pub returns : goal.returns
unfolding each
returns c =
    record {
      wrote =
          put_next c.write_fields-at.new.out c.args.out.now (c.args.number ∷ (four c.args.voice ++ four c.args.index))
          (event_bytes (event_meant c.args.event)) c.write_event.new.out c.write_fields-at.result c.write_event.result
          c.write_fields-at.ensures.wrote (sym c.write_fields-at.ensures.many) c.write_event.ensures.wrote;
      many = omega arith;
    }
