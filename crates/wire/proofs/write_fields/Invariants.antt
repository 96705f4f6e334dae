-- The numbers before the index are written behind the kind, and what is behind them is as it was.
use Rattle.std.proofs.Common.{◌≡◌, ◌+◌, ◌*◌, ◌∷◌, ◌++◌, take, drop}
use Rattle.wire.specs.Bytes.{four, each}
use Rattle.wire.proofs.write_fields.Given as goal

abbrev pub invariant-loop-field : goal.invariant-loop-field
invariant-loop-field l =
    record {
      wrote : l.out ≡ (l.kind ∷ each four (take l.field-index l.fields)) ++ drop l.at l.fn.out;
      many : l.at ≡ 4 * l.field-index + 1;
    }
