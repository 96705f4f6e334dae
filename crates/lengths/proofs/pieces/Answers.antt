-- There is room for each value, and in the end all of them are written. Assumes nothing.
use Rattle.std.proofs.Common.{◌≡◌, ◌<◌, ◌++◌, length, drop, sym, refl, ap, ◌∙◌, arith, rules}
use Rattle.score.specs.Print.{pieces}
use Rattle.lengths.proofs.Drawing.{few, start, room, write, done, written}
use Rattle.lengths.proofs.pieces.Goals as goal
use Rattle.lengths.proofs.pieces.Goals.{In-Some, In-None}

pub loop-value-init : goal.loop-value-init
loop-value-init c = start c.args.n 0 c.into_iter-value-iterator.result.0 c.args.out.now refl (search rules)

-- there is room for the value that was found
fits : (c : In-Some) → c.loop-value.at < length c.loop-value.out
fits c = room c.args.n c.loop-value.at c.loop-value.value-iterator.0 c.args.out.now c.loop-value.out _ _ c.loop-value.invariant (omega arith) c.in-Some.ensures.steps

pub offset_bounds-out-at : goal.offset_bounds-out-at
offset_bounds-out-at c = let h = fits c in omega arith

pub bounds-out-at : goal.bounds-out-at
bounds-out-at c = fits c

pub overflow_add-at : goal.overflow_add-at
overflow_add-at c = let h = fits c in omega arith

pub loop-value-preserved : goal.loop-value-preserved
loop-value-preserved c = write c.args.n c.loop-value.at c.loop-value.value-iterator.0 c.next.new.self.0 c.args.out.now c.loop-value.out c.in-Some.value c.loop-value.invariant (omega arith) c.in-Some.ensures.steps

-- when no value is left, all are written
many : (c : In-None) → c.loop-value.at ≡ length (pieces c.args.n c.args.n)
many c = written c.args.n c.loop-value.at c.loop-value.value-iterator.0 c.args.out.now c.loop-value.out c.loop-value.invariant c.in-None.ensures.steps.0

pub returns-clause-wrote : goal.returns-clause-wrote
returns-clause-wrote c =
    done c.args.n c.loop-value.at c.loop-value.value-iterator.0 c.args.out.now c.loop-value.out c.loop-value.invariant c.in-None.ensures.steps.0
    ∙ ap (λ i. pieces c.args.n c.args.n ++ drop i c.args.out.now) (sym (many c))

pub returns-clause-many : goal.returns-clause-many
returns-clause-many c = many c

pub returns-clause-few : goal.returns-clause-few
returns-clause-few c = omega (arith, many c, few c.args.n)
