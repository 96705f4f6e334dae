-- The first of each row, or none where one of them is over.
use Rattle.std.proofs.Common.{rules, refl, arith}
use Rattle.rows.proofs.Zipped.{no_places, no_alterations, no_lengths}
use Rattle.rows.specs.Rows.{zipped}
use Rattle.rows.proofs.RowsIterator.next.Goals as goal

pub returns-in_err-place-clause-steps : goal.returns-in_err-place-clause-steps
returns-in_err-place-clause-steps c = let e = no_places _ c.args.self.now.alterations.now c.args.self.now.lengths.now c.in_err-place.ensures.cases in search rules

pub returns-in_err-alteration-clause-steps : goal.returns-in_err-alteration-clause-steps
returns-in_err-alteration-clause-steps c = let e = no_alterations c.args.self.now.places.now _ c.args.self.now.lengths.now c.in_err-alteration.ensures.cases in search rules

pub returns-in_err-length-clause-steps : goal.returns-in_err-length-clause-steps
returns-in_err-length-clause-steps c = let e = no_lengths c.args.self.now.places.now c.args.self.now.alterations.now _ c.in_err-length.ensures.cases in search rules

pub returns-clause-steps : goal.returns-clause-steps
unfolding zipped
returns-clause-steps c = rw (c.in_ok-place.ensures.cases.0, c.in_ok-alteration.ensures.cases.0, c.in_ok-length.ensures.cases.0) (refl, λ e. (omega (arith, e.0), omega (arith, e.1)), (refl, refl, refl))

pub returns-clause-goes : goal.returns-clause-goes
unfolding zipped
returns-clause-goes c = rw (c.in_ok-place.ensures.cases.0, c.in_ok-alteration.ensures.cases.0, c.in_ok-length.ensures.cases.0) (search rules)
