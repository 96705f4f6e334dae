-- Four numbers are a record, and fewer are none.
use Rattle.std.proofs.Common.{length, ap, rules}
use Rattle.records.proofs.Numbers.{first_record, no_record}
use Rattle.records.proofs.RecordsIterator.next.Goals as goal

pub returns-in_default-clause-steps : goal.returns-in_default-clause-steps
returns-in_default-clause-steps c = let e = no_record c.args.self.now.numbers.now c.in_default.len_below in (e, e)

pub returns-clause-steps : goal.returns-clause-steps
returns-clause-steps c = first_record c.args.self.now.numbers.now c.in-len4-up.len_at_least

pub returns-clause-goes : goal.returns-clause-goes
returns-clause-goes c = let e = first_record c.args.self.now.numbers.now c.in-len4-up.len_at_least in let n = ap length e in search rules
