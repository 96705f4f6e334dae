-- A question leaves the words as they were.
use Rattle.std.proofs.Common.{ap}
use Rattle.score.specs.Meaning.{call_meant}
use Rattle.session.proofs.Asking.{shown, heard, measured}
use Rattle.session.proofs.answers.answer.Goals as goal

pub returns-in-Show-clause-left : goal.returns-in-Show-clause-left
returns-in-Show-clause-left c = shown c.args.score.now.words.now c.args.score.now.holds (call_meant c.args.call) _ _ _ (ap call_meant c.in-Show.is)

pub returns-in-HeardIn-clause-left : goal.returns-in-HeardIn-clause-left
returns-in-HeardIn-clause-left c = heard c.args.score.now.words.now c.args.score.now.holds (call_meant c.args.call) _ _ (ap call_meant c.in-HeardIn.is)

pub returns-in-HowLong-clause-left : goal.returns-in-HowLong-clause-left
returns-in-HowLong-clause-left c = measured c.args.score.now.words.now c.args.score.now.holds (call_meant c.args.call) _ (ap call_meant c.in-HowLong.is)
