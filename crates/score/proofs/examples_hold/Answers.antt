-- The worked examples are computed.
use Rattle.std.proofs.Common.{refl}
use Rattle.score.specs.Music.{heard, of_step}
use Rattle.score.specs.Print.{print, chunks, heads, rests, pieces, as_values, largest, has_line, has_value, among}
use Rattle.score.specs.Examples.{WorkedExamples}
use Rattle.score.proofs.examples_hold.Goals as goal

computed : WorkedExamples
unfolding heard of_step print chunks heads rests pieces as_values largest has_line has_value among
computed = (refl, refl, refl, refl)

pub returns : goal.returns
returns c = computed
