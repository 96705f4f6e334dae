-- A voice that is not there is refused, and else its ticks are told.
use Rattle.std.proofs.Common.{ℕ, List, sym, ap, ◌∙◌, arith}
use Rattle.score.specs.Music.{total}
use Rattle.score.specs.Calls.{number, told, place, voice}
use Rattle.memory.specs.Store.{score_of}
use Rattle.memory.proofs.Outcomes.{long_no_voice, long_done}
use Rattle.voices.proofs.reading.Stored.how_long.Goals as goal

pub returns-in_default : goal.returns-in_default
unfolding place
returns-in_default c = sym (long_no_voice c.args.self.words.now c.args.self.holds c.args.voice c.in_default.ensures).said

pub returns : goal.returns
unfolding told
returns c =
    let w : List ℕ = c.args.self.words.now in
    let there = c.in-Some.ensures in
    ap number (c.ticks_of.ensures.value ∙ ap (λ n. total (voice (score_of w) n)) there.0)
    ∙ sym (long_done w c.args.self.holds c.args.voice (omega (arith, there.0, there.1))).said
