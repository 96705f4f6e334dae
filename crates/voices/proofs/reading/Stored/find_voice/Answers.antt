-- A voice that is there begins behind the events before it.
use Rattle.std.proofs.Common.{ℕ, ◌+◌, List, get_or, take, ap, ◌∙◌, arith}
use Rattle.score.specs.Calls.{all_events}
use Rattle.memory.specs.Store.{score_of}
use Rattle.memory.proofs.Held.{spans}
use Rattle.voices.proofs.reading.Stored.find_voice.Goals as goal

pub returns : goal.returns
returns c =
    let w : List ℕ = c.args.self.words.now in
    let there = c.in_ok-index.ensures in
    spans w c.args.self.holds c.args.voice _ _ (omega (arith, there.0, there.1))
    (c.events_before-begin.ensures.value ∙ ap (λ n. all_events (take n (score_of w))) there.0) (ap (λ n. get_or w (4 + n) 0) there.0)
