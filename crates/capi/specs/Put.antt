-- Records that are put into lent words, and what is told of it. Assumes nothing: these are definitions.
use Rattle.std.specs.Prelude.{◌≡◌, ℕ, ◌≤◌, List, ◌++◌, length, take, drop, ℤ, pos}
use Rattle.memory.specs.Words.{Holds}
use Rattle.session.specs.Session.{words_taken, bytes_taken}
use Rattle.records.specs.Records.{Outcome, records_of, entered, SoManyPuts}
use Rattle.capi.specs.Signed.{signed}

-- words as opening and each call leave them
pub record ReadyWords (w : List ℕ) : Type 0 where
  pub holds : Holds (take (words_taken w) w)
  pub room : words_taken w ≤ length w

-- what comes of numbers in the words that the score takes
abbrev pub outcome : List ℕ → List ℕ → Outcome
outcome w ns = entered (take (words_taken w) w) ns

-- records were put: the score's words are those that came of it, and all behind them are as they were; how many is told, and what turned the next away
pub record RecordsPut (w ns w' : List ℕ) (next count : ℤ) : Type 0 where
  pub words : w' ≡ (outcome w ns).words ++ drop (words_taken w) w
  pub many : count ≡ pos (outcome w ns).count
  pub turned : next ≡ signed 0 (outcome w ns).next
  pub puts : SoManyPuts (take (words_taken w) w) (records_of ns) (take (words_taken w) w') (outcome w ns).count (outcome w ns).next
  pub ready : ReadyWords w'
  pub same_bytes : bytes_taken w' ≡ bytes_taken w
