-- The theorems that are owed of words that hold a score, and of the engraver over them. Assumes nothing.
use Rattle.std.specs.Prelude.{◌≡◌, ℕ, ◌+◌, ◌*◌, ◌≤◌, Bool, true, List, length, ◌≢◌, slice_set}
use Rattle.score.specs.Music.{Event}
use Rattle.score.specs.Calls.{Call, Limits, Layout, Score, voice, answer}
use Rattle.score.specs.Promise.{GoodLayout, GoodLimits, readable, field_end, all_below, Right, RefusalKeeps, EnoughMemory}
use Rattle.laws.specs.Onsets.{onsets_of}
use Rattle.wire.specs.Bytes.{answer_bytes}
use Rattle.wire.specs.Fits.{answer_fits}
use Rattle.memory.specs.Store.{words_asked, bytes_asked, stored, score_of, Kept}
use Rattle.memory.specs.Words.{engraver_by}

-- a score is read back from its words
abbrev pub ScoreBack : Type 0
ScoreBack = (l : Limits) (y : Layout) (s : Score) → Kept l s → score_of (stored l y s) ≡ s

-- each word is one, below 2^32
abbrev pub WordsFit : Type 0
WordsFit = (l : Limits) (y : Layout) (s : Score) → GoodLayout y → GoodLimits l → Kept l s → all_below field_end (stored l y s) ≡ true

-- and there are as many of them as are asked for, which is not more than may be
abbrev pub WordsCounted : Type 0
WordsCounted =
    (l : Limits) (y : Layout) (s : Score) → Kept l s →
    (length (stored l y s) ≡ words_asked l.voices l.events) × (words_asked l.voices l.events ≤ 8 * l.events + 64 * l.voices + 4096)

-- what is kept of a voice is a function of that voice: a change of voice v reaches no other
abbrev pub OthersUnreached : Type 0
OthersUnreached =
    (y : Layout) (s : Score) (v u : ℕ) (V : List Event) → (u ≢ v) →
    onsets_of y.in_key y.bar_long (voice (slice_set s v V) u) ≡ onsets_of y.in_key y.bar_long (voice s u)

-- whichever calls can be done, and with signs or without; of the session `whole` and true
abbrev pub EngraverRight : Type 0
EngraverRight = (can : ℕ → Bool) (signed : Bool) → Right can signed (engraver_by can signed)

abbrev pub EngraverKeeps : Type 0
EngraverKeeps = (can : ℕ → Bool) (signed : Bool) → RefusalKeeps can signed (engraver_by can signed)

abbrev pub EngraverEnough : Type 0
EngraverEnough = (can : ℕ → Bool) (signed : Bool) → EnoughMemory (engraver_by can signed)

-- every answer that a score can give to a call that can be read fits its fields, and the bytes that are asked for
abbrev pub AnswersFit : Type 0
AnswersFit = (l : Limits) (y : Layout) (s : Score) (c : Call) → GoodLayout y → GoodLimits l → Kept l s → readable c ≡ true → answer_fits (answer l y s c) ≡ true

abbrev pub AnswersShort : Type 0
AnswersShort = (l : Limits) (y : Layout) (s : Score) (c : Call) → GoodLayout y → Kept l s → length (answer_bytes (answer l y s c)) ≤ bytes_asked l.events
