-- That bytes lose nothing: what is written is read back as it was, and a refusal's place is where a row ceases to be a call. Each statement is proved
-- where a function names it. Assumes nothing.
use Rattle.std.specs.Prelude.{◌≡◌, ℕ, suc, true, ◌⊎◌, List, ◌++◌, length, take, Some, Ok, Err, Option, slice_set}
use Rattle.score.specs.Music.{note, silence}
use Rattle.score.specs.Calls.{Call, put, cut, change, show, heard_in, how_long, Answer, refused}
use Rattle.score.specs.Promise.{all_below, readable}
use Rattle.wire.specs.Bytes.{call_bytes, symbol_bytes, sound_bytes, answer_bytes}
use Rattle.wire.specs.Reading.{symbol_of, sound_of, answer_of}
use Rattle.wire.specs.Fits.{answer_fits}
use Rattle.wire.specs.ReadingCalls.{read_call}

-- a call's bytes with other ones in the two places of a silence that are not looked at
abbrev pub with_any : ℕ → ℕ → Call → List ℕ → List ℕ
with_any x y (put v i (silence d)) bs = slice_set (slice_set bs 10 x) 11 y
with_any x y (change v i (silence d)) bs = slice_set (slice_set bs 10 x) 11 y
with_any x y (put v i (note p a d)) bs = bs
with_any x y (change v i (note p a d)) bs = bs
with_any x y (cut v i) bs = bs
with_any x y (show v b n) bs = bs
with_any x y (heard_in a b) bs = bs
with_any x y (how_long v) bs = bs

-- A call is read back from its bytes, and its bytes are bytes if its numbers fit their fields.
abbrev pub CallsBack : Type 0
CallsBack =
    (c : Call) → (read_call (call_bytes c) ≡ Ok c) × ((x y : ℕ) → read_call (with_any x y c (call_bytes c)) ≡ Ok c)
    × (readable c ≡ true → all_below 256 (call_bytes c) ≡ true)

-- And no other row of bytes is read as that call.
abbrev pub OneRow : Type 0
OneRow =
    (bs : List ℕ) (c : Call) → all_below 256 bs ≡ true → read_call bs ≡ Ok c →
    (readable c ≡ true) × ((x : ℕ) × (y : ℕ) × (bs ≡ with_any x y c (call_bytes c)))

-- some row of bytes that begins so is a call
abbrev pub BeginsACall : List ℕ → Type 0
BeginsACall bs = (more : List ℕ) × (c : Call) × (all_below 256 more ≡ true) × (read_call (bs ++ more) ≡ Ok c)

-- What is no call is refused by number 1, and the place is right: up to there the bytes are the beginning of a call, and with that byte they are not,
-- or they end there.
abbrev pub PlaceRight : Type 0
PlaceRight =
    (bs : List ℕ) (a : Answer) → read_call bs ≡ Err a →
    (n : ℕ) × (a ≡ refused 1 n) × BeginsACall (take n bs) × ((n ≡ length bs) ⊎ (BeginsACall (take (suc n) bs) → ⊥))

-- What is written is read back, whatever stands behind: a symbol, and a note as it is heard.
abbrev pub Back : {A : Type 0} → (A → List ℕ) → (List ℕ → Option A) → Type 0
Back {A} f g = (x : A) (bs : List ℕ) → g (f x ++ bs) ≡ Some x

abbrev pub SymbolsBack : Type 0
SymbolsBack = Back symbol_bytes symbol_of

abbrev pub SoundsBack : Type 0
SoundsBack = Back sound_bytes sound_of

-- And every answer, whose bytes are bytes if its numbers fit their fields: nothing is cut, so nothing too large can hide.
abbrev pub AnswersBack : Type 0
AnswersBack =
    (a : Answer) → ((bs : List ℕ) → answer_of (answer_bytes a ++ bs) ≡ Some a) × (answer_fits a ≡ true → all_below 256 (answer_bytes a) ≡ true)
