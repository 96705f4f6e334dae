-- Events as records, four numbers each, that are put last in their voices one after the other until one cannot be. Assumes nothing: these are
-- definitions.
use Rattle.std.specs.Prelude.{◌≡◌, ℕ, suc, ◌%◌, ◌≤◌, List, [], ◌∷◌, ◌++◌, length, take, drop, replicate, Some, None, Option, ◌==◌}
use Rattle.score.specs.declared.Refusal.{Refusal}
use Rattle.score.specs.Music.{pick, Event}
use Rattle.score.specs.Meaning.{refusal_meant}
use Rattle.score.specs.Calls.{Call, put, Answer, done, refused, symbols, sounds, number, Limits, Layout, Score, voice, after, answers, ran}
use Rattle.memory.specs.Store.{limits_of, layout_of, score_of}
use Rattle.memory.specs.Words.{answer_at, next_words}
use Rattle.rows.specs.Rows.{event_in}
use Rattle.records.specs.declared.Record.{Record}

-- the call that puts the event of a record last in its voice
abbrev pub put_last : Score → Record → Call
put_last s r = put r.voice (length (voice s r.voice)) (event_in r.row)

-- numbers, four to a record; those that are over at the end are none
unfoldable pub records_of : List ℕ → List Record
records_of [] = []
records_of (v ∷ []) = []
records_of (v ∷ (p ∷ [])) = []
records_of (v ∷ (p ∷ (a ∷ []))) = []
records_of (v ∷ (p ∷ (a ∷ (d ∷ ns)))) = record { voice = v; row = record { place = p; alteration = a; length = d } } ∷ records_of ns

-- they are a record that ends too early, which is not readable where the numbers end
abbrev pub end_of : List ℕ → Answer
end_of ns = pick (length ns % 4 == 0) done (refused 1 (length ns))

-- What came of records: the words they left, how many were put, and what turned the next away, or done.
pub record Outcome : Type 0 where
  pub words : List ℕ
  pub count : ℕ
  pub next : Answer

abbrev pub one_more : Outcome → Outcome
one_more o = record { words = o.words; count = suc o.count; next = o.next }

-- one outcome where a call is done, and another where it is not
abbrev pub if_done : Answer → Outcome → Outcome → Outcome
if_done done o p = o
if_done (refused f place) o p = p
if_done (symbols xs) o p = p
if_done (sounds xs) o p = p
if_done (number m) o p = p

-- records that are put one after the other until one is turned away, and otherwise what is said at their end
unfoldable pub put_all : List ℕ → List Record → Answer → Outcome
put_all w [] end = record { words = w; count = 0; next = end }
put_all w (r ∷ rs) end =
    let c : Call = put_last (score_of w) r in
    if_done (answer_at w c) (one_more (put_all (next_words w c) rs end)) (record { words = w; count = 0; next = answer_at w c })

-- what comes of numbers in words that hold a score
abbrev pub entered : List ℕ → List ℕ → Outcome
entered w ns = put_all w (records_of ns) (end_of ns)

abbrev pub said_next : Option Refusal → Answer
said_next None = done
said_next (Some f) = refusal_meant f

-- the calls that put records last, each in the score that those before it left
unfoldable pub puts : Limits → Layout → Score → List Record → List Call
puts l y s [] = []
puts l y s (r ∷ rs) = put_last s r ∷ puts l y (after l y s (put_last s r)) rs

-- the events of a voice among those of records, in their order
unfoldable pub events_for : ℕ → List Record → List Event
events_for v [] = []
events_for v (r ∷ rs) = pick (r.voice == v) (event_in r.row ∷ events_for v rs) (events_for v rs)

-- So many of the records were put, and no more: the score, whose limits and layout stay, is the one that so many calls leave, each of which is done; every
-- voice is what it was, followed by the events that the records have for it; and what is said of the next one is what a call with it would be answered.
pub record SoManyPuts (w : List ℕ) (rs : List Record) (w' : List ℕ) (n : ℕ) (next : Answer) : Type 0 where
  pub few : n ≤ length rs
  pub limits : limits_of w' ≡ limits_of w
  pub layout : layout_of w' ≡ layout_of w
  pub score : score_of w' ≡ ran (limits_of w) (layout_of w) (score_of w) (puts (limits_of w) (layout_of w) (score_of w) (take n rs))
  pub all_done : answers (limits_of w) (layout_of w) (score_of w) (puts (limits_of w) (layout_of w) (score_of w) (take n rs)) ≡ replicate n done
  pub voices : (v : ℕ) → voice (score_of w') v ≡ voice (score_of w) v ++ events_for v (take n rs)
  pub stopped : (r : Record) (later : List Record) → drop n rs ≡ r ∷ later → next ≡ answer_at w' (put_last (score_of w') r)
