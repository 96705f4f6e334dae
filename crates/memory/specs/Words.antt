-- Words that hold a score, and what calls do to them and are answered. Assumes nothing: these are definitions.
use Rattle.std.specs.Prelude.{◌≡◌, ℕ, suc, ◌+◌, ◌<◌, ◌≤◌, Bool, true, List, ◌++◌, length, take, drop, replicate}
use Rattle.score.specs.Music.{Event}
use Rattle.score.specs.Calls.{Layout, Score, Call, Answer, voice, all_events, empty_voices, turned, after, answer}
use Rattle.score.specs.Promise.{GoodLayout, GoodLimits, Engraver, whole}
use Rattle.wire.specs.Bytes.{answer_bytes, written}
use Rattle.laws.specs.Rows.{voice_of}
use Rattle.laws.specs.Onsets.{Onset, onsets, onsets_of, bars_of, ticks_of, signs_of}
use Rattle.marks.specs.Marked.{marked}
use Rattle.memory.specs.Store.{marks_asked, words_asked, bytes_asked, all_onsets, onset_rows, no_marks, headed, stored, voices_in, limit_in, places_from, alterations_from, lengths_from, bars_from, beats_from, signs_from, limits_by, limits_of, layout_of, score_of, Kept}

-- what the words say of limits and layout is good, the score keeps to it, and the words are just as many as are asked for
pub record Proper (w : List ℕ) : Type 0 where
  pub good_limits : GoodLimits (limits_of w)
  pub good_layout : GoodLayout (layout_of w)
  pub kept : Kept (limits_of w) (score_of w)
  pub size : length w ≡ words_asked (voices_in w) (limit_in w)

-- they are what some score is stored as
pub record Holds (w : List ℕ) : Type 0 where
  pub is : w ≡ stored (limits_of w) (layout_of w) (score_of w)
  pub proper : Proper w

-- at a stage: the number by which a call is turned away or 0, what it is answered, and the words that it leaves
unfoldable pub turned_in : (ℕ → Bool) → Bool → List ℕ → Call → ℕ
turned_in can signed w c = turned (limits_by can signed w) (layout_of w) (score_of w) c

unfoldable pub answer_by : (ℕ → Bool) → Bool → List ℕ → Call → Answer
answer_by can signed w c = answer (limits_by can signed w) (layout_of w) (score_of w) c

unfoldable pub words_by : (ℕ → Bool) → Bool → List ℕ → Call → List ℕ
words_by can signed w c = stored (limits_by can signed w) (layout_of w) (after (limits_by can signed w) (layout_of w) (score_of w) c)

-- and at the last stage, where nothing is turned away that can be written
abbrev pub turned_at : List ℕ → Call → ℕ
turned_at = turned_in whole true

abbrev pub answer_at : List ℕ → Call → Answer
answer_at = answer_by whole true

abbrev pub next_words : List ℕ → Call → List ℕ
next_words = words_by whole true

-- the same words if what is kept with the events were right
abbrev pub kept_anew : List ℕ → List ℕ
kept_anew w = stored (limits_of w) (layout_of w) (score_of w)

-- where the events of voice v begin on paper; and all onsets of a score, if those of voice v were these
abbrev pub onsets_in : List ℕ → ℕ → List Onset
onsets_in w v = onsets_of (layout_of w).in_key (layout_of w).bar_long (voice (score_of w) v)

abbrev pub onsets_with : Layout → Score → ℕ → List Onset → List Onset
onsets_with y s v os = all_onsets y (take v s) ++ (os ++ all_onsets y (drop (suc v) s))

-- In the middle of a change: the words hold a score, but what is kept with the events of voice v is that of before. It is right for its events before
-- `from` and those from `to` on. The marks are what `ms` says.
pub record Stale (w : List ℕ) (v from to : ℕ) (ms : List ℕ) : Type 0 where
  pub old : List Onset
  pub is : w ≡ headed (limits_of w) (layout_of w) (score_of w) (onset_rows (limit_in w) (onsets_with (layout_of w) (score_of w) v old) ms)
  pub many : length old ≡ length (voice (score_of w) v)
  pub front : take from old ≡ take from (onsets_in w v)
  pub back : drop to old ≡ drop to (onsets_in w v)
  pub there : v < voices_in w
  pub proper : Proper w

-- where the events of a voice lie in each region, as `Spans` says it of words that hold a score
pub record Lies (w : List ℕ) (v begin count : ℕ) : Type 0 where
  pub begins : begin ≡ all_events (take v (score_of w))
  pub counts : count ≡ length (voice (score_of w) v)

-- what is kept with the events of some voice, which lie there, is not right from one of them on up to before another
pub record Unkept (w : List ℕ) (begin count from to : ℕ) : Type 0 where
  pub voice_number : ℕ
  pub stale : Stale w voice_number from to (no_marks (limit_in w))
  pub lies : Lies w voice_number begin count

-- the words x are in the middle of call c on the words w
pub record Between (w : List ℕ) (c : Call) (x : List ℕ) (begin count from to : ℕ) : Type 0 where
  pub unkept : Unkept x begin count from to
  pub anew : kept_anew x ≡ next_words w c

-- What is kept is derived anew: the events of a voice from place `at` on up to before an end are marked, and the first of them begins at a tick of a bar
-- in which `st` holds.
pub record Deriving (w : List ℕ) (at bar tick : ℕ) (st : ℕ → ℕ) : Type 0 where
  pub voice_number : ℕ
  pub from : ℕ
  pub to : ℕ
  pub at_is : at ≡ all_events (take voice_number (score_of w)) + from
  pub stale : Stale w voice_number from to (marked at (all_events (take voice_number (score_of w)) + to) (marks_asked (limit_in w)))
  pub next : drop from (onsets_in w voice_number) ≡ onsets (layout_of w).in_key (layout_of w).bar_long bar tick st (drop from (voice (score_of w) voice_number))
  pub in_bar : tick < (layout_of w).bar_long
  pub up_to : from ≤ to
  pub within : to ≤ length (voice (score_of w) voice_number)

-- the events whose words lie in the three regions from a beginning on, so many
abbrev pub events_at : List ℕ → ℕ → ℕ → List Event
events_at w begin count =
    voice_of (take count (drop (places_from w + begin) w)) (take count (drop (alterations_from w + begin) w)) (take count (drop (lengths_from w + begin) w))

-- what lies beside them is where they begin on paper
pub record KeptAt (w : List ℕ) (begin count : ℕ) : Type 0 where
  pub bars : take count (drop (bars_from w + begin) w) ≡ bars_of (layout_of w).in_key (layout_of w).bar_long (events_at w begin count)
  pub beats : take count (drop (beats_from w + begin) w) ≡ ticks_of (layout_of w).in_key (layout_of w).bar_long (events_at w begin count)
  pub signs : take count (drop (signs_from w + begin) w) ≡ signs_of (layout_of w).in_key (layout_of w).bar_long (events_at w begin count)

-- where the events of a voice that is there lie in each region
pub record Spans (w : List ℕ) (v begin count : ℕ) : Type 0 where
  pub there : v < voices_in w
  pub begins : begin ≡ all_events (take v (score_of w))
  pub counts : count ≡ length (voice (score_of w) v)
  pub within : begin + count ≤ limit_in w
  pub events : events_at w begin count ≡ voice (score_of w) v
  pub kept_with : KeptAt w begin count

-- the engraver of a stage: its memory is words that hold a score, and bytes over whose front the last answer is written
abbrev pub engraver_by : (ℕ → Bool) → Bool → Engraver
engraver_by can signed = record {
  opened = λ l y. record { words = stored l y (empty_voices l.voices); bytes = replicate (bytes_asked l.events) 0 };
  next = λ m c. record { words = words_by can signed m.words c; bytes = written (answer_bytes (answer_by can signed m.words c)) m.bytes };
  says = λ m c. answer_by can signed m.words c;
}
