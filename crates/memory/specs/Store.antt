-- How a score lies in words, as a function of its limits, its layout and itself, and the way back. Assumes nothing: these are definitions.
use Rattle.std.specs.Prelude.{◌≡◌, ℕ, ◌+◌, ◌-◌, ◌*◌, ◌/◌, ◌≤◌, Bool, true, ◌&&◌, List, [], ◌∷◌, ◌++◌, map, length, take, drop, replicate, slice_index}
use Rattle.score.specs.Music.{Event, lasts, total, all_fine}
use Rattle.score.specs.Calls.{Limits, Layout, Score, all_events, none_too_long}
use Rattle.score.specs.Promise.{whole}
use Rattle.laws.specs.Rows.{voice_of}
use Rattle.laws.specs.Onsets.{Onset, onsets_of}
use Rattle.rows.specs.Rows.{stands, alters}

-- how many words the header has, which the counts of the voices follow
abbrev pub counts_from : ℕ
counts_from = 4

-- how many words have a bit for each of so many events, and for the place behind the last
abbrev pub marks_asked : ℕ → ℕ
marks_asked events = events / 32 + 1

-- how many words a score of so many voices and at most so many events takes, and how many bytes its longest answer
abbrev pub words_asked : ℕ → ℕ → ℕ
words_asked voices events = counts_from + (2 * voices + 6 * events + marks_asked events)

abbrev pub bytes_asked : ℕ → ℕ
bytes_asked events = 8 * events + 262144

-- what f has of each voice, voice by voice
unfoldable pub spread : {X : Type 0} → (List Event → List X) → Score → List X
spread f [] = []
spread f (v ∷ vs) = f v ++ spread f vs

-- all events, and where all events begin on paper
abbrev pub flat : Score → List Event
flat s = spread (λ v. v) s

abbrev pub all_onsets : Layout → Score → List Onset
all_onsets y s = spread (onsets_of y.in_key y.bar_long) s

-- how many events each voice has, and how long each is
abbrev pub counts : Score → List ℕ
counts s = map length s

abbrev pub ticks : Score → List ℕ
ticks s = map total s

-- a region of n words: what is used, then zeros
unfoldable pub padded : ℕ → List ℕ → List ℕ
padded n xs = xs ++ replicate (n - length xs) 0

-- the voices, their events in three parallel regions of n words, and what follows
abbrev pub laid : ℕ → Score → List ℕ → List ℕ
laid n s rest =
    counts s ++ (ticks s ++ (padded n (map stands (flat s)) ++ (padded n (map alters (flat s)) ++ (padded n (map lasts (flat s)) ++ rest))))

-- onsets in three more regions of n words, and what follows
abbrev pub onset_rows : ℕ → List Onset → List ℕ → List ℕ
onset_rows n os rest = padded n (map (λ x. x.bar) os) ++ (padded n (map (λ x. x.tick) os) ++ (padded n (map (λ x. x.sign) os) ++ rest))

-- no bit is set
abbrev pub no_marks : ℕ → List ℕ
no_marks n = replicate (marks_asked n) 0

-- the header, the score behind it, and what follows
abbrev pub headed : Limits → Layout → Score → List ℕ → List ℕ
headed l y s rest = y.in_key ∷ (y.bar_long ∷ (l.voices ∷ (l.events ∷ laid l.events s rest)))

-- With each event is kept where it begins on paper, so that nobody has to walk there. The marks behind that are bits, one for each event: those
-- whose onsets are to be derived anew. Between calls there are none.
unfoldable pub stored : Limits → Layout → Score → List ℕ
stored l y s = headed l y s (onset_rows l.events (all_onsets y s) (no_marks l.events))

-- and back: how many voices, how many events there may be in all, and where the voices' ticks and the three regions of events begin
abbrev pub voices_in : List ℕ → ℕ
voices_in w = slice_index w 2

abbrev pub limit_in : List ℕ → ℕ
limit_in w = slice_index w 3

abbrev pub ticks_from : List ℕ → ℕ
ticks_from w = counts_from + voices_in w

abbrev pub places_from : List ℕ → ℕ
places_from w = counts_from + 2 * voices_in w

abbrev pub alterations_from : List ℕ → ℕ
alterations_from w = places_from w + limit_in w

abbrev pub lengths_from : List ℕ → ℕ
lengths_from w = alterations_from w + limit_in w

-- the three regions of onsets, and the marks
abbrev pub bars_from : List ℕ → ℕ
bars_from w = lengths_from w + limit_in w

abbrev pub beats_from : List ℕ → ℕ
beats_from w = bars_from w + limit_in w

abbrev pub signs_from : List ℕ → ℕ
signs_from w = beats_from w + limit_in w

abbrev pub marks_from : List ℕ → ℕ
marks_from w = signs_from w + limit_in w

-- Which calls can be done, and whether notes may need signs, is a stage's and not in the words; words hold a score at every stage alike, and are
-- read as those of the last.
abbrev pub limits_at : (ℕ → Bool) → Bool → ℕ → ℕ → Limits
limits_at can signed v n = record { calls_can = can; signs = signed; voices = v; events = n }

abbrev pub limits_by : (ℕ → Bool) → Bool → List ℕ → Limits
limits_by can signed w = limits_at can signed (voices_in w) (limit_in w)

abbrev pub limits_of : List ℕ → Limits
limits_of = limits_by whole true

abbrev pub layout_at : ℕ → ℕ → Layout
layout_at k b = record { in_key = k; bar_long = b }

abbrev pub layout_of : List ℕ → Layout
layout_of w = layout_at (slice_index w 0) (slice_index w 1)

-- events dealt out to voices, so many to each
unfoldable pub dealt : List ℕ → List Event → Score
dealt [] es = []
dealt (n ∷ ns) es = take n es ∷ dealt ns (drop n es)

-- what lies behind the header, of k voices and regions of n words
unfoldable pub parted : ℕ → ℕ → List ℕ → Score
parted k n w = dealt (take k w) (voice_of (take n (drop (2 * k) w)) (take n (drop (2 * k + n) w)) (take n (drop (2 * k + n + n) w)))

abbrev pub score_of : List ℕ → Score
score_of w = parted (voices_in w) (limit_in w) (drop counts_from w)

-- what every score has that calls led to: its number of voices, not too many events, no voice too long, and events that can be written
unfoldable pub all_fines : Score → Bool
all_fines [] = true
all_fines (v ∷ vs) = all_fine v && all_fines vs

pub record KeptIn (voices events : ℕ) (s : Score) : Type 0 where
  pub so_many : length s ≡ voices
  pub fitting : all_events s ≤ events
  pub short : none_too_long s ≡ true
  pub fines : all_fines s ≡ true

abbrev pub Kept : Limits → Score → Type 0
Kept l s = KeptIn l.voices l.events s
