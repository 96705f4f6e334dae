-- What is heard of all voices in a span: rows of notes, and slots that say which voices begin a note there. Assumes nothing: these are definitions.
use Rattle.std.specs.Prelude.{◌≡◌, ◌≢◌, ℕ, zero, suc, ◌+◌, ◌-◌, ◌*◌, ◌/◌, ◌%◌, ◌^◌, ◌<◌, ◌≤◌, true, List, [], ◌∷◌, map, length, take, drop, sum, ◌==◌, bit_or, nat_lt, slice_index, slice_set}
use Rattle.std.specs.Int.{bit_at}
use Rattle.std.specs.List.{prefix_len}
use Rattle.std.specs.List.Sorted.{IsNonDecreasing}
use Rattle.score.specs.Music.{pick, places, Event, tone, Heard, heard, total}
use Rattle.score.specs.Calls.{Score, voice, none_too_long, merged}
use Rattle.laws.specs.Rows.{voice_of}
use Rattle.memory.specs.Store.{dealt, all_fines}

-- ---- rows of notes

-- notes as they are heard, each with its voice
abbrev pub Row : Type 0
Row = List (ℕ × Heard)

-- the notes of a voice from its i-th event on
abbrev pub from_event : List Event → ℕ → List Heard
from_event es i = heard (drop i es) (total (take i es))

-- the first of them, those that begin before tick e, as voice u's
unfoldable pub until : ℕ → ℕ → List Heard → Row
until u e [] = []
until u e (h ∷ hs) = pick (nat_lt h.start e) ((u, h) ∷ until u e hs) []

-- when they begin
abbrev pub starts : Row → List ℕ
starts xs = map (λ x. x.1.start) xs

-- n rows as one, of which the first is row w: by time, and a row's before those of later rows where times are the same
unfoldable pub mixed : (ℕ → Row) → ℕ → ℕ → Row
mixed f zero w = []
mixed f (suc n) w = merged (length (f w) + length (mixed f n (suc w))) (f w) (mixed f n (suc w))

-- the note of an index in three rows, which begins at tick t
abbrev pub sound_at : List ℕ → List ℕ → List ℕ → ℕ → ℕ → Heard
sound_at ps xs ds i t = record { start = t; long = slice_index ds i; high = tone (slice_index ps i) (slice_index xs i) }

-- ---- a voice in two rows of words, places and lengths

-- how many events begin before tick a, if the first begins at tick t
unfoldable pub passed : ℕ → ℕ → List ℕ → ℕ
passed a t [] = 0
passed a t (d ∷ ds) = pick (nat_lt t a) (suc (passed a (t + d) ds)) 0

-- the ticks before tick e at which notes begin, if the first event begins at tick t
unfoldable pub note_ticks : ℕ → ℕ → List ℕ → List ℕ → List ℕ
note_ticks e t [] ds = []
note_ticks e t (p ∷ ps) [] = []
note_ticks e t (p ∷ ps) (d ∷ ds) = pick (nat_lt t e) (pick (p == places) (note_ticks e (t + d) ps ds) (t ∷ note_ticks e (t + d) ps ds)) []

-- those from the r-th event on
abbrev pub ticks_from : ℕ → List ℕ → List ℕ → ℕ → List ℕ
ticks_from e ps ds r = note_ticks e (sum (take r ds)) (drop r ps) (drop r ds)

-- when an event begins, if the bar in which it does and the tick of that bar lie in two rows of words, and a bar has m ticks
abbrev pub start_at : ℕ → List ℕ → List ℕ → ℕ → ℕ
start_at m bs ts i = slice_index bs i * m + slice_index ts i

-- none begins in a bar before that of one that stands in front of it, each in its bar, and none too late
pub record InOrder (m : ℕ) (bs ts : List ℕ) : Type 0 where
  pub positive : 0 < m
  pub ticks_too : length ts ≡ length bs
  pub rise : IsNonDecreasing bs
  pub in_bar : (i : ℕ) → i < length bs → slice_index ts i < m
  pub small : (i : ℕ) → i < length bs → start_at m bs ts i < 2 ^ 32

-- so do events begin that follow one another and are so long
pub record Timed (m : ℕ) (bs ts ds : List ℕ) : Type 0 where
  pub bars_too : length bs ≡ length ds
  pub ticks_too : length ts ≡ length ds
  pub rise : IsNonDecreasing bs
  pub begins : (i : ℕ) → i < length ds → (start_at m bs ts i ≡ sum (take i ds)) × (slice_index ts i < m)

-- the first r of them begin before tick a
abbrev pub AllBefore : ℕ → ℕ → List ℕ → List ℕ → ℕ → Type 0
AllBefore a m bs ts r = (i : ℕ) → i < r → start_at m bs ts i < a

-- and the next does not, but at tick t
pub record Reached (a m : ℕ) (bs ts : List ℕ) (r t : ℕ) : Type 0 where
  pub before : AllBefore a m bs ts r
  pub there : r < length bs
  pub begins : t ≡ start_at m bs ts r
  pub late : a ≤ t

-- how many silences come first
abbrev pub silences : List ℕ → ℕ
silences ps = prefix_len (λ p. p == places) ps

-- ---- slots

-- Every length is a multiple of this many ticks, so that events begin only there: a slot for each.
abbrev pub grain : ℕ
grain = 3

-- the ticks at which voice u begins a note, where the first slot is that of tick t, and a slot has a bit for each voice that does so
unfoldable pub begun : ℕ → ℕ → List ℕ → List ℕ
begun u t [] = []
begun u t (m ∷ ms) = pick (bit_at m u == 1) (t ∷ begun u (t + grain) ms) (begun u (t + grain) ms)

-- voice u begins a note at each of these ticks, where the first slot is the one of that number
unfoldable pub marks : ℕ → ℕ → List ℕ → List ℕ → List ℕ
marks u first [] ms = ms
marks u first (t ∷ ts) ms = let k : ℕ = t / grain - first in marks u first ts (slice_set ms k (bit_or (slice_index ms k) (2 ^ u)))

-- in slots from i up to before j no voice begins a note
abbrev pub NoneBetween : ℕ → ℕ → List ℕ → Type 0
NoneBetween i j ms = (k : ℕ) → i ≤ k → k < j → slice_index ms k ≡ 0

-- of n slots, k is the first from i on in which a voice does
pub record NextUsed (i n : ℕ) (ms : List ℕ) (k : ℕ) : Type 0 where
  pub behind : i ≤ k
  pub there : k < n
  pub filled : slice_index ms k ≢ 0
  pub before : NoneBetween i k ms

-- the bit of slot k in words that have one for each slot
abbrev pub bit_of : List ℕ → ℕ → ℕ
bit_of ws k = bit_at (slice_index ws (k / 64)) (k % 64)

-- they tell in which of n slots a voice begins a note
pub record Tells (n : ℕ) (ws ms : List ℕ) : Type 0 where
  pub empty : (k : ℕ) → bit_of ws k ≡ 0 → slice_index ms k ≡ 0
  pub filled : (k : ℕ) → bit_of ws k ≡ 1 → (k < n) × (slice_index ms k ≢ 0)

-- ---- a score in four rows of words: how many events each voice has, and the events of all voices in three rows

abbrev pub score_in : List ℕ → List ℕ → List ℕ → List ℕ → Score
score_in ns ps xs ds = dealt ns (voice_of ps xs ds)

-- rows of one length, with not too many voices and events, of which each voice can be written
pub record Laid (ns ps xs ds : List ℕ) : Type 0 where
  pub few_voices : length ns ≤ 64
  pub few_events : length ps ≤ 65536
  pub alterations_too : length xs ≡ length ps
  pub lengths_too : length ds ≡ length ps
  pub fitting : sum ns ≤ length ps
  pub short : none_too_long (score_in ns ps xs ds) ≡ true
  pub fines : all_fines (score_in ns ps xs ds) ≡ true

-- of a row, the words of voice u's events
abbrev pub part : List ℕ → ℕ → List ℕ → List ℕ
part ns u ws = take (slice_index ns u) (drop (sum (take u ns)) ws)

-- two rows more, which say where each voice's events begin
pub record AllTimed (ns ds : List ℕ) (m : ℕ) (bs ts : List ℕ) : Type 0 where
  pub positive : 0 < m
  pub bars_too : length bs ≡ length ds
  pub ticks_too : length ts ≡ length ds
  pub each : (u : ℕ) → u < length ns → Timed m (part ns u bs) (part ns u ts) (part ns u ds)

-- what is left of voice u up to before tick e, where the cursors say which of all events comes next in each voice
abbrev pub left : List ℕ → List ℕ → List ℕ → List ℕ → ℕ → List ℕ → ℕ → Row
left ns ps xs ds e cursors u = until u e (from_event (voice (score_in ns ps xs ds) u) (slice_index cursors u - sum (take u ns)))

-- rows of notes that begin as the slots from tick t on say
pub record Begin (f : ℕ → Row) (t : ℕ) (ms : List ℕ) : Type 0 where
  pub told : (u : ℕ) → starts (f u) ≡ begun u t ms

-- cursors, none of which is before its voice, and slots that tell what is left
pub record Ready (ns ps xs ds : List ℕ) (e : ℕ) (cursors : List ℕ) (t : ℕ) (ms : List ℕ) : Type 0 where
  pub begin : Begin (left ns ps xs ds e cursors) t ms
  pub reached : (u : ℕ) → u < length ns → sum (take u ns) ≤ slice_index cursors u

-- and all of it
abbrev pub all_left : List ℕ → List ℕ → List ℕ → List ℕ → ℕ → List ℕ → Row
all_left ns ps xs ds e cursors = mixed (left ns ps xs ds e cursors) (length ns) 0
