-- What is promised. Each statement is a type, whose proof is owed where a function's contract names it. Assumes nothing.
use Rattle.std.specs.Prelude.{◌≡◌, ℕ, zero, suc, ◌+◌, ◌*◌, ◌%◌, ◌<◌, ◌≤◌, Bool, true, false, not, ◌&&◌, ◌||◌, ◌⊎◌, List, [], ◌∷◌, ◌++◌, length, ◌==◌, ◌≢◌, nat_le, nat_lt, slice_index}
use Rattle.score.specs.Music.{pick, length_end, Event, note, silence, Heard, heard, total, all_fine}
use Rattle.score.specs.Print.{Symbol, bar, head, rest, all_values, pieces, printed, read_from, from_bar, so_many}
use Rattle.score.specs.Calls.{Call, put, cut, change, show, heard_in, how_long, Answer, Limits, Layout, Score, voice, empty_voices, fits, call_number, turned, after, answers, ran, together}

-- layouts and limits that a score may be opened with: a bar is 3 ticks long or a multiple of that, up to four whole notes
abbrev pub GoodLayout : Layout → Type 0
GoodLayout y = (y.in_key ≤ 14) × (0 < y.bar_long) × (y.bar_long ≤ 768) × (y.bar_long % 3 ≡ 0)

abbrev pub GoodLimits : Limits → Type 0
GoodLimits l = (0 < l.voices) × (l.voices ≤ 64) × (l.events ≤ 65536)

unfoldable pub all_below : ℕ → List ℕ → Bool
all_below b [] = true
all_below b (x ∷ xs) = nat_lt x b && all_below b xs

-- calls that their fields can carry: numbers of four bytes, places and alterations of one, lengths of two
abbrev pub field_end : ℕ
field_end = 4294967296

abbrev pub field : ℕ → Bool
field n = nat_lt n field_end

unfoldable pub readable_event : Event → Bool
readable_event (note p a d) = nat_lt p 256 && (nat_lt a 256 && nat_lt d length_end)
readable_event (silence d) = nat_lt d length_end

unfoldable pub readable : Call → Bool
readable (put v i e) = field v && (field i && readable_event e)
readable (cut v i) = field v && field i
readable (change v i e) = field v && (field i && readable_event e)
readable (show v b n) = field v && (field b && field n)
readable (heard_in a b) = field a && field b
readable (how_long v) = field v

unfoldable pub all_readable : List Call → Bool
all_readable [] = true
all_readable (c ∷ cs) = readable c && all_readable cs

-- THE MAIN PROMISE, FIRST HALF. An engraver is what the contracts of the session's open and call say, and nothing else: its state is the lent
-- memory, `opened` is what open leaves there, `next` what a call leaves there, and `says` what the call answers. It is right if for every list of
-- calls its answers are those of the score as the calls left it, printed and heard anew.
pub record Memory : Type 0 where
  pub words : List ℕ
  pub bytes : List ℕ

pub record Engraver : Type 0 where
  pub opened : Limits → Layout → Memory
  pub next : Memory → Call → Memory
  pub says : Memory → Call → Answer

unfoldable pub told_by : Engraver → Memory → List Call → List Answer
told_by e s [] = []
told_by e s (c ∷ cs) = e.says s c ∷ told_by e (e.next s c) cs

unfoldable pub left_by : Engraver → Memory → List Call → Memory
left_by e s [] = s
left_by e s (c ∷ cs) = left_by e (e.next s c) cs

-- for the calls that `ks` allows, and with signs or without
unfoldable pub Right : (ℕ → Bool) → Bool → Engraver → Type 0
Right ks signs e =
    (l : Limits) (y : Layout) (cs : List Call) → GoodLayout y → GoodLimits l → l.calls_can ≡ ks → l.signs ≡ signs → all_readable cs ≡ true →
    told_by e (e.opened l y) cs ≡ answers l y (empty_voices l.voices) cs

-- memory that is asked for at opening is enough for ever, and each number fits its word or byte
unfoldable pub EnoughMemory : Engraver → Type 0
EnoughMemory e =
    (l : Limits) (y : Layout) (cs : List Call) → GoodLayout y → GoodLimits l → all_readable cs ≡ true →
    let m : Memory = left_by e (e.opened l y) cs in
    (length m.words ≤ 8 * l.events + 64 * l.voices + 4096) × (all_below 4294967296 m.words ≡ true)
    × (length m.bytes ≤ 8 * l.events + 262144) × (all_below 256 m.bytes ≡ true)

-- a call that is turned away leaves the words as they were
unfoldable pub RefusalKeeps : (ℕ → Bool) → Bool → Engraver → Type 0
RefusalKeeps ks signs e =
    (l : Limits) (y : Layout) (cs : List Call) (c : Call) → l.calls_can ≡ ks → l.signs ≡ signs → GoodLayout y → GoodLimits l → all_readable (cs ++ (c ∷ [])) ≡ true →
    0 < turned l y (ran l y (empty_voices l.voices) cs) c → (e.next (left_by e (e.opened l y) cs) c).words ≡ (left_by e (e.opened l y) cs).words

-- all calls
abbrev pub whole : ℕ → Bool
whole k = true

-- SECOND HALF. Who reads what is printed hears what the voice means, neither more nor less: every note at its time, as long as it is, at its tone.
abbrev pub ReadsBack : Type 0
ReadsBack = (k b : ℕ) (es : List Event) → 0 < b → b % 3 ≡ 0 → all_fine es ≡ true → read_from k (printed k b es) ≡ heard es 0

-- whether nothing is held by a tie at the end of symbols, if `free` says so of their beginning
unfoldable pub ends_free : List Symbol → Bool → Bool
ends_free [] free = free
ends_free (bar ∷ ys) free = ends_free ys free
ends_free (rest v ∷ ys) free = ends_free ys true
ends_free (head p s v tied ∷ ys) free = ends_free ys (not tied)

-- whether nothing is tied into bar n
unfoldable pub no_tie_over : List Symbol → ℕ → Bool
no_tie_over xs n = ends_free (so_many xs n) true

unfoldable pub later : ℕ → List Heard → List Heard
later t [] = []
later t (h ∷ hs) = record { start = h.start + t; long = h.long; high = h.high } ∷ later t hs

-- And who begins at a bar into which nothing is tied hears from there what is heard there: all of it is what the bars before bring, and then what
-- the bars from there on bring, so much later.
abbrev pub FromABar : Type 0
FromABar =
    (k b n : ℕ) (es : List Event) → 0 < b → b % 3 ≡ 0 → all_fine es ≡ true → no_tie_over (printed k b es) n ≡ true →
    read_from k (printed k b es) ≡ read_from k (so_many (printed k b es) n) ++ later (n * b) (read_from k (from_bar n (printed k b es)))

-- Bars are full: what stands between two bar lines is as long as a bar, and what stands after the last is shorter.
unfoldable pub lengths : List Symbol → ℕ → List ℕ
lengths [] t = t ∷ []
lengths (bar ∷ xs) t = t ∷ lengths xs 0
lengths (head p s v tied ∷ xs) t = lengths xs (t + v)
lengths (rest v ∷ xs) t = lengths xs (t + v)

abbrev pub BarsFull : Type 0
BarsFull =
    (k b i : ℕ) (es : List Event) → 0 < b → b % 3 ≡ 0 → all_fine es ≡ true →
    (suc i < length (lengths (printed k b es) 0) → slice_index (lengths (printed k b es) 0) i ≡ b)
    × (suc i ≡ length (lengths (printed k b es) 0) → slice_index (lengths (printed k b es) 0) i < b)

-- No sign is printed that is not needed: without it something else would be heard.
unfoldable pub without_sign : List Symbol → ℕ → List Symbol
without_sign [] i = []
without_sign (bar ∷ xs) zero = bar ∷ xs
without_sign (rest v ∷ xs) zero = rest v ∷ xs
without_sign (head p s v tied ∷ xs) zero = head p 0 v tied ∷ xs
without_sign (bar ∷ xs) (suc i) = bar ∷ without_sign xs i
without_sign (rest v ∷ xs) (suc i) = rest v ∷ without_sign xs i
without_sign (head p s v tied ∷ xs) (suc i) = head p s v tied ∷ without_sign xs i

unfoldable pub has_sign : List Symbol → ℕ → Bool
has_sign [] i = false
has_sign (bar ∷ xs) zero = false
has_sign (rest v ∷ xs) zero = false
has_sign (head p s v tied ∷ xs) zero = not (s == 0)
has_sign (bar ∷ xs) (suc i) = has_sign xs i
has_sign (rest v ∷ xs) (suc i) = has_sign xs i
has_sign (head p s v tied ∷ xs) (suc i) = has_sign xs i

abbrev pub SignsNeeded : Type 0
SignsNeeded =
    (k b i : ℕ) (es : List Event) → 0 < b → b % 3 ≡ 0 → all_fine es ≡ true → has_sign (printed k b es) i ≡ true →
    read_from k (without_sign (printed k b es) i) ≢ heard es 0

-- A length has the fewest values: it comes to what it was, in values that can be drawn, and no row of values that comes to it is shorter.
unfoldable pub sum_of : List ℕ → ℕ
sum_of [] = 0
sum_of (v ∷ vs) = v + sum_of vs

unfoldable pub is_value : List ℕ → ℕ → Bool
is_value [] v = false
is_value (w ∷ ws) v = w == v || is_value ws v

unfoldable pub all_are : List ℕ → Bool
all_are [] = true
all_are (v ∷ vs) = is_value all_values v && all_are vs

abbrev pub Fewest : Type 0
Fewest =
    (n : ℕ) (vs : List ℕ) → all_are vs ≡ true → sum_of vs ≡ n →
    (sum_of (pieces n n) ≡ n) × (all_are (pieces n n) ≡ true) × (length (pieces n n) ≤ length vs)

-- Bars before a change stay: voices that are alike in their first events are printed alike up to the bar in which they begin to differ.
abbrev pub BarsStay : Type 0
BarsStay =
    (k b n : ℕ) (es ds fs : List Event) → 0 < b → b % 3 ≡ 0 → all_fine (es ++ ds) ≡ true → n * b ≤ total es →
    so_many (printed k b (es ++ ds)) n ≡ so_many (printed k b (es ++ fs)) n

-- And so do bars after a change that is as long as what was there, from the next bar line on.
abbrev pub BarsAfter : Type 0
BarsAfter =
    (k b n : ℕ) (es ds fs gs : List Event) → 0 < b → b % 3 ≡ 0 → all_fine (es ++ (ds ++ gs)) ≡ true → all_fine (es ++ (fs ++ gs)) ≡ true → total ds ≡ total fs →
    total es + total ds ≤ n * b →
    from_bar n (printed k b (es ++ (ds ++ gs))) ≡ from_bar n (printed k b (es ++ (fs ++ gs)))

-- What is heard together is in order of time, and of voices where times are the same.
unfoldable pub in_order : List (ℕ × Heard) → Bool
in_order [] = true
in_order (x ∷ []) = true
in_order (x ∷ (y ∷ ys)) = (nat_lt x.1.start y.1.start || (x.1.start == y.1.start && nat_le x.0 y.0)) && in_order (y ∷ ys)

abbrev pub TogetherInOrder : Type 0
TogetherInOrder = (s : Score) (a b : ℕ) → in_order (together s 0 a b) ≡ true

-- And nothing is lost of any voice, nor heard of one that is not there.
unfoldable pub of_voice : ℕ → List (ℕ × Heard) → List Heard
of_voice v [] = []
of_voice v (x ∷ xs) = pick (x.0 == v) (x.1 ∷ of_voice v xs) (of_voice v xs)

unfoldable pub begun_in : ℕ → ℕ → List Heard → List Heard
begun_in a b [] = []
begun_in a b (h ∷ hs) = pick (nat_le a h.start && nat_lt h.start b) (h ∷ begun_in a b hs) (begun_in a b hs)

abbrev pub NothingLost : Type 0
NothingLost = (s : Score) (v a b : ℕ) → of_voice v (together s 0 a b) ≡ begun_in a b (heard (voice s v) 0)

-- A call that is turned away, and a question, change nothing.
abbrev pub TurnedAway : Type 0
TurnedAway = (l : Limits) (y : Layout) (s : Score) (c : Call) (cs : List Call) → (0 < turned l y s c) ⊎ (3 ≤ call_number c) → answers l y (after l y s c) cs ≡ answers l y s cs

-- A cut undoes a put.
abbrev pub Undone : Type 0
Undone =
    (l : Limits) (y : Layout) (s : Score) (v i : ℕ) (e : Event) (cs : List Call) → turned l y s (put v i e) ≡ 0 → l.calls_can 1 ≡ true → fits l s ≡ true →
    answers l y (after l y (after l y s (put v i e)) (cut v i)) cs ≡ answers l y s cs
