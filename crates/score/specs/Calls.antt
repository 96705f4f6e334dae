-- What is done with a score, what is asked of it, and what is answered. Assumes nothing: these are definitions.
use Rattle.std.specs.Prelude.{ℕ, zero, suc, ◌+◌, Bool, true, ◌&&◌, ◌||◌, List, [], ◌∷◌, ◌++◌, length, take, drop, ◌==◌, nat_le, nat_lt, slice_index_or, slice_set}
use Rattle.score.specs.Music.{pick, Event, note, silence, Heard, heard, total, fine}
use Rattle.score.specs.Print.{Symbol, key, printed, from_bar, so_many}

pub data Call : Type 0 where
  put : ℕ → ℕ → Event → Call  -- into voice v, before its i-th event
  cut : ℕ → ℕ → Call  -- the i-th event of voice v
  change : ℕ → ℕ → Event → Call  -- the i-th event of voice v becomes this one
  show : ℕ → ℕ → ℕ → Call  -- of voice v, from bar b on, so many bars
  heard_in : ℕ → ℕ → Call  -- what begins from a tick up to before another, in all voices
  how_long : ℕ → Call  -- the ticks of voice v

pub data Answer : Type 0 where
  done : Answer
  refused : ℕ → ℕ → Answer  -- a number of the list of refusals, and its place
  symbols : List Symbol → Answer
  sounds : List (ℕ × Heard) → Answer  -- each with its voice
  number : ℕ → Answer

-- the limits that a score is opened with, and the calls that can be done at all
pub record Limits : Type 0 where
  pub calls_can : ℕ → Bool
  pub signs : Bool  -- false as long as only notes that need no sign can be done
  pub voices : ℕ
  pub events : ℕ

-- how a score is laid out: its key, and how long a bar is
pub record Layout : Type 0 where
  pub in_key : ℕ
  pub bar_long : ℕ

abbrev pub Score : Type 0
Score = List (List Event)

unfoldable pub all_events : Score → ℕ
all_events [] = 0
all_events (v ∷ vs) = length v + all_events vs

unfoldable pub empty_voices : ℕ → Score
empty_voices zero = []
empty_voices (suc n) = [] ∷ empty_voices n

-- the most bars that are shown, the widest span that is heard, and the first number of ticks that no voice may have
abbrev pub most_bars : ℕ
most_bars = 16

abbrev pub widest_span : ℕ
widest_span = 1536

abbrev pub ticks_end : ℕ
ticks_end = 16777216

unfoldable pub call_number : Call → ℕ
call_number (put v i e) = 0
call_number (cut v i) = 1
call_number (change v i e) = 2
call_number (show v b n) = 3
call_number (heard_in a b) = 4
call_number (how_long v) = 5

abbrev pub in_stage : Limits → Layout → Event → Bool
in_stage l y (note p a d) = l.signs || key y.in_key p == a
in_stage l y (silence d) = true

unfoldable pub good_fields : Limits → Layout → Call → Bool
good_fields l y (put v i e) = fine e && in_stage l y e
good_fields l y (cut v i) = true
good_fields l y (change v i e) = fine e && in_stage l y e
good_fields l y (show v b n) = nat_le n most_bars
good_fields l y (heard_in a b) = nat_le b (a + widest_span)
good_fields l y (how_long v) = true

abbrev pub good_call : Limits → Layout → Call → Bool
good_call l y c = l.calls_can (call_number c) && good_fields l y c

abbrev pub voice : Score → ℕ → List Event
voice s v = slice_index_or s v []

unfoldable pub changed : Score → Call → Score
changed s (put v i e) = slice_set s v (take i (voice s v) ++ (e ∷ drop i (voice s v)))
changed s (cut v i) = slice_set s v (take i (voice s v) ++ drop (suc i) (voice s v))
changed s (change v i e) = slice_set s v (slice_set (voice s v) i e)
changed s (show v b n) = s
changed s (heard_in a b) = s
changed s (how_long v) = s

-- 4 for a voice that is not there, 5 for an event that is not there, or 0
unfoldable pub turned_by : Score → Call → ℕ
turned_by s (put v i e) = pick (nat_lt v (length s)) (pick (nat_le i (length (voice s v))) 0 5) 4
turned_by s (cut v i) = pick (nat_lt v (length s)) (pick (nat_lt i (length (voice s v))) 0 5) 4
turned_by s (change v i e) = pick (nat_lt v (length s)) (pick (nat_lt i (length (voice s v))) 0 5) 4
turned_by s (show v b n) = pick (nat_lt v (length s)) 0 4
turned_by s (heard_in a b) = 0
turned_by s (how_long v) = pick (nat_lt v (length s)) 0 4

unfoldable pub none_too_long : Score → Bool
none_too_long [] = true
none_too_long (v ∷ vs) = nat_lt (total v) ticks_end && none_too_long vs

-- not more events than the limit, and no voice too long
abbrev pub fits : Limits → Score → Bool
fits l s = nat_le (all_events s) l.events && none_too_long s

-- the number by which a call is turned away, or 0: first what is out of range, then what is not there, then what would not fit
abbrev pub turned : Limits → Layout → Score → Call → ℕ
turned l y s c = pick (good_call l y c) (pick (turned_by s c == 0) (pick (fits l (changed s c)) 0 6) (turned_by s c)) 2

abbrev pub after : Limits → Layout → Score → Call → Score
after l y s c = pick (turned l y s c == 0) (changed s c) s

-- of what is heard in voice v, what begins from tick a up to before tick b
unfoldable pub begins : ℕ → ℕ → ℕ → List Heard → List (ℕ × Heard)
begins v a b [] = []
begins v a b (h ∷ hs) = pick (nat_le a h.start && nat_lt h.start b) ((v, h) ∷ begins v a b hs) (begins v a b hs)

-- two rows as one, by time, and the first row's first where times are the same; the first number only bounds how many
unfoldable pub merged : ℕ → List (ℕ × Heard) → List (ℕ × Heard) → List (ℕ × Heard)
merged zero xs ys = xs ++ ys
merged (suc n) [] ys = ys
merged (suc n) (x ∷ xs) [] = x ∷ xs
merged (suc n) (x ∷ xs) (y ∷ ys) = pick (nat_le x.1.start y.1.start) (x ∷ merged n xs (y ∷ ys)) (y ∷ merged n (x ∷ xs) ys)

-- what begins in a span in all voices, of which the first has number v
unfoldable pub together : Score → ℕ → ℕ → ℕ → List (ℕ × Heard)
together [] v a b = []
together (e ∷ es) v a b =
    let mine : List (ℕ × Heard) = begins v a b (heard e 0) in
    let rest : List (ℕ × Heard) = together es (suc v) a b in
    merged (length mine + length rest) mine rest

-- the answer to a call that is not turned away
unfoldable pub told : Layout → Score → Call → Answer
told y s (show v b n) = symbols (so_many (from_bar b (printed y.in_key y.bar_long (voice s v))) n)
told y s (heard_in a b) = sounds (together s 0 a b)
told y s (how_long v) = number (total (voice s v))
told y s (put v i e) = done
told y s (cut v i) = done
told y s (change v i e) = done

-- the place of a refusal by number n: the voice's number at 4, the event's at 5, else 0
unfoldable pub place : Call → ℕ → ℕ
place (put v i e) n = pick (n == 4) v (pick (n == 5) i 0)
place (cut v i) n = pick (n == 4) v (pick (n == 5) i 0)
place (change v i e) n = pick (n == 4) v (pick (n == 5) i 0)
place (show v b m) n = pick (n == 4) v 0
place (heard_in a b) n = 0
place (how_long v) n = pick (n == 4) v 0

abbrev pub answer : Limits → Layout → Score → Call → Answer
answer l y s c = pick (turned l y s c == 0) (told y s c) (refused (turned l y s c) (place c (turned l y s c)))

-- the answers to calls one after the other, each to the score that those before it left
unfoldable pub answers : Limits → Layout → Score → List Call → List Answer
answers l y s [] = []
answers l y s (c ∷ cs) = answer l y s c ∷ answers l y (after l y s c) cs

unfoldable pub ran : Limits → Layout → Score → List Call → Score
ran l y s [] = s
ran l y s (c ∷ cs) = ran l y (after l y s c) cs
