-- Where the events of a voice begin on paper: in which bar, where in it, and with which sign. Assumes nothing: these are definitions.
use Rattle.std.specs.Prelude.{◌≡◌, ℕ, ◌+◌, ◌/◌, ◌%◌, ◌<◌, List, [], ◌∷◌, map, length, take, drop, ◌≢◌, nat_le, slice_index, slice_index_or, slice_set}
use Rattle.score.specs.Music.{pick, Event, note, silence, lasts}
use Rattle.score.specs.Print.{key, now}
use Rattle.laws.specs.Owed.{sign_of}

-- the bar in which an event begins, the tick of that bar, and the sign of its first head, which is 0 for a silence
pub record Onset : Type 0 where
  pub bar : ℕ
  pub tick : ℕ
  pub sign : ℕ

unfoldable pub sign_at : (ℕ → ℕ) → Event → ℕ
sign_at st (note p a d) = sign_of st p a
sign_at st (silence d) = 0

-- what holds behind an event that ends in its bar
unfoldable pub then_held : (ℕ → ℕ) → Event → ℕ → ℕ
then_held st (note p a d) = now st p a
then_held st (silence d) = st

-- of events that follow one another from tick o of bar n on, where st says which alteration holds at each place in this bar
unfoldable pub onsets : ℕ → ℕ → ℕ → ℕ → (ℕ → ℕ) → List Event → List Onset
onsets k b n o st [] = []
onsets k b n o st (e ∷ es) =
    record { bar = n; tick = o; sign = sign_at st e }
    ∷ onsets k b (n + (o + lasts e) / b) ((o + lasts e) % b) (pick (nat_le b (o + lasts e)) (key k) (then_held st e)) es

-- of a whole voice
abbrev pub onsets_of : ℕ → ℕ → List Event → List Onset
onsets_of k b es = onsets k b 0 0 (key k) es

-- as they lie in three rows of words
abbrev pub bars_of : ℕ → ℕ → List Event → List ℕ
bars_of k b es = map (λ x. x.bar) (onsets_of k b es)

abbrev pub ticks_of : ℕ → ℕ → List Event → List ℕ
ticks_of k b es = map (λ x. x.tick) (onsets_of k b es)

abbrev pub signs_of : ℕ → ℕ → List Event → List ℕ
signs_of k b es = map (λ x. x.sign) (onsets_of k b es)

-- WHAT A CHANGE REACHES. Where events begin depends on no event behind them.
abbrev pub OnsetsStay : Type 0
OnsetsStay = (k b i : ℕ) (es fs : List Event) → take i es ≡ take i fs → take i (onsets_of k b es) ≡ take i (onsets_of k b fs)

-- And an event that becomes another of the same length does not reach past the next bar line: from an event on that begins in a later bar, all begin
-- as they did.
abbrev pub OnsetsAfter : Type 0
OnsetsAfter =
    (k b i t : ℕ) (es : List Event) (e : Event) → i < t → t < length es → lasts e ≡ lasts (slice_index_or es i (silence 0)) →
    (slice_index (bars_of k b es) t ≢ slice_index (bars_of k b es) i) →
    drop t (onsets_of k b (slice_set es i e)) ≡ drop t (onsets_of k b es)
