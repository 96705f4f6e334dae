-- Which call a row of bytes is, or where it ceases to be one. Assumes nothing: these are definitions.
-- Each part is read from what is left of a row, which goes on at a given place, and hands on what is behind it.
use Rattle.std.specs.Prelude.{ℕ, zero, suc, ◌+◌, List, [], ◌∷◌, Ok, Err, Result, ◌==◌, slice_index}
use Rattle.score.specs.Music.{pick, Event, note, silence}
use Rattle.score.specs.Calls.{Call, put, cut, change, show, heard_in, how_long, Answer, refused}
use Rattle.score.specs.Meaning.{refusal_meant}
use Rattle.score.specs.declared.Refusal.{Refusal}
use Rattle.wire.specs.Reading.{of_two, of_four}

-- no call can be read: the answer, by the place of the first byte that does not fit
abbrev pub unfit : {A : Type 0} → ℕ → Result A Answer
unfit n = Err (refused 1 n)

-- first one, and with what it gives the other
abbrev pub then : {A B : Type 0} → Result A Answer → (A → Result B Answer) → Result B Answer
then (Ok a) f = f a
then (Err e) f = Err e

-- the next four bytes
abbrev pub four_at : ℕ → List ℕ → Result (ℕ × ℕ × ℕ × ℕ × List ℕ) Answer
four_at n [] = unfit n
four_at n (a ∷ []) = unfit (n + 1)
four_at n (a ∷ (b ∷ [])) = unfit (n + 2)
four_at n (a ∷ (b ∷ (c ∷ []))) = unfit (n + 3)
four_at n (a ∷ (b ∷ (c ∷ (d ∷ bs)))) = Ok (a, b, c, d, bs)

-- a number in four bytes
abbrev pub field_at : ℕ → List ℕ → Result (ℕ × List ℕ) Answer
field_at n bs = then (four_at n bs) (λ q. Ok (of_four q.0 q.1 q.2 q.3, q.4))

-- an event by its kind: a note, or a silence, whose place and alteration are not looked at
abbrev pub note_at : ℕ → List ℕ → Result (Event × List ℕ) Answer
note_at n bs = then (four_at n bs) (λ q. Ok (note q.0 q.1 (of_two q.2 q.3), q.4))

abbrev pub silence_at : ℕ → List ℕ → Result (Event × List ℕ) Answer
silence_at n bs = then (four_at n bs) (λ q. Ok (silence (of_two q.2 q.3), q.4))

abbrev pub event_by : ℕ → ℕ → List ℕ → Result (Event × List ℕ) Answer
event_by n k bs = pick (k == 0) (note_at (n + 1) bs) (pick (k == 1) (silence_at (n + 1) bs) (unfit n))

abbrev pub event_at : ℕ → List ℕ → Result (Event × List ℕ) Answer
event_at n [] = unfit n
event_at n (k ∷ bs) = event_by n k bs

-- nothing more
abbrev pub end_at : {A : Type 0} → ℕ → List ℕ → A → Result A Answer
end_at n [] x = Ok x
end_at n (b ∷ bs) x = unfit n

-- so many fields from a place on, and nothing more
unfoldable pub fields_at : ℕ → ℕ → List ℕ → Result (List ℕ) Answer
fields_at n zero bs = end_at n bs []
fields_at n (suc m) bs = then (field_at n bs) (λ v. then (fields_at (n + 4) m v.1) (λ vs. Ok (v.0 ∷ vs)))

-- what follows a call's number: so many fields, or two and an event
abbrev pub fields : ℕ → List ℕ → Result (List ℕ) Answer
fields m bs = fields_at 1 m bs

abbrev pub fields_and_event : List ℕ → Result (ℕ × ℕ × Event) Answer
fields_and_event bs =
    then (field_at 1 bs) (λ v. then (field_at 5 v.1) (λ i. then (event_at 9 i.1) (λ e. end_at 14 e.1 (v.0, i.0, e.0))))

-- by a call's number
abbrev pub call_by : ℕ → List ℕ → Result Call Answer
call_by k bs =
    pick (k == 0) (then (fields_and_event bs) (λ x. Ok (put x.0 x.1 x.2)))
    (pick (k == 1) (then (fields 2 bs) (λ x. Ok (cut (slice_index x 0) (slice_index x 1))))
    (pick (k == 2) (then (fields_and_event bs) (λ x. Ok (change x.0 x.1 x.2)))
    (pick (k == 3) (then (fields 3 bs) (λ x. Ok (show (slice_index x 0) (slice_index x 1) (slice_index x 2))))
    (pick (k == 4) (then (fields 2 bs) (λ x. Ok (heard_in (slice_index x 0) (slice_index x 1))))
    (pick (k == 5) (then (fields 1 bs) (λ x. Ok (how_long (slice_index x 0))))
    (unfit 0))))))

abbrev pub read_call : List ℕ → Result Call Answer
read_call [] = unfit 0
read_call (k ∷ bs) = call_by k bs

-- what the code gives, as the definitions have it
abbrev pub read_as : {A B : Type 0} → (A → B) → Result A Refusal → Result B Answer
read_as f (Ok a) = Ok (f a)
read_as f (Err e) = Err (refusal_meant e)
