-- Events are read back from their text. Assumes nothing.
use Rattle.std.proofs.Common.{◌≡◌, ℕ, ◌/◌, ◌%◌, ◌<◌, ◌≤◌, true, false, ◌&&◌, eqb, ltb, List, [], ◌∷◌, ◌++◌, codes, decimal, sym, refl, ap, ◌∙◌, append_assoc, mod-lt, arith}
use Rattle.std.proofs.lemmas.List.{append-nil}
use Rattle.std.proofs.lemmas.Bool.{and_parts, ltb-true, ne_eqb}
use Rattle.score.specs.Music.{Event, note, silence, places, alterations, length_end, fine_length, fine}
use Rattle.score.proofs.Picks.{pick_false}
use Rattle.words.specs.Words.{got, begins_with_digit, strip, one_of, most_in_two}
use Rattle.text.specs.declared.Beginning.TheVariants.{Step}
use Rattle.text.specs.Lines.{beginning, alteration_word, alteration_in, alteration, note_on, event, whole}
use Rattle.score.specs.Spelling.{letter, alteration_name, spelled_event}
use Rattle.text_laws.specs.Back.{EventsBack}
use Rattle.text_laws.proofs.Cases.{five, seven, digit_range}
use Rattle.text_laws.proofs.Numbers.{then_got, decimal_digit, spaced_back, place_back}

step_read : (s : ℕ) (xs : List ℕ) → s < 7 → beginning (letter s ++ xs) ≡ got (Step s) xs
unfolding beginning one_of strip
step_read s xs h = seven (λ n. beginning (letter n ++ xs) ≡ got (Step n) xs) refl refl refl refl refl refl refl s h

-- digits, and no space, follow a step that is not altered
unaltered : (xs : List ℕ) → begins_with_digit xs ≡ true → alteration xs ≡ got 2 xs
unfolding begins_with_digit strip
unaltered [] h = cc
unaltered (x ∷ xs) h =
    let r = digit_range x h in
    ap (alteration_in (x ∷ xs)) (pick_false _ _ _ (ne_eqb 32 x (omega arith)))

alteration_read : (a : ℕ) (xs : List ℕ) → a < 5 → begins_with_digit xs ≡ true → alteration (alteration_name a ++ xs) ≡ got a xs
unfolding alteration_word one_of strip
alteration_read a xs h d = five (λ n. alteration (alteration_name n ++ xs) ≡ got n xs) refl refl (unaltered xs d) refl refl a h

-- the fields of an event that can be written
short_length : (d : ℕ) → fine_length d ≡ true → d ≤ most_in_two
short_length d h = let l = ltb-true d length_end (and_parts (ltb 0 d) (ltb d length_end) (and_parts _ (eqb (d % 3) 0) h).0).1 in omega arith

note_fields : (p a d : ℕ) → fine (note p a d) ≡ true → (p < places) × (a < alterations) × (d ≤ most_in_two)
unfolding fine
note_fields p a d h =
    let f = and_parts (ltb p places && ltb a alterations) (fine_length d) h in
    let g = and_parts (ltb p places) (ltb a alterations) f.0 in
    (ltb-true p places g.0, ltb-true a alterations g.1, short_length d f.1)

note_read : (p a d : ℕ) (more : List ℕ) → p < places → a < alterations → d ≤ most_in_two → begins_with_digit more ≡ false →
    note_on (p % 7) (alteration_name a ++ (decimal (p / 7) ++ (codes " " ++ (decimal d ++ more)))) ≡ got (note p a d) more
unfolding begins_with_digit
note_read p a d more hp ha hd e =
    let tail : List ℕ = codes " " ++ (decimal d ++ more) in
    then_got _ _ _ _ (alteration_read a (decimal (p / 7) ++ tail) ha (decimal_digit (p / 7) tail (omega arith)))
    ∙ then_got _ _ _ _ (place_back p tail hp refl)
    ∙ then_got _ _ _ _ (spaced_back most_in_two d more hd (omega arith) e)

silence_read : (d : ℕ) (more : List ℕ) → d ≤ most_in_two → begins_with_digit more ≡ false → event (codes "silence " ++ (decimal d ++ more)) ≡ got (silence d) more
unfolding beginning one_of strip
silence_read d more h e = then_got _ _ _ _ (spaced_back most_in_two d more h (omega arith) e)

event_read : (e : Event) (more : List ℕ) → fine e ≡ true → begins_with_digit more ≡ false → event (spelled_event e ++ more) ≡ got e more
unfolding fine
event_read (note p a d) more h n =
    let s : ℕ = p % 7 in
    let f = note_fields p a d h in
    let low : s < 7 = mod-lt p (omega arith) in
    let tail : List ℕ = alteration_name a ++ (decimal (p / 7) ++ (codes " " ++ (decimal d ++ more))) in
    ap event
    (append_assoc (letter s) (alteration_name a ++ (decimal (p / 7) ++ (codes " " ++ decimal d))) more
    ∙ ap (λ (xs : List ℕ). letter s ++ xs)
    (append_assoc (alteration_name a) (decimal (p / 7) ++ (codes " " ++ decimal d)) more
    ∙ ap (λ (xs : List ℕ). alteration_name a ++ xs) (append_assoc (decimal (p / 7)) (codes " " ++ decimal d) more)))
    ∙ then_got _ _ _ _ (step_read s tail low)
    ∙ note_read p a d more f.0 f.1 f.2 n
event_read (silence d) more h n = silence_read d more (short_length d h) n

pub events_back : EventsBack
unfolding begins_with_digit
events_back e h = ap (λ (xs : List ℕ). whole (spelled_event e) (event xs)) (sym (append-nil (spelled_event e))) ∙ ap (whole (spelled_event e)) (event_read e [] h refl)
