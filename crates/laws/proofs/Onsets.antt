-- Where the events of a voice begin: how many ticks are before each, that bars never fall, and where events begin that are behind others.
-- Assumes nothing.
use Rattle.std.proofs.Common.{◌≡◌, ℕ, zero, suc, ◌+◌, ◌*◌, ◌/◌, ◌%◌, ◌<◌, ◌≤◌, Bool, true, false, eqb, ltb, leb, ◌⊎◌, List, [], ◌∷◌, ◌++◌, map, length, get_or, take, sym, refl, ap, ◌∙◌, ap₂, inl, inr, mul-le-mul_right, mod-eq_of_lt, add-mul, div-add-mod', arith}
use native.Mathlib.Nat.{mod-add-mod, div-eq_of_lt, mul-add-div_right}
use Rattle.std.proofs.lemmas.List.{length-map}
use Rattle.std.proofs.lemmas.Bool.{le-leb, ltb-true, cases_lt, and_parts}
use Rattle.score.specs.Music.{pick, places, alterations, fine_length, Event, note, silence, lasts, total, fine, all_fine}
use Rattle.score.specs.Print.{key, now}
use Rattle.score.proofs.Picks.{pick_true, pick_both}
use Rattle.laws.specs.Onsets.{Onset, sign_at, then_held, onsets, bars_of, ticks_of, signs_of}
use Rattle.laws.specs.Owed.{sign_of}
use Rattle.laws.specs.Rows.{event_of}
use Rattle.laws.proofs.Events.{fine_lasts}
use Rattle.laws.proofs.Laid.{next_below}

-- the signs of events that follow one another from tick o of bar n on
abbrev pub signs : ℕ → ℕ → ℕ → ℕ → (ℕ → ℕ) → List Event → List ℕ
signs k b n o st es = map (λ (x : Onset). x.sign) (onsets k b n o st es)

-- what holds behind an event
abbrev pub held_behind : ℕ → ℕ → ℕ → (ℕ → ℕ) → Event → ℕ → ℕ
held_behind k b o st e = pick (leb b (o + lasts e)) (key k) (then_held st e)

-- an event by its words: the sign that it has, and what holds behind it
pub sign_words : (st : ℕ → ℕ) (p a d : ℕ) → sign_at st (event_of p a d) ≡ pick (eqb p 70) 0 (sign_of st p a)
unfolding sign_at
sign_words st p a d = go (eqb p 70)
  where
    go : (c : Bool) → sign_at st (pick c (silence d) (note p a d)) ≡ pick c 0 (sign_of st p a)
    go true = refl
    go false = refl

pub held_words : (st : ℕ → ℕ) (p a d : ℕ) → then_held st (event_of p a d) ≡ pick (eqb p 70) st (now st p a)
unfolding then_held
held_words st p a d = go (eqb p 70)
  where
    go : (c : Bool) → then_held st (pick c (silence d) (note p a d)) ≡ pick c st (now st p a)
    go true = refl
    go false = refl

pub length_onsets : (k b n o : ℕ) (st : ℕ → ℕ) (es : List Event) → length (onsets k b n o st es) ≡ length es
unfolding onsets
length_onsets k b n o st [] = refl
length_onsets k b n o st (e ∷ es) = ap suc (length_onsets k b (n + (o + lasts e) / b) ((o + lasts e) % b) (held_behind k b o st e) es)

-- a sign is none, or that of one of the alterations
sign_small : (st : ℕ → ℕ) (e : Event) → fine e ≡ true → sign_at st e ≤ alterations
unfolding sign_at fine
sign_small st (note p a d) f =
    let l : a < alterations = ltb-true a alterations (and_parts (ltb p places) (ltb a alterations) (and_parts _ (fine_length d) f).0).1 in
    pick_both (λ (x : ℕ). x ≤ alterations) (eqb (st p) a) 0 (suc a) (λ _. omega arith) (λ _. omega arith)
sign_small st (silence d) f = omega arith

pub signs_small : (k b n o : ℕ) (st : ℕ → ℕ) (es : List Event) (i : ℕ) → all_fine es ≡ true → get_or (signs k b n o st es) i 0 ≤ alterations
unfolding onsets all_fine
signs_small k b n o st [] i f = omega arith
signs_small k b n o st (e ∷ es) zero f = sign_small st e (and_parts _ _ f).0
signs_small k b n o st (e ∷ es) (suc i) f = signs_small k b (n + (o + lasts e) / b) ((o + lasts e) % b) (held_behind k b o st e) es i (and_parts _ _ f).1

-- how many ticks are before an event: those of the bars before it and of its own; and it begins in its bar
pub onset_time : (k b n o : ℕ) (st : ℕ → ℕ) (es : List Event) (i : ℕ) → o < b → i < length es →
    (get_or (map (λ (x : Onset). x.bar) (onsets k b n o st es)) i 0 * b + get_or (map (λ (x : Onset). x.tick) (onsets k b n o st es)) i 0 ≡ n * b + o + total (take i es))
    × (get_or (map (λ (x : Onset). x.tick) (onsets k b n o st es)) i 0 < b)
unfolding onsets total
onset_time k b n o st [] i h l = absurd (omega arith)
onset_time k b n o st (e ∷ es) zero h l = (omega arith, h)
onset_time k b n o st (e ∷ es) (suc i) h l =
    let r = onset_time k b (n + (o + lasts e) / b) ((o + lasts e) % b) (held_behind k b o st e) es i (next_below b (o + lasts e) (omega arith)) (omega arith) in
    let m = add-mul n ((o + lasts e) / b) b in
    let d = div-add-mod' (o + lasts e) b in
    (omega (arith, r.0), r.1)

-- of the i-th event of a voice
pub begins_at : (k b : ℕ) (es : List Event) (i : ℕ) → 0 < b → i < length es →
    (get_or (bars_of k b es) i 0 * b + get_or (ticks_of k b es) i 0 ≡ total (take i es)) × (get_or (ticks_of k b es) i 0 < b)
begins_at k b es i h l = let r = onset_time k b 0 0 (key k) es i h l in (omega (arith, r.0), r.1)

pub length_bars : (k b : ℕ) (es : List Event) → length (bars_of k b es) ≡ length es
length_bars k b es = length-map (onsets k b 0 0 (key k) es) _ ∙ length_onsets k b 0 0 (key k) es

pub length_ticks : (k b : ℕ) (es : List Event) → length (ticks_of k b es) ≡ length es
length_ticks k b es = length-map (onsets k b 0 0 (key k) es) _ ∙ length_onsets k b 0 0 (key k) es

pub length_signs : (k b : ℕ) (es : List Event) → length (signs_of k b es) ≡ length es
length_signs k b es = length-map (onsets k b 0 0 (key k) es) _ ∙ length_onsets k b 0 0 (key k) es

-- an event begins before bar n just if its bar is before that
pub begins_before : (k b : ℕ) (es : List Event) (i n : ℕ) → 0 < b → i < length es → get_or (bars_of k b es) i 0 < n → total (take i es) < n * b
begins_before k b es i n h l q =
    let r = begins_at k b es i h l in
    let m : suc (get_or (bars_of k b es) i 0) * b ≤ n * b = mul-le-mul_right b q in
    omega (arith, r.0, r.1)

pub begins_behind : (k b : ℕ) (es : List Event) (i n : ℕ) → 0 < b → i < length es → n ≤ get_or (bars_of k b es) i 0 → n * b ≤ total (take i es)
begins_behind k b es i n h l q =
    let r = begins_at k b es i h l in
    let m : n * b ≤ get_or (bars_of k b es) i 0 * b = mul-le-mul_right b q in
    omega (arith, r.0)

-- bars never fall
total_grows : (es : List Event) (i j : ℕ) → i ≤ j → total (take i es) ≤ total (take j es)
unfolding total
total_grows es zero j l = omega arith
total_grows es (suc i) zero l = absurd (omega arith)
total_grows [] (suc i) (suc j) l = omega arith
total_grows (e ∷ es) (suc i) (suc j) l = let ih = total_grows es i j (omega arith) in omega arith

pub bars_rise : (k b : ℕ) (es : List Event) (i j : ℕ) → 0 < b → i ≤ j → j < length es → get_or (bars_of k b es) i 0 ≤ get_or (bars_of k b es) j 0
bars_rise k b es i j h l m = go (cases_lt (get_or (bars_of k b es) j 0) (get_or (bars_of k b es) i 0))
  where
    go : (get_or (bars_of k b es) j 0 < get_or (bars_of k b es) i 0) ⊎ (get_or (bars_of k b es) i 0 ≤ get_or (bars_of k b es) j 0) → get_or (bars_of k b es) i 0 ≤ get_or (bars_of k b es) j 0
    go (inl q) = absurd (omega (arith, begins_before k b es j (get_or (bars_of k b es) i 0) h m q, begins_behind k b es i (get_or (bars_of k b es) i 0) h (omega arith) (omega arith), total_grows es i j l))
    go (inr q) = q

-- what holds behind events that begin at tick o of a bar
unfoldable pub held_after : ℕ → ℕ → ℕ → (ℕ → ℕ) → List Event → ℕ → ℕ
held_after k b o st [] = st
held_after k b o st (e ∷ es) = held_after k b ((o + lasts e) % b) (held_behind k b o st e) es

-- events behind events
pub onsets-++ : (k b n o : ℕ) (st : ℕ → ℕ) (es gs : List Event) → o < b →
    onsets k b n o st (es ++ gs) ≡ onsets k b n o st es ++ onsets k b (n + (o + total es) / b) ((o + total es) % b) (held_after k b o st es) gs
unfolding onsets total held_after
onsets-++ k b n o st [] gs h =
    let z : o + 0 ≡ o = omega arith in
    let m : (o + 0) % b ≡ o = ap (λ (x : ℕ). x % b) z ∙ mod-eq_of_lt h in
    let d : (o + 0) / b ≡ 0 = ap (λ (x : ℕ). x / b) z ∙ div-eq_of_lt h in
    ap₂ (λ (i j : ℕ). onsets k b i j st gs) (let y : n ≡ n + (o + 0) / b = omega arith in y) (sym m)
onsets-++ k b n o st (e ∷ es) gs h =
    let d = o + lasts e in
    let y : d / b * b + (d % b + total es) ≡ o + (lasts e + total es) = omega (arith, div-add-mod' d b) in
    let q : d / b + (d % b + total es) / b ≡ (o + (lasts e + total es)) / b = sym (mul-add-div_right {m = b} (let z : 0 < b = omega arith in z) (d / b) (d % b + total es)) ∙ ap (λ (x : ℕ). x / b) y in
    let p : n + d / b + (d % b + total es) / b ≡ n + (o + (lasts e + total es)) / b = omega (arith, q) in
    let z : d + total es ≡ o + (lasts e + total es) = omega arith in
    let m : (d % b + total es) % b ≡ (o + (lasts e + total es)) % b = mod-add-mod d b (total es) ∙ ap (λ (x : ℕ). x % b) z in
    ap (λ (xs : List Onset). record { bar = n; tick = o; sign = sign_at st e } ∷ xs)
    (onsets-++ k b (n + d / b) (d % b) (held_behind k b o st e) es gs (next_below b d (omega arith))
    ∙ ap₂ (λ (i j : ℕ). onsets k b (n + d / b) (d % b) (held_behind k b o st e) es ++ onsets k b i j (held_after k b (d % b) (held_behind k b o st e) es) gs) p m)

-- signs do not depend on the number of the bar
pub signs_alike : (k b n m o : ℕ) (st su : ℕ → ℕ) (es : List Event) → st ≡ su → signs k b n o st es ≡ signs k b m o su es
unfolding onsets
signs_alike k b n m o st su [] w = refl
signs_alike k b n m o st su (e ∷ es) w =
    ap₂ (λ (s : ℕ) (ss : List ℕ). s ∷ ss) (ap (λ (g : ℕ → ℕ). sign_at g e) w)
    (signs_alike k b (n + (o + lasts e) / b) (m + (o + lasts e) / b) ((o + lasts e) % b) _ _ es (ap (λ (g : ℕ → ℕ). held_behind k b o g e) w))

-- a tick that is a bar's first, of some ticks behind one: a bar line is passed
pub passes : (b o d : ℕ) → o < b → 0 < d → (o + d) % b ≡ 0 → b ≤ o + d
passes b o d h q z = go (cases_lt (o + d) b)
  where
    go : (o + d < b) ⊎ (b ≤ o + d) → b ≤ o + d
    go (inl l) = let m : (o + d) % b ≡ o + d = mod-eq_of_lt l in absurd (omega arith)
    go (inr l) = l

-- where events end with a bar the key holds behind them
pub held_renewed : (k b o : ℕ) (st : ℕ → ℕ) (es : List Event) → o < b → all_fine es ≡ true → (o ≡ 0 → st ≡ key k) → (o + total es) % b ≡ 0 → held_after k b o st es ≡ key k
unfolding held_after total all_fine
held_renewed k b o st [] h f w z =
    let y : o + 0 ≡ o = omega arith in
    let m : (o + 0) % b ≡ o = ap (λ (x : ℕ). x % b) y ∙ mod-eq_of_lt h in
    w (sym m ∙ z)
held_renewed k b o st (e ∷ es) h f w z =
    let y : o + lasts e + total es ≡ o + (lasts e + total es) = omega arith in
    held_renewed k b ((o + lasts e) % b) (held_behind k b o st e) es (next_below b (o + lasts e) (omega arith)) (and_parts _ _ f).1
    (λ q. pick_true _ _ _ (le-leb b (o + lasts e) (passes b o (lasts e) h (fine_lasts e (and_parts _ _ f).0).0 q)))
    (mod-add-mod (o + lasts e) b (total es) ∙ ap (λ (x : ℕ). x % b) y ∙ z)
