-- What is printed is what the events' signs say, and from a bar line on these do not depend on what was before it. Assumes nothing.
use Rattle.std.proofs.Common.{◌≡◌, ℕ, suc, ◌+◌, ◌-◌, ◌/◌, ◌%◌, ◌<◌, ◌≤◌, Bool, true, false, eqb, leb, ◌⊎◌, List, [], ◌∷◌, ◌++◌, map, length, drop, sym, refl, ap, ◌∙◌, ap₂, inl, inr, arith}
use native.Mathlib.Nat.{mod-add-mod}
use Rattle.std.proofs.lemmas.List.{map-append, drop_at}
use Rattle.std.proofs.lemmas.Bool.{ne_eqb, le-leb, lt-leb, ltb-true, cases_lt, and_parts}
use Rattle.score.specs.Music.{pick, Event, note, silence, lasts, total, fine, all_fine}
use Rattle.score.specs.Print.{Symbol, key, pieces, as_values, chunks, has_line, now, print, printed}
use Rattle.score.proofs.Picks.{pick_true, pick_false}
use Rattle.laws.specs.Onsets.{Onset, sign_at, then_held, onsets, signs_of}
use Rattle.laws.specs.Owed.{sign_of, place_of, signed, owed, rest_from}
use Rattle.laws.proofs.Events.{fine_lasts}
use Rattle.laws.proofs.Laid.{next_below}
use Rattle.laws.proofs.Steps.{chunks_here, chunks_lined}
use Rattle.laws.proofs.Owing.{drawn_heads, drawn_rests}
use Rattle.laws.proofs.Onsets.{signs, held_behind, length_signs, held_after, onsets-++, signs_alike, passes, held_renewed}

-- a bar line is among an event's chunks just if the bar ends with it or before
no_line : (vs : List ℕ) → has_line (as_values vs) ≡ false
unfolding has_line as_values
no_line [] = refl
no_line (v ∷ vs) = no_line vs

line_among : (b o d : ℕ) → o < b → has_line (chunks (suc d) b o d) ≡ leb b (o + d)
line_among b o d h = go (cases_lt (o + d) b)
  where
    go : (o + d < b) ⊎ (b ≤ o + d) → has_line (chunks (suc d) b o d) ≡ leb b (o + d)
    go (inl l) = ap has_line (chunks_here d b o d l) ∙ no_line (pieces d d) ∙ sym (lt-leb b (o + d) l)
    go (inr l) = chunks_lined d b o d h l ∙ sym (le-leb b (o + d) l)

-- what is printed of events is what is printed with their signs
pub print_signed : (k b n o : ℕ) (st : ℕ → ℕ) (es : List Event) → o < b → all_fine es ≡ true → print k b o st es ≡ signed b o es (signs k b n o st es)
unfolding print signed onsets all_fine fine place_of lasts sign_at then_held
print_signed k b n o st [] h f = refl
print_signed k b n o st (note p a d ∷ es) h f =
    let q = ltb-true p 70 (and_parts _ _ (and_parts _ _ (and_parts _ _ f).0).0).0 in
    ap₂ (λ (xs ys : List Symbol). xs ++ ys) (sym (drawn_heads p (sign_of st p a) (chunks (suc d) b o d) (λ z. omega arith)))
    (ap (λ (c : Bool). print k b ((o + d) % b) (pick c (key k) (now st p a)) es) (line_among b o d h)
    ∙ print_signed k b (n + (o + d) / b) ((o + d) % b) _ es (next_below b (o + d) (omega arith)) (and_parts _ _ f).1)
print_signed k b n o st (silence d ∷ es) h f =
    ap₂ (λ (xs ys : List Symbol). xs ++ ys) (sym (drawn_rests 0 (chunks (suc d) b o d)))
    (ap (λ (c : Bool). print k b ((o + d) % b) (pick c (key k) st) es) (line_among b o d h)
    ∙ print_signed k b (n + (o + d) / b) ((o + d) % b) _ es (next_below b (o + d) (omega arith)) (and_parts _ _ f).1)

pub printed_signed : (k b : ℕ) (es : List Event) → 0 < b → all_fine es ≡ true → printed k b es ≡ signed b 0 es (signs_of k b es)
printed_signed k b es h f = print_signed k b 0 0 (key k) es h f

-- from a bar line on the signs do not depend on what held before it
pub renewed : (k b n m o t : ℕ) (st su : ℕ → ℕ) (es : List Event) → o < b → (o + t) % b ≡ 0 → all_fine es ≡ true → (t ≡ 0 → st ≡ su) →
    rest_from b t 0 es (signs k b n o st es) ≡ rest_from b t 0 es (signs k b m o su es)
unfolding rest_from onsets all_fine
renewed k b n m o t st su [] h z f w = refl
renewed k b n m o t st su (e ∷ es) h z f w =
    go (cases_lt t (lasts e)) (λ y v. renewed k b (n + (o + lasts e) / b) (m + (o + lasts e) / b) ((o + lasts e) % b) (t - lasts e) (held_behind k b o st e) (held_behind k b o su e) es (next_below b (o + lasts e) (omega arith)) y (and_parts _ _ f).1 v)
  where
    ends : List ℕ
    ends = signs k b (n + (o + lasts e) / b) ((o + lasts e) % b) (held_behind k b o st e) es

    ends' : List ℕ
    ends' = signs k b (m + (o + lasts e) / b) ((o + lasts e) % b) (held_behind k b o su e) es

    long : 0 < lasts e
    long = (fine_lasts e (and_parts _ _ f).0).0

    -- the key holds behind an event that reaches a bar line
    same : b ≤ o + lasts e → held_behind k b o st e ≡ held_behind k b o su e
    same l = pick_true _ _ _ (le-leb b (o + lasts e) l) ∙ sym (pick_true _ _ _ (le-leb b (o + lasts e) l))

    go : (t < lasts e) ⊎ (lasts e ≤ t) →
        (((o + lasts e) % b + (t - lasts e)) % b ≡ 0 → (t - lasts e ≡ 0 → held_behind k b o st e ≡ held_behind k b o su e) → rest_from b (t - lasts e) 0 es ends ≡ rest_from b (t - lasts e) 0 es ends') →
        pick (leb (lasts e) t) (rest_from b (t - lasts e) 0 es ends) (owed b 0 (place_of e) (pick (eqb t 0) (sign_at st e) 0) (lasts e - t) es ends)
        ≡ pick (leb (lasts e) t) (rest_from b (t - lasts e) 0 es ends') (owed b 0 (place_of e) (pick (eqb t 0) (sign_at su e) 0) (lasts e - t) es ends')
    go (inr l) ih =
        let y : o + lasts e + (t - lasts e) ≡ o + t = omega arith in
        let v : ((o + lasts e) % b + (t - lasts e)) % b ≡ 0 = mod-add-mod (o + lasts e) b (t - lasts e) ∙ ap (λ (x : ℕ). x % b) y ∙ z in
        let i : t - lasts e ≡ 0 → held_behind k b o st e ≡ held_behind k b o su e = λ q. same (passes b o (lasts e) h long (ap (λ (x : ℕ). (o + x) % b) (let w : lasts e ≡ t = omega arith in w) ∙ z)) in
        pick_true _ _ _ (le-leb (lasts e) t l) ∙ ih v i ∙ sym (pick_true _ _ _ (le-leb (lasts e) t l))
    go (inl l) ih = pick_false _ _ _ (lt-leb (lasts e) t l) ∙ begun (cases_lt 0 t) ∙ sym (pick_false _ _ _ (lt-leb (lasts e) t l))
      where
        begun : (0 < t) ⊎ (t ≤ 0) →
            owed b 0 (place_of e) (pick (eqb t 0) (sign_at st e) 0) (lasts e - t) es ends ≡ owed b 0 (place_of e) (pick (eqb t 0) (sign_at su e) 0) (lasts e - t) es ends'
        begun (inl q) =
            let r = passes b o t h q z in
            ap₂ (λ (s : ℕ) (ss : List ℕ). owed b 0 (place_of e) s (lasts e - t) es ss)
            (pick_false _ _ _ (ne_eqb t 0 (λ x. omega arith)) ∙ sym (pick_false _ _ _ (ne_eqb t 0 (λ x. omega arith))))
            (signs_alike k b _ _ _ _ _ es (same (omega arith)))
        begun (inr q) =
            let v : st ≡ su = w (let x : t ≡ 0 = omega arith in x) in
            ap₂ (λ (s : ℕ) (ss : List ℕ). owed b 0 (place_of e) (pick (eqb t 0) s 0) (lasts e - t) es ss) (ap (λ (g : ℕ → ℕ). sign_at g e) v)
            (signs_alike k b _ _ _ _ _ es (ap (λ (g : ℕ → ℕ). held_behind k b o g e) v))

-- so from a bar line on, what is left of the events behind es does not depend on es, but for where it ends: t is the line's tick
pub behind_renewed : (k b t : ℕ) (es gs : List Event) → 0 < b → t % b ≡ 0 → all_fine es ≡ true → all_fine gs ≡ true → total es ≤ t →
    rest_from b (t - total es) 0 gs (drop (length es) (signs_of k b (es ++ gs))) ≡ rest_from b (t - total es) 0 gs (signs k b 0 (total es % b) (key k) gs)
behind_renewed k b t es gs h z f g l =
    let y : total es + (t - total es) ≡ t = omega arith in
    let w : (0 + total es) % b ≡ total es % b = ap (λ (x : ℕ). x % b) (let v : 0 + total es ≡ total es = omega arith in v) in
    ap (λ (ss : List ℕ). rest_from b (t - total es) 0 gs ss)
    (ap (λ (xs : List Onset). drop (length es) (map (λ (x : Onset). x.sign) xs)) (onsets-++ k b 0 0 (key k) es gs h)
    ∙ ap (drop (length es)) (map-append (λ (x : Onset). x.sign) (onsets k b 0 0 (key k) es) _)
    ∙ drop_at (signs_of k b es) _ (length es) (length_signs k b es)
    ∙ ap (λ (o : ℕ). signs k b (0 + (0 + total es) / b) o (held_after k b 0 (key k) es) gs) w)
    ∙ renewed k b _ 0 (total es % b) (t - total es) (held_after k b 0 (key k) es) (key k) gs (next_below b (total es) h)
    (mod-add-mod (total es) b (t - total es) ∙ ap (λ (x : ℕ). x % b) y ∙ z) g
    (λ q. held_renewed k b 0 (key k) es h f (λ _. refl) (w ∙ ap (λ (x : ℕ). x % b) (let v : total es ≡ t = omega arith in v) ∙ z))
