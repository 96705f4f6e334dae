-- One step of reading a line: a digit more, a letter more. Assumes nothing.
use Rattle.std.proofs.Common.{◌≡◌, ℕ, ◌+◌, ◌-◌, ◌*◌, ◌<◌, ◌≤◌, true, false, leb, List, [], ◌∷◌, map, length, get_or, drop, sym, refl, ap, ◌∙◌, arith, Bor}
use Rattle.std.proofs.lemmas.List.{at_drop_more, at_drop_all}
use Rattle.std.proofs.lemmas.Bool.{le-leb, lt-leb, eq-eqb, ne_eqb, and_from, and_left, and_right}
use Rattle.score.specs.Music.{pick}
use Rattle.score.proofs.Picks.{pick_true, pick_false}
use Rattle.words.specs.Words.{Read, got, stuck, is_digit, begins_with_digit, number_on, number, strip, shorter, or_else, one_of}

pub digit_is : (d : ℕ) → d ≤ 9 → is_digit (48 + d) ≡ true
digit_is d h = and_from _ _ (le-leb 48 (48 + d) (omega arith)) (le-leb (48 + d) 57 (omega arith))

pub none_empty : (xs : List ℕ) → length xs < 1 → begins_with_digit xs ≡ false
unfolding begins_with_digit
none_empty [] h = refl
none_empty (x ∷ xs) h = absurd (omega arith)

pub none_below : (xs : List ℕ) → get_or xs 0 0 < 48 → begins_with_digit xs ≡ false
unfolding begins_with_digit
none_below [] h = refl
none_below (x ∷ xs) h = and_left _ _ (lt-leb 48 x h)

pub none_above : (xs : List ℕ) → 58 ≤ get_or xs 0 0 → begins_with_digit xs ≡ false
unfolding begins_with_digit
none_above [] h = refl
none_above (x ∷ xs) h = and_right (leb 48 x) _ (lt-leb x 57 h)

pub number_begun : (most d : ℕ) (xs ys : List ℕ) → ys ≡ (48 + d) ∷ xs → d ≤ 9 → number_on most 0 ys ≡ number most ys
unfolding begins_with_digit number
number_begun most d xs ys e h = sym (pick_true _ _ _ (ap begins_with_digit e ∙ digit_is d h))

-- a digit fits, or makes the number too large, or there is none
digit_on : (most n d : ℕ) (xs : List ℕ) → d ≤ 9 → number_on most n ((48 + d) ∷ xs) ≡ pick (leb (10 * n + d) most) (number_on most (10 * n + d) xs) (stuck ((48 + d) ∷ xs))
unfolding number_on
digit_on most n d xs h =
    pick_true _ _ _ (digit_is d h) ∙ ap (λ (x : ℕ). pick (leb (10 * n + x) most) (number_on most (10 * n + x) xs) (stuck ((48 + d) ∷ xs))) back
  where
    back : 48 + d - 48 ≡ d
    back = omega arith

pub digit_fits : (most n d : ℕ) (xs ys : List ℕ) → ys ≡ (48 + d) ∷ xs → d ≤ 9 → 10 * n + d ≤ most → number_on most n ys ≡ number_on most (10 * n + d) xs
digit_fits most n d xs ys e h l = ap (number_on most n) e ∙ digit_on most n d xs h ∙ pick_true _ _ _ (le-leb _ _ l)

pub digit_too_much : (most n d : ℕ) (xs ys : List ℕ) → ys ≡ (48 + d) ∷ xs → d ≤ 9 → most < 10 * n + d → number_on most n ys ≡ stuck ys
digit_too_much most n d xs ys e h l = ap (number_on most n) e ∙ digit_on most n d xs h ∙ pick_false _ _ _ (lt-leb _ _ l) ∙ ap stuck (sym e)

pub digits_over : (most n : ℕ) (ys : List ℕ) → begins_with_digit ys ≡ false → number_on most n ys ≡ got n ys
unfolding begins_with_digit number_on
digits_over most n [] e = refl
digits_over most n (y ∷ ys) e = pick_false _ _ _ e

-- a letter fits, or is another, or there is none
pub letter_same : (ws : List ℕ) (i x : ℕ) (xs ys : List ℕ) → i < length ws → ys ≡ x ∷ xs → x ≡ get_or ws i 0 → strip (drop (i + 1) ws) xs ≡ strip (drop i ws) ys
unfolding strip
letter_same ws i x xs ys h e same =
    sym (pick_true _ _ _ (eq-eqb _ _ (sym same)))
    ∙ sym (at_drop_more (λ (w : List ℕ). strip w (x ∷ xs)) ws i 0 h)
    ∙ ap (strip (drop i ws)) (sym e)

pub letter_other : (ws : List ℕ) (i x : ℕ) (xs ys : List ℕ) → i < length ws → ys ≡ x ∷ xs → (x ≡ get_or ws i 0 → ⊥) → strip (drop i ws) ys ≡ stuck ys
unfolding strip
letter_other ws i x xs ys h e other =
    ap (strip (drop i ws)) e
    ∙ at_drop_more (λ (w : List ℕ). strip w (x ∷ xs)) ws i 0 h
    ∙ pick_false _ _ _ (ne_eqb _ _ (λ s. other (sym s)))
    ∙ ap stuck (sym e)

pub letter_none : (ws : List ℕ) (i : ℕ) (ys : List ℕ) → i < length ws → length ys ≡ 0 → strip (drop i ws) ys ≡ stuck ys
unfolding strip
letter_none ws i [] h e = at_drop_more (λ (w : List ℕ). strip w []) ws i 0 h
letter_none ws i (y ∷ ys) h e = absurd (omega arith)

pub letters_over : (ws ys : List ℕ) (i : ℕ) → length ws ≤ i → strip (drop i ws) ys ≡ got tt ys
unfolding strip
letters_over ws ys i h = at_drop_all (λ (w : List ℕ). strip w ys) ws i h

-- what a word and the value beside it stand for
abbrev entry : {A : Type 0} → Bor (List ℕ) × A → List ℕ × A
entry w = (w.0.now, w.1)

-- a word of some fits, or does not, or there are no more
word_next :
    {A : Type 0} (ws : List (Bor (List ℕ) × A)) (w : Bor (List ℕ) × A) (i : ℕ) (u far xs : List ℕ) (r : Read (Unit {0}))
    → i < length ws → w ≡ get_or ws i w → u ≡ w.0.now → r ≡ strip u xs
    → or_else r w.1 (λ ys. one_of (map entry (drop (i + 1) ws)) (shorter ys far) xs) ≡ one_of (map entry (drop i ws)) far xs
unfolding one_of
word_next {A = A} ws w i u far xs r h is e k =
    ap (λ (q : Read (Unit {0})). or_else q w.1 (λ ys. one_of (map entry (drop (i + 1) ws)) (shorter ys far) xs)) (k ∙ ap (λ (v : List ℕ). strip v xs) e)
    ∙ ap (λ (v : Bor (List ℕ) × A). or_else (strip v.0.now xs) v.1 (λ ys. one_of (map entry (drop (i + 1) ws)) (shorter ys far) xs)) is
    ∙ sym (at_drop_more (λ (z : List (Bor (List ℕ) × A)). one_of (map entry z) far xs) ws i w h)

pub word_fits :
    {A : Type 0} (ws : List (Bor (List ℕ) × A)) (w : Bor (List ℕ) × A) (i : ℕ) (u far xs ys : List ℕ) (t : Unit {0})
    → i < length ws → w ≡ get_or ws i w → u ≡ w.0.now → got t ys ≡ strip u xs
    → got w.1 ys ≡ one_of (map entry (drop i ws)) far xs
word_fits ws w i u far xs ys t h is e k = word_next ws w i u far xs (got t ys) h is e k

pub word_unfit :
    {A : Type 0} (ws : List (Bor (List ℕ) × A)) (w : Bor (List ℕ) × A) (i : ℕ) (u far xs ys zs : List ℕ)
    → i < length ws → w ≡ get_or ws i w → u ≡ w.0.now → stuck ys ≡ strip u xs → zs ≡ shorter ys far
    → one_of (map entry (drop (i + 1) ws)) zs xs ≡ one_of (map entry (drop i ws)) far xs
word_unfit ws w i u far xs ys zs h is e k s =
    ap (λ (z : List ℕ). one_of (map entry (drop (i + 1) ws)) z xs) s ∙ word_next ws w i u far xs (stuck ys) h is e k

pub words_over : {A : Type 0} (ws : List (Bor (List ℕ) × A)) (i : ℕ) (far xs : List ℕ) → length ws ≤ i → stuck far ≡ one_of (map entry (drop i ws)) far xs
unfolding one_of
words_over {A = A} ws i far xs h = sym (at_drop_all (λ (z : List (Bor (List ℕ) × A)). one_of (map entry z) far xs) ws i h)
