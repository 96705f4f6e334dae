-- Symbols are read back from their text. Assumes nothing.
use Rattle.std.proofs.Common.{◌≡◌, ℕ, ◌/◌, ◌%◌, ◌<◌, ◌≤◌, Bool, true, false, not, ◌&&◌, ◌||◌, eqb, ltb, leb, List, [], ◌∷◌, ◌++◌, codes, decimal, sym, refl, ap, ◌∙◌, append_assoc, mod-lt, arith}
use Rattle.std.proofs.lemmas.Bool.{and_parts, ltb-true, leb-true, eqb-false, ne_eqb}
use Rattle.score.specs.Music.{pick, places, length_end}
use Rattle.score.specs.Print.{bar, head, rest}
use Rattle.score.proofs.Picks.{pick_false}
use Rattle.words.specs.Words.{got, stuck, or_else, is_digit, begins_with_digit, strip, one_of, most_in_two}
use Rattle.score.specs.Spelling.{letter, mark}
use Rattle.notation.specs.declared.Kind.TheVariants.{BarLine, Head}
use Rattle.notation.specs.Notation.{kind, sign_mark, step, tie_in, tie, value, head_on, symbol_text}
use Rattle.text_laws.specs.Back.{ended, SymbolsBack}
use Rattle.text_laws.proofs.Cases.{six, seven, digit_range}
use Rattle.text_laws.proofs.Numbers.{then_got, decimal_digit, numbers_back, place_back}

-- a head begins neither as a bar line nor as a rest: behind the step b there is a digit
step_b : (xs : List ℕ) → begins_with_digit xs ≡ true → kind (codes "b" ++ xs) ≡ got Head (codes "b" ++ xs)
unfolding begins_with_digit kind one_of strip
step_b [] h = cc
step_b (x ∷ xs) h =
    let r = digit_range x h in
    let e : eqb 97 x ≡ false = ne_eqb 97 x (omega arith) in
    ap (λ (b : Bool). or_else (pick b (strip (codes "r") xs) (stuck (x ∷ xs))) BarLine (λ ys. got Head (codes "b" ++ (x ∷ xs)))) e

kind_head : (sign s : ℕ) (xs : List ℕ) → sign < 6 → s < 7 → begins_with_digit xs ≡ true → kind (mark sign ++ (letter s ++ xs)) ≡ got Head (mark sign ++ (letter s ++ xs))
unfolding kind one_of strip
kind_head sign s xs hi hs h =
    six (λ n. kind (mark n ++ (letter s ++ xs)) ≡ got Head (mark n ++ (letter s ++ xs)))
    (seven (λ m. kind (letter m ++ xs) ≡ got Head (letter m ++ xs)) refl refl refl refl refl refl (step_b xs h) s hs) refl refl refl refl refl sign hi

mark_read : (sign s : ℕ) (xs : List ℕ) → sign < 6 → s < 7 → sign_mark (mark sign ++ (letter s ++ xs)) ≡ got sign (letter s ++ xs)
unfolding sign_mark one_of strip
mark_read sign s xs hi hs =
    six (λ n. sign_mark (mark n ++ (letter s ++ xs)) ≡ got n (letter s ++ xs))
    (seven (λ m. sign_mark (letter m ++ xs) ≡ got 0 (letter m ++ xs)) refl refl refl refl refl refl refl s hs)
    refl
    (seven (λ m. sign_mark (codes "-" ++ (letter m ++ xs)) ≡ got 2 (letter m ++ xs)) refl refl refl refl refl refl refl s hs)
    refl refl refl sign hi

step_read : (s : ℕ) (xs : List ℕ) → s < 7 → step (letter s ++ xs) ≡ got s xs
unfolding step one_of strip
step_read s xs h = seven (λ n. step (letter n ++ xs) ≡ got n xs) refl refl refl refl refl refl refl s h

-- a symbol has ended where neither a digit nor a tie follows
neither : (a b : Bool) → not (a || b) ≡ true → (a ≡ false) × (b ≡ false)
neither false false e = (refl, refl)
neither false true e = cc
neither true b e = cc

ended_digit : (more : List ℕ) → ended more ≡ true → begins_with_digit more ≡ false
unfolding begins_with_digit
ended_digit [] h = refl
ended_digit (x ∷ xs) h = (neither (is_digit x) (eqb x 126) h).0

ended_tie : (more : List ℕ) → ended more ≡ true → tie more ≡ got false more
unfolding strip
ended_tie [] h = refl
ended_tie (x ∷ xs) h =
    ap (tie_in (x ∷ xs)) (pick_false _ _ _ (ne_eqb 126 x (λ q. eqb-false x 126 (neither (is_digit x) (eqb x 126) h).1 (sym q))))

tie_read : (tied : Bool) (more : List ℕ) → ended more ≡ true → tie (pick tied (codes "~") [] ++ more) ≡ got tied more
unfolding strip
tie_read true more h = refl
tie_read false more h = ended_tie more h

tie_digit : (tied : Bool) (more : List ℕ) → ended more ≡ true → begins_with_digit (pick tied (codes "~") [] ++ more) ≡ false
unfolding begins_with_digit
tie_digit true more h = refl
tie_digit false more h = ended_digit more h

module _ (p sign v : ℕ) (tied : Bool) (more : List ℕ) (hp : p < places) (hs : sign < 6) (hv : v ≤ most_in_two) (e : ended more ≡ true) where
  abbrev s : ℕ
  s = p % 7

  abbrev o : ℕ
  o = p / 7

  abbrev tie_text : List ℕ
  tie_text = pick tied (codes "~") [] ++ more

  abbrev octave_text : List ℕ
  octave_text = decimal o ++ (codes ":" ++ (decimal v ++ tie_text))

  low : s < 7
  low = mod-lt p (omega arith)

  value_read : value (codes ":" ++ (decimal v ++ tie_text)) ≡ got v tie_text
  unfolding strip
  value_read = numbers_back most_in_two v tie_text hv (omega arith) (tie_digit tied more e)

  head_read : head_on sign s octave_text ≡ got (head p sign v tied) more
  unfolding begins_with_digit
  head_read =
      then_got _ _ _ _ (place_back p (codes ":" ++ (decimal v ++ tie_text)) hp refl)
      ∙ then_got _ _ _ _ value_read
      ∙ then_got _ _ _ _ (tie_read tied more e)

  head_back : symbol_text (mark sign ++ (letter s ++ octave_text)) ≡ got (head p sign v tied) more
  head_back =
      then_got _ _ _ _ (kind_head sign s octave_text hs low (decimal_digit o _ (omega arith)))
      ∙ then_got _ _ _ _ (mark_read sign s octave_text hs low)
      ∙ then_got _ _ _ _ (step_read s octave_text low)
      ∙ head_read

opened : (m l o v t more : List ℕ) → (m ++ (l ++ (o ++ (codes ":" ++ (v ++ t))))) ++ more ≡ m ++ (l ++ (o ++ (codes ":" ++ (v ++ (t ++ more)))))
opened m l o v t more = simp append_assoc

rest_back : (v : ℕ) (more : List ℕ) → v ≤ most_in_two → ended more ≡ true → symbol_text (codes "r" ++ (decimal v ++ more)) ≡ got (rest v) more
unfolding kind one_of strip
rest_back v more h e = then_got _ _ _ _ (numbers_back most_in_two v more h (omega arith) (ended_digit more e))

bar_back : (more : List ℕ) → symbol_text (codes "bar" ++ more) ≡ got bar more
unfolding kind one_of strip
bar_back more = refl

pub symbols_back : SymbolsBack
symbols_back bar more h e = bar_back more
symbols_back (head p s v tied) more h e =
    let a = and_parts (ltb p places) (leb s 5 && ltb v length_end) h in
    let b = and_parts (leb s 5) (ltb v length_end) a.1 in
    let hp = ltb-true p places a.0 in
    let hs = leb-true s 5 b.0 in
    let hv = ltb-true v length_end b.1 in
    ap symbol_text (opened (mark s) (letter (p % 7)) (decimal (p / 7)) (decimal v) (pick tied (codes "~") []) more)
    ∙ head_back p s v tied more hp (omega arith) (omega arith) e
symbols_back (rest v) more h e = let hv = ltb-true v length_end h in rest_back v more (omega arith) e
