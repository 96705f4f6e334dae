-- Numbers are read back from their digits. Assumes nothing.
use Rattle.std.proofs.Common.{◌≡◌, ℕ, ◌+◌, ◌-◌, ◌*◌, ◌/◌, ◌%◌, ◌^◌, ◌<◌, ◌≤◌, true, false, List, [], ◌∷◌, ◌++◌, codes, decimal, refl, ap, ◌∙◌, append_assoc, mod-lt, arith}
use Rattle.std.proofs.lemmas.Fmt.{decimal_by_steps}
use Rattle.score.proofs.Picks.{pick_true}
use Rattle.score.specs.Music.{places}
use Rattle.words.specs.Words.{Read, got, then, begins_with_digit, number_on, number, strip, spaced_number, place_on, most_in_one}
use Rattle.words.proofs.Steps.{digit_is, digit_fits, digits_over}
use Rattle.text_laws.specs.Back.{NumbersBack}

-- what was got is handed on
pub then_got : {A B : Type 0} (f : A → List ℕ → Read B) (r : Read A) (a : A) (xs : List ℕ) → r ≡ got a xs → then r f ≡ f a xs
then_got f r a xs e = ap (λ q. then q f) e

-- digits that come to n lead there, whatever follows, and the first of them is one
Leads : ℕ → ℕ → List ℕ → Type 0
Leads most n ds = (more : List ℕ) → n ≤ most → (begins_with_digit (ds ++ more) ≡ true) × (number_on most 0 (ds ++ more) ≡ number_on most n more)

one_digit : (most n : ℕ) → n < 10 → Leads most n ((48 + n) ∷ [])
unfolding Leads begins_with_digit
one_digit most n h more l =
    let z : 10 * 0 + n ≡ n = omega arith in
    (digit_is n (omega arith), digit_fits most 0 n more ((48 + n) ∷ more) refl (omega arith) (omega arith) ∙ ap (λ m. number_on most m more) z)

more_digits : (most n : ℕ) (ds : List ℕ) → 10 ≤ n → Leads most (n / 10) ds → Leads most n (ds ++ ((48 + n % 10) ∷ []))
unfolding Leads
more_digits most n ds h ih more l =
    let d : ℕ = n % 10 in
    let s : (ds ++ ((48 + d) ∷ [])) ++ more ≡ ds ++ ((48 + d) ∷ more) = append_assoc ds ((48 + d) ∷ []) more in
    let k = ih ((48 + d) ∷ more) (omega arith) in
    let z : 10 * (n / 10) + n % 10 ≡ n = omega arith in (
      ap begins_with_digit s ∙ k.0,
      ap (number_on most 0) s ∙ k.1 ∙ digit_fits most (n / 10) d more ((48 + d) ∷ more) refl (omega arith) (omega arith) ∙ ap (λ m. number_on most m more) z,
    )

leads : (most n : ℕ) → n < 2 ^ 64 → Leads most n (decimal n)
leads most n h = decimal_by_steps (Leads most) (one_digit most) (more_digits most) n h

pub decimal_digit : (n : ℕ) (more : List ℕ) → n < 2 ^ 64 → begins_with_digit (decimal n ++ more) ≡ true
unfolding Leads
decimal_digit n more h = (leads n n h more (omega arith)).0

pub numbers_back : NumbersBack
unfolding Leads number
numbers_back most n more l h e =
    let k = leads most n h more l in
    pick_true _ _ _ k.0 ∙ k.1 ∙ digits_over most n more e

-- and behind a space
pub spaced_back : (most n : ℕ) (more : List ℕ) → n ≤ most → n < 2 ^ 64 → begins_with_digit more ≡ false → spaced_number most (codes " " ++ (decimal n ++ more)) ≡ got n more
unfolding strip
spaced_back most n more l h e = numbers_back most n more l h e

-- a place is read back from its octave behind its step
pub place_back : (p : ℕ) (more : List ℕ) → p < places → begins_with_digit more ≡ false → place_on (p % 7) (decimal (p / 7) ++ more) ≡ got p more
place_back p more h e =
    let s : ℕ = p % 7 in
    let o : ℕ = p / 7 in
    let low : s < 7 = mod-lt p (omega arith) in
    let z : 7 * o + s ≡ p = omega arith in
    then_got _ _ _ _ (numbers_back ((most_in_one - s) / 7) o more (omega arith) (omega arith) e) ∙ ap (λ q. got q more) z
