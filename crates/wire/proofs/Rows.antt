-- Lemmas on rows of bytes that are put together: how long they are, and that each part is one of bytes. Assumes nothing.
use Rattle.std.proofs.Common.{◌≡◌, ℕ, ◌*◌, ◌<◌, true, ltb, List, [], ◌∷◌, ◌++◌, length, sym, refl, ap, ◌∙◌, append_assoc, arith, length-append}
use Rattle.std.proofs.lemmas.Bool.{and_parts, and_from, lt-ltb, ltb-true}
use Rattle.score.specs.Music.{Heard, length_end}
use Rattle.score.specs.Print.{Symbol}
use Rattle.score.specs.Promise.{all_below, field_end, field}
use Rattle.wire.specs.Bytes.{two, four, symbol_bytes, sound_bytes, symbols_bytes, sounds_bytes, each}
pub use Rattle.wire.specs.Items.{length_symbol}

pub each-++ : {A : Type 0} (f : A → List ℕ) (xs ys : List A) → each f (xs ++ ys) ≡ each f xs ++ each f ys
unfolding each
each-++ f [] ys = refl
each-++ f (x ∷ xs) ys = ap (λ r. f x ++ r) (each-++ f xs ys) ∙ sym (append_assoc (f x) (each f xs) (each f ys))

pub length_each : {A : Type 0} (f : A → List ℕ) (w : ℕ) → ((x : A) → length (f x) ≡ w) → (xs : List A) → length (each f xs) ≡ w * length xs
unfolding each
length_each f w wide [] = omega arith
length_each f w wide (x ∷ xs) = let more = length_each f w wide xs in simp length-append (omega (arith, wide x))

pub length_symbols : (xs : List Symbol) → length (symbols_bytes xs) ≡ 5 * length xs
length_symbols xs = length_each symbol_bytes 5 length_symbol xs

pub length_sounds : (xs : List (ℕ × Heard)) → length (sounds_bytes xs) ≡ 8 * length xs
length_sounds xs = length_each sound_bytes 8 (λ x. refl) xs

pub all_below-++ : (b : ℕ) (xs ys : List ℕ) → all_below b xs ≡ true → all_below b ys ≡ true → all_below b (xs ++ ys) ≡ true
unfolding all_below
all_below-++ b [] ys p q = q
all_below-++ b (x ∷ xs) ys p q =
    let both = and_parts (ltb x b) (all_below b xs) p in and_from (ltb x b) _ both.0 (all_below-++ b xs ys both.1 q)

pub all_below_parts : (b : ℕ) (xs ys : List ℕ) → all_below b (xs ++ ys) ≡ true → (all_below b xs ≡ true) × (all_below b ys ≡ true)
unfolding all_below
all_below_parts b [] ys p = (refl, p)
all_below_parts b (x ∷ xs) ys p =
    let both = and_parts (ltb x b) (all_below b (xs ++ ys)) p in
    let rest = all_below_parts b xs ys both.1 in
    (and_from (ltb x b) _ both.0 rest.0, rest.1)

pub all_below_more : (b x : ℕ) (xs : List ℕ) → x < b → all_below b xs ≡ true → all_below b (x ∷ xs) ≡ true
unfolding all_below
all_below_more b x xs h p = and_from (ltb x b) _ (lt-ltb x b h) p

pub below_first : (x : ℕ) (xs : List ℕ) → all_below 256 (x ∷ xs) ≡ true → (x < 256) × (all_below 256 xs ≡ true)
unfolding all_below
below_first x xs p = let both = and_parts (ltb x 256) (all_below 256 xs) p in (ltb-true x 256 both.0, both.1)

pub all_below_none : (b : ℕ) → all_below b [] ≡ true
unfolding all_below
all_below_none b = refl

pub two_below : (n : ℕ) → ltb n length_end ≡ true → all_below 256 (two n) ≡ true
two_below n p = let h = ltb-true n length_end p in all_below_more 256 _ _ (omega arith) (all_below_more 256 _ _ (omega arith) (all_below_none 256))

pub four_below : (n : ℕ) → field n ≡ true → all_below 256 (four n) ≡ true
four_below n p =
    let h = ltb-true n field_end p in
    all_below_more 256 _ _ (omega arith)
    (all_below_more 256 _ _ (omega arith) (all_below_more 256 _ _ (omega arith) (all_below_more 256 _ _ (omega arith) (all_below_none 256))))

-- a kind, two numbers of one byte and one of two
pub five_below : (k p s v : ℕ) → k < 256 → ltb p 256 ≡ true → ltb s 256 ≡ true → ltb v length_end ≡ true → all_below 256 (k ∷ (p ∷ (s ∷ two v))) ≡ true
five_below k p s v h f g e =
    all_below_more 256 k _ h (all_below_more 256 p _ (ltb-true p 256 f) (all_below_more 256 s _ (ltb-true s 256 g) (two_below v e)))
