-- Answers whose numbers fit their fields are rows of bytes. Assumes nothing.
use Rattle.std.proofs.Common.{◌≡◌, ℕ, ◌<◌, Bool, true, ltb, List, [], ◌∷◌, ◌++◌, length, refl, arith}
use Rattle.std.proofs.lemmas.Bool.{and_parts, ltb-true}
use Rattle.score.specs.Music.{Heard}
use Rattle.score.specs.Print.{Symbol, bar, head, rest}
use Rattle.score.specs.Calls.{Answer, done, refused, symbols, sounds, number}
use Rattle.score.specs.Promise.{all_below, field}
use Rattle.score.proofs.Picks.{pick_both}
use Rattle.wire.specs.Bytes.{two, four, symbol_bytes, sound_bytes, symbols_bytes, sounds_bytes, each, answer_bytes}
use Rattle.wire.specs.Fits.{symbol_fits, sound_fits, all_fit, answer_fits}
use Rattle.wire.proofs.Rows.{five_below, all_below_none, all_below_more, all_below-++, two_below, four_below}

pub symbol_below : (x : Symbol) → symbol_fits x ≡ true → all_below 256 (symbol_bytes x) ≡ true
symbol_below bar p = five_below 0 0 0 0 (omega arith) refl refl refl
symbol_below (head p s v tied) f =
    let a = and_parts _ _ f in
    let b = and_parts _ _ a.1 in
    five_below _ p s v (pick_both (λ k. k < 256) tied 2 1 (λ _. omega arith) (λ _. omega arith)) a.0 b.0 b.1
symbol_below (rest v) f = five_below 3 0 0 v (omega arith) refl refl f

pub sound_below : (x : ℕ × Heard) → sound_fits x ≡ true → all_below 256 (sound_bytes x) ≡ true
sound_below x f =
    let a = and_parts _ _ f in
    let b = and_parts _ _ a.1 in
    let c = and_parts _ _ b.1 in
    all_below_more 256 x.0 _ (ltb-true x.0 256 a.0)
    (all_below_more 256 x.1.high _ (ltb-true x.1.high 256 b.0)
    (all_below-++ 256 (four x.1.start) (two x.1.long) (four_below x.1.start c.0) (two_below x.1.long c.1)))

pub each_below : {A : Type 0} (f : A → List ℕ) (t : A → Bool) → ((x : A) → t x ≡ true → all_below 256 (f x) ≡ true) → (xs : List A)
    → all_fit t xs ≡ true → all_below 256 (each f xs) ≡ true
unfolding each all_fit all_below
each_below f t fits [] p = refl
each_below f t fits (x ∷ xs) p =
    let a = and_parts (t x) (all_fit t xs) p in all_below-++ 256 (f x) (each f xs) (fits x a.0) (each_below f t fits xs a.1)

-- an answer's kind, a count, and the row of so many
counted_below : (k n : ℕ) (bs : List ℕ) → k < 256 → field n ≡ true → all_below 256 bs ≡ true → all_below 256 (k ∷ (four n ++ bs)) ≡ true
counted_below k n bs h f p = all_below_more 256 k _ h (all_below-++ 256 (four n) bs (four_below n f) p)

pub answer_below : (a : Answer) → answer_fits a ≡ true → all_below 256 (answer_bytes a) ≡ true
unfolding answer_fits
answer_below done f = all_below_more 256 0 [] (omega arith) (all_below_none 256)
answer_below (refused n p) f =
    let a = and_parts (ltb n 256) (field p) f in all_below_more 256 1 _ (omega arith) (all_below_more 256 n _ (ltb-true n 256 a.0) (four_below p a.1))
answer_below (symbols xs) f =
    let a = and_parts (field (length xs)) _ f in
    counted_below 2 (length xs) (symbols_bytes xs) (omega arith) a.0 (each_below symbol_bytes symbol_fits symbol_below xs a.1)
answer_below (sounds xs) f =
    let a = and_parts (field (length xs)) _ f in
    counted_below 3 (length xs) (sounds_bytes xs) (omega arith) a.0 (each_below sound_bytes sound_fits sound_below xs a.1)
answer_below (number n) f = all_below_more 256 4 _ (omega arith) (four_below n f)
