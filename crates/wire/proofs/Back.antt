-- Symbols, notes and answers come back from their bytes. Assumes nothing.
use Rattle.std.proofs.Common.{◌≡◌, ℕ, List, [], ◌∷◌, ◌++◌, length, drop, Some, Option, refl, ap, ◌∙◌, append_assoc}
use Rattle.std.proofs.lemmas.List.{drop_at}
use Rattle.std.specs.Option.{option_map}
use Rattle.score.specs.Calls.{Answer, done, refused, symbols, sounds, number}
use Rattle.wire.specs.Bytes.{symbol_bytes, sound_bytes, symbols_bytes, sounds_bytes, each, answer_bytes}
use Rattle.wire.specs.Reading.{symbol_of, sound_of, before, row_of, answer_of}
pub use Rattle.wire.specs.Items.{length_symbol, symbols_back, sounds_back}
use Rattle.wire.specs.Items.{of_four_four}

-- so many that each come back, whatever stands behind
row_back :
    {A : Type 0} (f : A → List ℕ) (g : List ℕ → Option A) (w : ℕ) → ((x : A) → length (f x) ≡ w) → ((x : A) (bs : List ℕ) → g (f x ++ bs) ≡ Some x)
    → (xs : List A) (bs : List ℕ) → row_of g w (length xs) (each f xs ++ bs) ≡ Some xs
unfolding each row_of
row_back f g w wide back [] bs = refl
row_back f g w wide back (x ∷ xs) bs =
    let rest = each f xs ++ bs in
    ap (λ l. before (g l) (row_of g w (length xs) (drop w l))) (append_assoc (f x) (each f xs) bs)
    ∙ ap (λ y. before y (row_of g w (length xs) (drop w (f x ++ rest)))) (back x rest)
    ∙ ap (λ l. before (Some x) (row_of g w (length xs) l)) (drop_at (f x) rest w (wide x))
    ∙ ap (before (Some x)) (row_back f g w wide back xs bs)

pub answer_back : (a : Answer) (bs : List ℕ) → answer_of (answer_bytes a ++ bs) ≡ Some a
answer_back done bs = refl
answer_back (refused n p) bs = ap (λ m. Some (refused n m)) (of_four_four p)
answer_back (symbols xs) bs =
    ap (λ n. option_map symbols (row_of symbol_of 5 n (symbols_bytes xs ++ bs))) (of_four_four (length xs))
    ∙ ap (option_map symbols) (row_back symbol_bytes symbol_of 5 length_symbol symbols_back xs bs)
answer_back (sounds xs) bs =
    ap (λ n. option_map sounds (row_of sound_of 8 n (sounds_bytes xs ++ bs))) (of_four_four (length xs))
    ∙ ap (option_map sounds) (row_back sound_bytes sound_of 8 (λ x. refl) sounds_back xs bs)
answer_back (number n) bs = ap (λ m. Some (number m)) (of_four_four n)
