-- There are not more notes than symbols, and five times as many bytes as symbols. Assumes nothing.
use Rattle.std.proofs.Common.{◌≡◌, ℕ, ◌+◌, ◌*◌, ◌≤◌, Bool, true, false, List, [], ◌∷◌, ◌++◌, length, Some, None, Option, refl, arith, length-append}
use Rattle.score.specs.Print.{Symbol, bar, head, rest, key, Held, nothing, held, let_go, goes_on, longer, altered, then_holds, reads}
use Rattle.score.specs.Music.{pick, Heard}
use Rattle.wire.specs.Reading.{of_two, symbol_by}
use Rattle.reading.specs.Few.{FewNotes}
use Rattle.reading.specs.Symbols.{playable, before, symbols_of}

longer_same : (h : Held) (v : ℕ) → length (let_go (longer h v)) ≡ length (let_go h)
unfolding let_go longer
longer_same nothing v = refl
longer_same (held p a s l) v = refl

-- a note that is tied on or has ended is one note
one_more : (tied : Bool) (n : Held) (xs ys : List Heard) (m : ℕ) → length xs ≤ m + length (let_go n) → length ys ≤ m → length (pick tied xs (let_go n ++ ys)) ≤ m + length (let_go n)
one_more true n xs ys m h g = h
one_more false n xs ys m h g = omega (arith, length-append (let_go n) ys)

few_reads : (k : ℕ) (xs : List Symbol) (t : ℕ) (st : ℕ → ℕ) (h : Held) → length (reads k xs t st h) ≤ length xs + length (let_go h)
unfolding reads let_go
few_reads k [] t st h = omega arith
few_reads k (bar ∷ xs) t st h = let i = few_reads k xs t (key k) h in omega arith
few_reads k (rest v ∷ xs) t st h = let i = few_reads k xs (t + v) st nothing in omega (arith, length-append (let_go h) (reads k xs (t + v) st nothing))
few_reads k (head p s v tied ∷ xs) t st h =
    go (goes_on h p s) (few_reads k xs (t + v) st (longer h v)) (few_reads k xs (t + v) st nothing) (few_reads k xs (t + v) (then_holds st p s) (held p (altered st p s) t v)) (few_reads k xs (t + v) (then_holds st p s) nothing)
  where
    go : (c : Bool) → length (reads k xs (t + v) st (longer h v)) ≤ length xs + length (let_go (longer h v)) → length (reads k xs (t + v) st nothing) ≤ length xs + length (let_go nothing)
        → length (reads k xs (t + v) (then_holds st p s) (held p (altered st p s) t v)) ≤ length xs + length (let_go (held p (altered st p s) t v))
        → length (reads k xs (t + v) (then_holds st p s) nothing) ≤ length xs + length (let_go nothing)
        → length (pick c
        (pick tied (reads k xs (t + v) st (longer h v)) (let_go (longer h v) ++ reads k xs (t + v) st nothing))
        (let_go h ++ pick tied (reads k xs (t + v) (then_holds st p s) (held p (altered st p s) t v))
        (let_go (held p (altered st p s) t v) ++ reads k xs (t + v) (then_holds st p s) nothing)))
        ≤ length (head p s v tied ∷ xs) + length (let_go h)
    go true a b c d =
        let m = one_more tied (longer h v) (reads k xs (t + v) st (longer h v)) (reads k xs (t + v) st nothing) (length xs) a (omega arith) in
        let e = longer_same h v in
        omega arith
    go false a b c d =
        let n : Held = held p (altered st p s) t v in
        let m = one_more tied (held p (altered st p s) t v) (reads k xs (t + v) (then_holds st p s) (held p (altered st p s) t v)) (reads k xs (t + v) (then_holds st p s) nothing) (length xs) c (omega arith) in
        omega (arith, length-append (let_go h) (pick tied (reads k xs (t + v) (then_holds st p s) (held p (altered st p s) t v)) (let_go (held p (altered st p s) t v) ++ reads k xs (t + v) (then_holds st p s) nothing)))

-- five bytes are one symbol or the end
taken : (o : Option Symbol) (xs : List Symbol) → length (before o xs) ≤ 1 + length xs
taken None xs = omega arith
taken (Some x) xs = omega arith

pub few_symbols : (bs : List ℕ) → 5 * length (symbols_of bs) ≤ length bs
unfolding symbols_of
few_symbols [] = omega arith
few_symbols (k ∷ []) = omega arith
few_symbols (k ∷ (p ∷ [])) = omega arith
few_symbols (k ∷ (p ∷ (s ∷ []))) = omega arith
few_symbols (k ∷ (p ∷ (s ∷ (l ∷ [])))) = omega arith
few_symbols (k ∷ (p ∷ (s ∷ (l ∷ (h ∷ bs))))) = let i = few_symbols bs in omega (arith, taken (playable (symbol_by k p s (of_two l h))) (symbols_of bs))

pub few_notes : FewNotes
unfolding let_go
few_notes k bs = let f = few_symbols bs in omega (arith, few_reads k (symbols_of bs) 0 (key k) nothing)
