-- The bars of what is printed, as parts of its bytes. Assumes nothing.
use Rattle.std.proofs.Common.{◌≡◌, ℕ, zero, suc, ◌+◌, ◌-◌, ◌<◌, ◌≤◌, Bool, true, false, Some, None, Option, eqb, List, [], ◌∷◌, ◌++◌, length, get_or, take, drop, sym, refl, ap, ◌∙◌, ap₂, arith, length-append}
use Rattle.std.proofs.lemmas.List.{drop_at, take_rest}
use Rattle.std.specs.Option.{option_map, option_eq}
use Rattle.score.specs.contracts.SymbolPartialEq.TheImpl.{eq-value}
use Rattle.score.specs.declared.Symbol.{Symbol as Said}
use Rattle.score.specs.declared.Symbol.TheVariants.{BarLine, Head, Rest}
use Rattle.score.specs.Meaning.{symbol_meant}
use Rattle.score.specs.Music.{pick}
use Rattle.score.specs.Print.{Symbol, bar, head, rest, from_bar, so_many}
use Rattle.wire.specs.Bytes.{symbol_bytes, symbols_bytes, each}
use Rattle.wire.specs.Reading.{symbol_by, symbol_of}
use Rattle.engraving.specs.Shown.{bars_take}

-- one symbol more, none, and no bar
bars_more : (n : ℕ) (bs : List ℕ) → 0 < n → 5 ≤ length bs → bars_take n bs ≡ 5 + bars_take (pick (eqb (get_or bs 0 0) 0) (n - 1) n) (drop 5 bs)
unfolding bars_take
bars_more zero bs h l = absurd (omega arith)
bars_more (suc n) [] h l = absurd (omega arith)
bars_more (suc n) (k ∷ []) h l = absurd (omega arith)
bars_more (suc n) (k ∷ (p ∷ [])) h l = absurd (omega arith)
bars_more (suc n) (k ∷ (p ∷ (s ∷ []))) h l = absurd (omega arith)
bars_more (suc n) (k ∷ (p ∷ (s ∷ (i ∷ [])))) h l = absurd (omega arith)
bars_more (suc n) (k ∷ (p ∷ (s ∷ (i ∷ (j ∷ bs))))) h l = let e : n ≡ suc n - 1 = omega arith in ap (λ (m : ℕ). 5 + bars_take (pick (eqb k 0) m (suc n)) bs) e

-- the same where the bytes of a symbol are cut off, and that symbol may be a bar line
pub bars_on : (bs xs ys : List ℕ) (n m : ℕ) → bs ≡ xs ++ ys → length xs ≡ 5 → 0 < n → m ≡ pick (eqb (get_or xs 0 0) 0) (n - 1) n → bars_take n bs ≡ 5 + bars_take m ys
bars_on bs [] ys n m e l h w = absurd (omega arith)
bars_on bs (k ∷ xs) ys n m e l h w =
    ap (bars_take n) e ∙ bars_more n ((k ∷ xs) ++ ys) h (omega (arith, length-append (k ∷ xs) ys))
    ∙ ap₂ (λ (i : ℕ) (cs : List ℕ). 5 + bars_take i cs) (sym w) (drop_at (k ∷ xs) ys 5 l)

-- five bytes are read as a bar line if the first says so
abbrev is_bar : Option Symbol → Bool
is_bar (Some bar) = true
is_bar (Some (head p s v t)) = false
is_bar (Some (rest v)) = false
is_bar None = false

said_bar : (x : Option Said) → option_eq eq-value.it x (Some BarLine) ≡ is_bar (option_map symbol_meant x)
said_bar None = refl
said_bar (Some BarLine) = refl
said_bar (Some (Head p s v t)) = refl
said_bar (Some (Rest v)) = refl

bar_by : (k p s v : ℕ) → is_bar (symbol_by k p s v) ≡ eqb k 0
bar_by k p s v = go (eqb k 0) (eqb k 1) (eqb k 2) (eqb k 3)
  where
    go : (a b c d : Bool) → is_bar (pick a (Some bar) (pick b (Some (head p s v false)) (pick c (Some (head p s v true)) (pick d (Some (rest v)) None)))) ≡ a
    go true b c d = refl
    go false true c d = refl
    go false false true d = refl
    go false false false true = refl
    go false false false false = refl

pub bar_read : (bs : List ℕ) (x : Option Said) → length bs ≡ 5 → option_map symbol_meant x ≡ symbol_of bs → option_eq eq-value.it x (Some BarLine) ≡ eqb (get_or bs 0 0) 0
bar_read [] x l e = absurd (omega arith)
bar_read (k ∷ []) x l e = absurd (omega arith)
bar_read (k ∷ (p ∷ [])) x l e = absurd (omega arith)
bar_read (k ∷ (p ∷ (s ∷ []))) x l e = absurd (omega arith)
bar_read (k ∷ (p ∷ (s ∷ (i ∷ [])))) x l e = absurd (omega arith)
bar_read (k ∷ (p ∷ (s ∷ (i ∷ (j ∷ bs))))) x l e = said_bar x ∙ ap is_bar e ∙ bar_by k p s _

pub bars_end : (n : ℕ) (bs : List ℕ) → length bs < 5 → bars_take n bs ≡ 0
unfolding bars_take
bars_end zero bs l = refl
bars_end (suc n) [] l = refl
bars_end (suc n) (k ∷ []) l = refl
bars_end (suc n) (k ∷ (p ∷ [])) l = refl
bars_end (suc n) (k ∷ (p ∷ (s ∷ []))) l = refl
bars_end (suc n) (k ∷ (p ∷ (s ∷ (i ∷ [])))) l = refl
bars_end (suc n) (k ∷ (p ∷ (s ∷ (i ∷ (j ∷ bs))))) l = absurd (omega arith)

pub bars_none : (n : ℕ) (bs : List ℕ) → n ≡ 0 → bars_take n bs ≡ 0
unfolding bars_take
bars_none n bs e = ap (λ (m : ℕ). bars_take m bs) e

-- in the bytes of symbols these are the bars: those behind the first n, and the first n
five_more : (m : ℕ) → 5 + m ≡ suc (suc (suc (suc (suc m))))
five_more m = omega arith

behind : (x : Symbol) (m : ℕ) (bs : List ℕ) → drop (5 + m) (symbol_bytes x ++ bs) ≡ drop m bs
behind bar m bs = ap (λ (n : ℕ). drop n (symbol_bytes bar ++ bs)) (five_more m)
behind (head p s v t) m bs = ap (λ (n : ℕ). drop n (symbol_bytes (head p s v t) ++ bs)) (five_more m)
behind (rest v) m bs = ap (λ (n : ℕ). drop n (symbol_bytes (rest v) ++ bs)) (five_more m)

before : (x : Symbol) (m : ℕ) (bs : List ℕ) → take (5 + m) (symbol_bytes x ++ bs) ≡ symbol_bytes x ++ take m bs
before bar m bs = ap (λ (n : ℕ). take n (symbol_bytes bar ++ bs)) (five_more m)
before (head p s v t) m bs = ap (λ (n : ℕ). take n (symbol_bytes (head p s v t) ++ bs)) (five_more m)
before (rest v) m bs = ap (λ (n : ℕ). take n (symbol_bytes (rest v) ++ bs)) (five_more m)

pub bars_from : (n : ℕ) (xs : List Symbol) → drop (bars_take n (symbols_bytes xs)) (symbols_bytes xs) ≡ symbols_bytes (from_bar n xs)
unfolding bars_take from_bar each
bars_from zero xs = refl
bars_from (suc n) [] = refl
bars_from (suc n) (bar ∷ xs) = behind bar _ (symbols_bytes xs) ∙ bars_from n xs
bars_from (suc n) (head p s v true ∷ xs) = behind (head p s v true) _ (symbols_bytes xs) ∙ bars_from (suc n) xs
bars_from (suc n) (head p s v false ∷ xs) = behind (head p s v false) _ (symbols_bytes xs) ∙ bars_from (suc n) xs
bars_from (suc n) (rest v ∷ xs) = behind (rest v) _ (symbols_bytes xs) ∙ bars_from (suc n) xs

pub bars_first : (n : ℕ) (xs : List Symbol) → take (bars_take n (symbols_bytes xs)) (symbols_bytes xs) ≡ symbols_bytes (so_many xs n)
unfolding bars_take so_many each
bars_first zero [] = refl
bars_first zero (x ∷ xs) = refl
bars_first (suc n) [] = refl
bars_first (suc n) (bar ∷ xs) = before bar _ (symbols_bytes xs) ∙ ap (λ (bs : List ℕ). symbol_bytes bar ++ bs) (bars_first n xs)
bars_first (suc n) (head p s v true ∷ xs) = before (head p s v true) _ (symbols_bytes xs) ∙ ap (λ (bs : List ℕ). symbol_bytes (head p s v true) ++ bs) (bars_first (suc n) xs)
bars_first (suc n) (head p s v false ∷ xs) = before (head p s v false) _ (symbols_bytes xs) ∙ ap (λ (bs : List ℕ). symbol_bytes (head p s v false) ++ bs) (bars_first (suc n) xs)
bars_first (suc n) (rest v ∷ xs) = before (rest v) _ (symbols_bytes xs) ∙ ap (λ (bs : List ℕ). symbol_bytes (rest v) ++ bs) (bars_first (suc n) xs)

-- as the code finds the part
pub part_is : (page : List ℕ) (from count a n : ℕ) → a ≡ bars_take from page → n ≡ bars_take count (take (length page - a) (drop a page)) →
    take (a + n - a) (drop a page) ≡ take (bars_take count (drop (bars_take from page) page)) (drop (bars_take from page) page)
part_is page from count a n e f =
    let z : a + n - a ≡ n = omega arith in
    ap (λ (i : ℕ). take i (drop a page)) (z ∙ f ∙ ap (bars_take count) (take_rest page a)) ∙ ap (λ (i : ℕ). take (bars_take count (drop i page)) (drop i page)) e

pub bars_part : (page : List ℕ) (xs : List Symbol) (from count : ℕ) → page ≡ symbols_bytes xs → take (bars_take count (drop (bars_take from page) page)) (drop (bars_take from page) page) ≡ symbols_bytes (so_many (from_bar from xs) count)
bars_part page xs from count e =
    ap (λ (bs : List ℕ). take (bars_take count (drop (bars_take from bs) bs)) (drop (bars_take from bs) bs)) e
    ∙ ap (λ (bs : List ℕ). take (bars_take count bs) bs) (bars_from from xs) ∙ bars_first count (from_bar from xs)
