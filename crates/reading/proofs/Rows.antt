-- The first symbol of a row of bytes, and those behind it. Assumes nothing.
use Rattle.std.proofs.Common.{◌≡◌, ℕ, ◌-◌, Bool, true, false, ◌&&◌, List, [], ◌∷◌, ◌++◌, length, take, drop, Some, None, Option, sym, refl, ap, ap₂, ◌∙◌, arith}
use Rattle.std.proofs.lemmas.List.{drop_at, take_rest}
use Rattle.std.proofs.lemmas.Bool.{and_parts}
use Rattle.score.specs.Music.{pick}
use Rattle.score.specs.Print.{Symbol}
use Rattle.score.proofs.Picks.{pick_true}
use Rattle.wire.specs.Bytes.{symbol_bytes, symbols_bytes, each}
use Rattle.wire.specs.Reading.{of_two, symbol_by, symbol_of}
use Rattle.wire.proofs.Back.{symbols_back as symbol_back}
use Rattle.wire.proofs.Rows.{length_symbol}
use Rattle.reading.specs.Player.{can_play}
use Rattle.reading.specs.Symbols.{playable, before, symbols_of}

-- a symbol that was found can be played
can : (o : Option Symbol) (x : Symbol) → Some x ≡ playable o → can_play x ≡ true
can None x e = let z : ◌≡◌ {A = ℕ} 0 1 = cc in absurd (omega arith)
can (Some w) x e = go (can_play w) refl e
  where
    go : (c : Bool) → can_play w ≡ c → Some x ≡ pick c (Some w) None → can_play x ≡ true
    go true p e = let q : x ≡ w = cc in ap can_play q ∙ p
    go false p e = let z : ◌≡◌ {A = ℕ} 0 1 = cc in absurd (omega arith)

-- the first symbol, and those behind it
pub by_first : (bs : List ℕ) → symbols_of bs ≡ before (playable (symbol_of bs)) (symbols_of (take (length bs - 5) (drop 5 bs)))
unfolding symbols_of
by_first [] = refl
by_first (k ∷ []) = refl
by_first (k ∷ (p ∷ [])) = refl
by_first (k ∷ (p ∷ (s ∷ []))) = refl
by_first (k ∷ (p ∷ (s ∷ (l ∷ [])))) = refl
by_first (k ∷ (p ∷ (s ∷ (l ∷ (h ∷ bs))))) = ap (λ (cs : List ℕ). before (playable (symbol_by k p s (of_two l h))) (symbols_of cs)) (sym (take_rest (k ∷ (p ∷ (s ∷ (l ∷ (h ∷ bs))))) 5))

-- each symbol of a row can be played
pub first_plays : (bs : List ℕ) (x : Symbol) (xs : List Symbol) → symbols_of bs ≡ x ∷ xs → can_play x ≡ true
unfolding symbols_of
first_plays [] x xs e = cc
first_plays (k ∷ []) x xs e = cc
first_plays (k ∷ (p ∷ [])) x xs e = cc
first_plays (k ∷ (p ∷ (s ∷ []))) x xs e = cc
first_plays (k ∷ (p ∷ (s ∷ (l ∷ [])))) x xs e = cc
first_plays (k ∷ (p ∷ (s ∷ (l ∷ (h ∷ bs))))) x xs e = go (playable (symbol_by k p s (of_two l h))) refl e
  where
    go : (o : Option Symbol) → playable (symbol_by k p s (of_two l h)) ≡ o → before o (symbols_of bs) ≡ x ∷ xs → can_play x ≡ true
    go None w e = cc
    go (Some y) w e = can (symbol_by k p s (of_two l h)) x (let q : y ≡ x = cc in ap Some (sym q) ∙ sym w)

-- symbols that can be played are found again in their bytes
unfoldable pub all_play : List Symbol → Bool
all_play [] = true
all_play (x ∷ xs) = can_play x && all_play xs

pub symbols_back : (xs : List Symbol) → all_play xs ≡ true → symbols_of (symbols_bytes xs) ≡ xs
unfolding all_play each symbols_of
symbols_back [] h = refl
symbols_back (x ∷ xs) h =
    let both = and_parts _ _ h in
    let bs : List ℕ = symbol_bytes x ++ symbols_bytes xs in
    let e : playable (symbol_of bs) ≡ Some x = ap playable (symbol_back x (symbols_bytes xs)) ∙ pick_true _ _ _ both.0 in
    by_first bs ∙ ap₂ (λ (o : Option Symbol) (cs : List ℕ). before o (symbols_of cs)) e (take_rest bs 5 ∙ drop_at (symbol_bytes x) (symbols_bytes xs) 5 (length_symbol x)) ∙ ap (λ (ys : List Symbol). x ∷ ys) (symbols_back xs both.1)
