-- What is owed in the middle of an event, one symbol at a time. Assumes nothing.
use Rattle.std.proofs.Common.{◌≡◌, ℕ, zero, suc, ◌+◌, ◌-◌, ◌%◌, ◌<◌, ◌≤◌, Bool, true, false, eqb, ltb, ◌⊎◌, List, [], ◌∷◌, ◌++◌, get_or, drop, sym, refl, ap, ◌∙◌, subst, ap₂, inl, inr, mod-eq_of_lt, arith}
use Rattle.std.proofs.lemmas.Bool.{eq-eqb, ne_eqb, cases_lt}
use Rattle.score.specs.Music.{pick, Event, lasts}
use Rattle.score.specs.Print.{Symbol, bar, head, rest, all_values, largest, Chunk, value, line, lesser, chunks, has_value, heads, rests, so_many}
use Rattle.score.proofs.Picks.{pick_true, pick_false}
use Rattle.laws.specs.Owed.{one, drawn, place_of, signed, going, owed}
use Rattle.laws.proofs.Laid.{next_over}
use Rattle.laws.proofs.Steps.{chunks_none, value_fits, chunks_value, chunks_line, has_more}

pub drawn_heads : (p s : ℕ) (cs : List Chunk) → (p ≡ 70 → ⊥) → drawn p s cs ≡ heads p s cs
unfolding drawn heads
drawn_heads p s [] h = refl
drawn_heads p s (line ∷ cs) h = ap (λ (xs : List Symbol). bar ∷ xs) (drawn_heads p s cs h)
drawn_heads p s (value v ∷ cs) h = ap₂ (λ (x : Symbol) (xs : List Symbol). x ∷ xs) (pick_false _ _ _ (ne_eqb p 70 h)) (drawn_heads p 0 cs h)

pub drawn_rests : (s : ℕ) (cs : List Chunk) → drawn 70 s cs ≡ rests cs
unfolding drawn rests
drawn_rests s [] = refl
drawn_rests s (line ∷ cs) = ap (λ (xs : List Symbol). bar ∷ xs) (drawn_rests s cs)
drawn_rests s (value v ∷ cs) = ap (λ (xs : List Symbol). rest v ∷ xs) (drawn_rests 0 cs)

-- an event begins: all of it is owed
pub begins : (b o : ℕ) (e : Event) (es : List Event) (sg : List ℕ) → o < b → signed b o (e ∷ es) sg ≡ owed b o (place_of e) (get_or sg 0 0) (lasts e) es (drop 1 sg)
unfolding signed owed going
begins b o e es sg h = sym (pick_false _ _ _ (ne_eqb o b (λ z. omega arith)))

-- it has ended: the events behind it are owed
pub ended : (b o p s : ℕ) (es : List Event) (sg : List ℕ) → o < b → owed b o p s 0 es sg ≡ signed b o es sg
unfolding owed going drawn
ended b o p s es sg h =
    let m : (o + 0) % b ≡ o = ap (λ (n : ℕ). n % b) (let e : o + 0 ≡ o = omega arith in e) ∙ mod-eq_of_lt h in
    pick_false _ _ _ (ne_eqb o b (λ z. omega arith))
    ∙ ap (λ (cs : List Chunk). drawn p s cs ++ signed b ((o + 0) % b) es sg) (chunks_none 1 b o)
    ∙ ap (λ (n : ℕ). signed b n es sg) m

-- the bar is full: its line
pub owed_line : (b p s d : ℕ) (es : List Event) (sg : List ℕ) → 0 < b → owed b b p s d es sg ≡ bar ∷ owed b 0 p s d es sg
unfolding owed
owed_line b p s d es sg h =
    pick_true _ _ _ (eq-eqb b b refl) ∙ ap (λ (xs : List Symbol). bar ∷ xs) (sym (pick_false _ _ _ (ne_eqb 0 b (λ z. omega arith))))

-- the bar is not full: the largest value that fits, tied if more is left
pub owed_value : (b o p s d v : ℕ) (es : List Event) (sg : List ℕ) → o < b → 0 < d → b % 3 ≡ 0 → o % 3 ≡ 0 → d % 3 ≡ 0 → v ≡ largest (lesser d (b - o)) all_values →
    owed b o p s d es sg ≡ one p s v (ltb 0 (d - v)) ∷ owed b (o + v) p 0 (d - v) es sg
unfolding owed going drawn has_value
owed_value b o p s d v es sg h q b3 o3 d3 e =
    pick_false _ _ _ (ne_eqb o b (λ z. omega arith)) ∙ go (cases_lt (o + v) b)
  where
    f : (v ≤ d) × (o + v ≤ b) × (0 < v) × (v % 3 ≡ 0)
    f = subst (λ (x : ℕ). (x ≤ d) × (o + x ≤ b) × (0 < x) × (x % 3 ≡ 0)) (sym e) (value_fits b o d h q b3 o3 d3)

    go : (o + v < b) ⊎ (b ≤ o + v) → going b o p s d es sg ≡ one p s v (ltb 0 (d - v)) ∷ owed b (o + v) p 0 (d - v) es sg
    go (inl l) =
        let m : (o + d) % b ≡ (o + v + (d - v)) % b = ap (λ (n : ℕ). n % b) (let w : o + d ≡ o + v + (d - v) = omega (arith, f) in w) in
        ap (λ (cs : List Chunk). drawn p s cs ++ signed b ((o + d) % b) es sg) (chunks_value b o d v h q b3 o3 d3 e l)
        ∙ ap₂ (λ (t : Bool) (n : ℕ). one p s v t ∷ (drawn p 0 (chunks (suc (d - v)) b (o + v) (d - v)) ++ signed b n es sg))
        (has_more b (o + v) (d - v) l b3 (omega (arith, f)) (omega (arith, f))) m
        ∙ ap (λ (xs : List Symbol). one p s v (ltb 0 (d - v)) ∷ xs) (sym (pick_false _ _ _ (ne_eqb (o + v) b (λ z. omega arith))))
    go (inr l) =
        let full : o + v ≡ b = omega (arith, f) in
        ap (λ (cs : List Chunk). drawn p s cs ++ signed b ((o + d) % b) es sg) (chunks_line b o d v h q b3 o3 d3 e full f.0)
        ∙ ap₂ (λ (t : Bool) (n : ℕ). one p s v t ∷ (bar ∷ (drawn p 0 (chunks (suc (d - v)) b 0 (d - v)) ++ signed b n es sg)))
        (has_more b 0 (d - v) (omega arith) b3 refl (omega (arith, f))) (next_over b o d v f.0 full)
        ∙ ap (λ (xs : List Symbol). one p s v (ltb 0 (d - v)) ∷ xs) (sym (pick_true _ _ _ (eq-eqb (o + v) b full)))

-- so many bars of symbols, the first symbol taken off
pub so_many_one : (p s v : ℕ) (t : Bool) (xs : List Symbol) (n : ℕ) → 0 < n → so_many (one p s v t ∷ xs) n ≡ one p s v t ∷ so_many xs n
unfolding so_many
so_many_one p s v t xs zero h = absurd (omega arith)
so_many_one p s v t xs (suc n) h = go (eqb p 70)
  where
    go : (c : Bool) → so_many (pick c (rest v) (head p s v t) ∷ xs) (suc n) ≡ pick c (rest v) (head p s v t) ∷ so_many xs (suc n)
    go true = refl
    go false = refl

pub so_many_line : (xs : List Symbol) (n : ℕ) → 0 < n → so_many (bar ∷ xs) n ≡ bar ∷ so_many xs (n - 1)
unfolding so_many
so_many_line xs zero h = absurd (omega arith)
so_many_line xs (suc n) h = let e : n ≡ suc n - 1 = omega arith in ap (λ (m : ℕ). bar ∷ so_many xs m) e

pub so_many_none : (xs : List Symbol) → so_many xs 0 ≡ []
unfolding so_many
so_many_none [] = refl
so_many_none (x ∷ xs) = refl

pub so_many_end : (n : ℕ) → so_many [] n ≡ []
unfolding so_many
so_many_end zero = refl
so_many_end (suc n) = refl
