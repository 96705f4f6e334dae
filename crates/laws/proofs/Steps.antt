-- A length laid over bar lines, one value at a time. Assumes nothing.
use Rattle.std.proofs.Common.{◌≡◌, ℕ, zero, suc, ◌+◌, ◌-◌, ◌%◌, ◌<◌, ◌≤◌, true, eqb, ltb, leb, ◌⊎◌, List, [], ◌∷◌, ◌++◌, sym, refl, ap, ◌∙◌, inl, inr, arith}
use Rattle.std.proofs.lemmas.Bool.{leb-true, eq-eqb, ne_eqb, le-leb, cases_lt, lt-ltb}
use Rattle.score.specs.Music.{pick}
use Rattle.score.specs.Print.{all_values, largest, pieces, Chunk, value, line, as_values, lesser, chunks, has_line, has_value}
use Rattle.score.proofs.Picks.{pick_true, pick_false, pick_both}
use Rattle.laws.proofs.Pieces.{value_in, pieces_next}
use Rattle.laws.proofs.Laid.{lesser_both, chunks_begin, line_in}

-- nothing; what ends in this bar; what goes on behind its line
pub chunks_none : (k b o : ℕ) → chunks k b o 0 ≡ []
unfolding chunks
chunks_none zero b o = refl
chunks_none (suc k) b o = refl

pub chunks_here : (k b o d : ℕ) → o + d < b → chunks (suc k) b o d ≡ as_values (pieces d d)
unfolding chunks as_values pieces
chunks_here k b o zero h = refl
chunks_here k b o (suc d) h =
    let l : lesser (suc d) (b - o) ≡ suc d = pick_true _ _ _ (le-leb (suc d) (b - o) (omega arith)) in
    pick_false _ _ _ (ne_eqb (suc d) 0 (λ z. omega arith))
    ∙ ap (λ (s : ℕ). pick (eqb (o + s) b) (as_values (pieces s s) ++ (line ∷ chunks k b 0 (suc d - s))) (as_values (pieces s s))) l
    ∙ pick_false _ _ _ (ne_eqb (o + suc d) b (λ z. omega arith))

pub chunks_over : (k b o d s : ℕ) → 0 < s → o + s ≡ b → s ≤ d → chunks (suc k) b o d ≡ as_values (pieces s s) ++ (line ∷ chunks k b 0 (d - s))
unfolding chunks
chunks_over k b o d s p e h =
    let l : lesser d (b - o) ≡ s = pick_both (λ (x : ℕ). x ≡ s) (leb d (b - o)) d (b - o) (λ f. omega (arith, leb-true d (b - o) f)) (λ _. omega arith) in
    pick_false _ _ _ (ne_eqb d 0 (λ z. omega arith))
    ∙ ap (λ (s : ℕ). pick (eqb (o + s) b) (as_values (pieces s s) ++ (line ∷ chunks k b 0 (d - s))) (as_values (pieces s s))) l
    ∙ pick_true _ _ _ (eq-eqb (o + s) b e)

pub chunks_lined : (k b o d : ℕ) → o < b → b ≤ o + d → has_line (chunks (suc k) b o d) ≡ true
chunks_lined k b o d h l = ap has_line (chunks_over k b o d (b - o) (omega arith) (omega arith) (omega arith)) ∙ line_in (pieces (b - o) (b - o)) (chunks k b 0 (d - (b - o)))

-- the bound on how many bars does not matter where it is large enough
pub chunks_fuel : (j k b o d : ℕ) → d < j → d < k → o < b → chunks j b o d ≡ chunks k b o d
chunks_fuel zero k b o d f g h = absurd (omega arith)
chunks_fuel (suc j) zero b o d f g h = absurd (omega arith)
chunks_fuel (suc j) (suc k) b o d f g h = go (cases_lt (o + d) b) (chunks_fuel j k b 0 (d - (b - o)))
  where
    go : (o + d < b) ⊎ (b ≤ o + d) → (d - (b - o) < j → d - (b - o) < k → 0 < b → chunks j b 0 (d - (b - o)) ≡ chunks k b 0 (d - (b - o))) → chunks (suc j) b o d ≡ chunks (suc k) b o d
    go (inl l) ih = chunks_here j b o d l ∙ sym (chunks_here k b o d l)
    go (inr l) ih =
        chunks_over j b o d (b - o) (omega arith) (omega arith) (omega arith)
        ∙ ap (λ (cs : List Chunk). as_values (pieces (b - o) (b - o)) ++ (line ∷ cs)) (ih (omega arith) (omega arith) (omega arith))
        ∙ sym (chunks_over k b o d (b - o) (omega arith) (omega arith) (omega arith))

-- the first value fits what is left of the length and of the bar
pub value_fits : (b o d : ℕ) → o < b → 0 < d → b % 3 ≡ 0 → o % 3 ≡ 0 → d % 3 ≡ 0 →
    (largest (lesser d (b - o)) all_values ≤ d) × (o + largest (lesser d (b - o)) all_values ≤ b) × (0 < largest (lesser d (b - o)) all_values) × (largest (lesser d (b - o)) all_values % 3 ≡ 0)
value_fits b o d h p b3 o3 d3 =
    let l = lesser_both d (b - o) in
    let g = value_in (lesser d (b - o)) (omega arith) (omega arith) in
    (omega arith, omega arith, g.1, g.2)

-- the first value where the bar is not full behind it, and what is left to lay
pub chunks_value : (b o d v : ℕ) → o < b → 0 < d → b % 3 ≡ 0 → o % 3 ≡ 0 → d % 3 ≡ 0 → v ≡ largest (lesser d (b - o)) all_values → o + v < b →
    chunks (suc d) b o d ≡ value v ∷ chunks (suc (d - v)) b (o + v) (d - v)
unfolding as_values
chunks_value b o d v h p b3 o3 d3 e l = go (cases_lt (o + d) b)
  where
    go : (o + d < b) ⊎ (b ≤ o + d) → chunks (suc d) b o d ≡ value v ∷ chunks (suc (d - v)) b (o + v) (d - v)
    go (inl f) =
        let s : lesser d (b - o) ≡ d = pick_true _ _ _ (le-leb d (b - o) (omega arith)) in
        let w : v ≡ largest d all_values = e ∙ ap (λ (n : ℕ). largest n all_values) s in
        let g = value_in d p d3 in
        chunks_here d b o d f ∙ ap as_values (pieces_next d v p d3 w)
        ∙ ap (λ (cs : List Chunk). value v ∷ cs) (sym (chunks_here (d - v) b (o + v) (d - v) (omega arith)))
    go (inr f) =
        let s : lesser d (b - o) ≡ b - o = pick_both (λ (x : ℕ). x ≡ b - o) (leb d (b - o)) d (b - o) (λ q. omega (arith, leb-true d (b - o) q)) (λ _. refl) in
        let w : v ≡ largest (b - o) all_values = e ∙ ap (λ (n : ℕ). largest n all_values) s in
        let g = value_in (b - o) (omega arith) (omega arith) in
        let q : d - v - (b - o - v) ≡ d - (b - o) = omega arith in
        chunks_over d b o d (b - o) (omega arith) (omega arith) (omega arith)
        ∙ ap (λ (xs : List ℕ). as_values xs ++ (line ∷ chunks d b 0 (d - (b - o)))) (pieces_next (b - o) v (omega arith) (omega arith) w)
        ∙ ap (λ (cs : List Chunk). value v ∷ (as_values (pieces (b - o - v) (b - o - v)) ++ (line ∷ cs)))
        (chunks_fuel d (d - v) b 0 (d - (b - o)) (omega arith) (omega arith) (omega arith) ∙ ap (chunks (d - v) b 0) (sym q))
        ∙ ap (λ (cs : List Chunk). value v ∷ cs) (sym (chunks_over (d - v) b (o + v) (d - v) (b - o - v) (omega arith) (omega arith) (omega arith)))

-- the first value where it fills the bar
pub chunks_line : (b o d v : ℕ) → o < b → 0 < d → b % 3 ≡ 0 → o % 3 ≡ 0 → d % 3 ≡ 0 → v ≡ largest (lesser d (b - o)) all_values → o + v ≡ b → v ≤ d →
    chunks (suc d) b o d ≡ value v ∷ (line ∷ chunks (suc (d - v)) b 0 (d - v))
unfolding as_values pieces
chunks_line b o d v h p b3 o3 d3 e l le =
    let s : lesser d (b - o) ≡ v = pick_both (λ (x : ℕ). x ≡ v) (leb d (b - o)) d (b - o) (λ q. omega (arith, leb-true d (b - o) q)) (λ _. omega arith) in
    let w : v ≡ largest v all_values = e ∙ ap (λ (n : ℕ). largest n all_values) s in
    let z : v - v ≡ 0 = omega arith in
    chunks_over d b o d v (omega arith) l le
    ∙ ap (λ (xs : List ℕ). as_values xs ++ (line ∷ chunks d b 0 (d - v))) (pieces_next v v (omega arith) (omega arith) w ∙ ap (λ (n : ℕ). v ∷ pieces n n) z)
    ∙ ap (λ (cs : List Chunk). value v ∷ (line ∷ cs)) (chunks_fuel d (suc (d - v)) b 0 (d - v) (omega arith) (omega arith) (omega arith))

-- whether a value follows
pub has_more : (b o d : ℕ) → o < b → b % 3 ≡ 0 → o % 3 ≡ 0 → d % 3 ≡ 0 → has_value (chunks (suc d) b o d) ≡ ltb 0 d
unfolding has_value
has_more b o zero h b3 o3 d3 = ap has_value (chunks_none 1 b o)
has_more b o (suc d) h b3 o3 d3 =
    let g = chunks_begin (suc d) b o (suc d) (omega arith) h b3 o3 d3 in
    ap has_value g.2 ∙ sym (lt-ltb 0 (suc d) (omega arith))
