-- A length laid over bar lines. Assumes nothing.
use Rattle.std.proofs.Common.{◌≡◌, ℕ, zero, suc, ◌+◌, ◌-◌, ◌%◌, ◌<◌, ◌≤◌, true, false, eqb, leb, ◌⊎◌, List, [], ◌∷◌, ◌++◌, sym, refl, ap, ◌∙◌, subst, inl, inr, append_assoc, append-nil, add-zero, add_assoc, mod-lt, mod-eq_of_lt, arith}
use native.Mathlib.Nat.{add-mod_left, mod-mod_of_dvd, dvd_of_mod-eq-zero}
use Rattle.std.proofs.lemmas.Bool.{eqb-true, eqb-false, leb-true, leb-false, le-leb, and_parts}
use Rattle.score.specs.Print.{all_values, pieces, Chunk, value, line, as_values, lesser, chunks, has_line}
use Rattle.score.specs.Promise.{sum_of, is_value, all_are}
use Rattle.score.proofs.Picks.{pick_true, pick_both}
use Rattle.laws.specs.Laying.{span, LiesWell}
use Rattle.laws.proofs.Pieces.{value_good, pieces_sum, pieces_are, Begins, pieces_begin}

-- how much of a length lies in a bar
pub lesser_is : (a b : ℕ) → ((a ≤ b) × (lesser a b ≡ a)) ⊎ ((b < a) × (lesser a b ≡ b))
lesser_is a b =
    pick_both (λ (x : ℕ). ((a ≤ b) × (x ≡ a)) ⊎ ((b < a) × (x ≡ b))) (leb a b) a b
    (λ e. inl (leb-true a b e, refl)) (λ e. inr (leb-false a b e, refl))

pub lesser_both : (a b : ℕ) → (lesser a b ≤ a) × (lesser a b ≤ b) × ((lesser a b ≡ a) ⊎ (lesser a b ≡ b))
lesser_both a b =
    pick_both (λ (x : ℕ). (x ≤ a) × (x ≤ b) × ((x ≡ a) ⊎ (x ≡ b))) (leb a b) a b
    (λ e. (omega arith, leb-true a b e, inl refl)) (λ e. (omega (arith, leb-false a b e), omega arith, inr refl))

pub lesser_less : (a b v : ℕ) → lesser a b - v ≡ lesser (a - v) (b - v)
lesser_less a b v =
    pick_both (λ (x : ℕ). x - v ≡ lesser (a - v) (b - v)) (leb a b) a b
    (λ e. sym (pick_true _ _ _ (le-leb (a - v) (b - v) (omega (arith, leb-true a b e)))))
    (λ e. pick_both (λ (x : ℕ). b - v ≡ x) (leb (a - v) (b - v)) (a - v) (b - v) (λ f. omega (arith, leb-true (a - v) (b - v) f, leb-false a b e)) (λ _. refl))

-- A length laid over bars is none; or it ends in this bar; or it fills this bar, and the rest is laid from the next bar on.
abbrev pub Laid : (List Chunk → Type 0) → ℕ → ℕ → ℕ → ℕ → Type 0
Laid P k b o d =
    (d ≡ 0 → P [])
    → (0 < d → o + d < b → P (as_values (pieces d d)))
    → ((s : ℕ) → 0 < s → s ≤ d → o + s ≡ b → P (as_values (pieces s s) ++ (line ∷ chunks k b 0 (d - s))))
    → P (chunks (suc k) b o d)

pub laid : (P : List Chunk → Type 0) (k b o d : ℕ) → o < b → Laid P k b o d
unfolding chunks
laid P k b o d h none here over =
    pick_both P (eqb d 0) [] _
    (λ e. none (eqb-true d 0 e))
    (λ e. pick_both P (eqb (o + lesser d (b - o)) b) _ _ (λ f. full e (eqb-true _ _ f)) (λ f. part e (eqb-false _ _ f)))
  where
    full : eqb d 0 ≡ false → o + lesser d (b - o) ≡ b → P (as_values (pieces (lesser d (b - o)) (lesser d (b - o))) ++ (line ∷ chunks k b 0 (d - lesser d (b - o))))
    full e f = over (lesser d (b - o)) (omega arith) (omega (arith, lesser_is d (b - o))) f

    part : eqb d 0 ≡ false → (o + lesser d (b - o) ≡ b → ⊥) → P (as_values (pieces (lesser d (b - o)) (lesser d (b - o))))
    part e f = subst (λ (s : ℕ). P (as_values (pieces s s))) all (here some (omega (arith, lesser_is d (b - o))))
      where
        all : d ≡ lesser d (b - o)
        all = omega (arith, lesser_is d (b - o))

        some : 0 < d
        some = let n = eqb-false d 0 e in omega arith

-- chunks are as long as what was laid
pub span-++ : (cs ds : List Chunk) → span (cs ++ ds) ≡ span cs + span ds
unfolding span
span-++ [] ds = omega arith
span-++ (value v ∷ cs) ds = let ih = span-++ cs ds in omega arith
span-++ (line ∷ cs) ds = span-++ cs ds

pub span_values : (vs : List ℕ) → span (as_values vs) ≡ sum_of vs
unfolding span as_values sum_of
span_values [] = refl
span_values (v ∷ vs) = ap (λ (n : ℕ). v + n) (span_values vs)

pub span_chunks : (k b o d : ℕ) → d < k → o < b → b % 3 ≡ 0 → o % 3 ≡ 0 → d % 3 ≡ 0 → span (chunks k b o d) ≡ d
unfolding span
span_chunks zero b o d f h b3 o3 d3 = absurd (omega arith)
span_chunks (suc k) b o d f h b3 o3 d3 =
    laid (λ (cs : List Chunk). span cs ≡ d) k b o d h
    (λ z. sym z)
    (λ _ _. span_values (pieces d d) ∙ pieces_sum d d (omega arith) d3)
    (λ s p l e. span-++ (as_values (pieces s s)) (line ∷ chunks k b 0 (d - s))
    ∙ over s l (span_values (pieces s s) ∙ pieces_sum s s (omega arith) (omega arith)) (span_chunks k b 0 (d - s) (omega arith) (omega arith) b3 refl (omega arith)))
  where
    over : (s : ℕ) → s ≤ d → span (as_values (pieces s s)) ≡ s → span (chunks k b 0 (d - s)) ≡ d - s → span (as_values (pieces s s)) + span (chunks k b 0 (d - s)) ≡ d
    over s l u w = omega arith

-- a length has a first value
abbrev pub Begun : List Chunk → Type 0
Begun cs = (v : ℕ) × (rest : List Chunk) × (cs ≡ value v ∷ rest)

values_begin : (s : ℕ) (cs : List Chunk) → Begins (pieces s s) → Begun (as_values (pieces s s) ++ cs)
unfolding as_values
values_begin s cs b = (b.0, as_values b.1 ++ cs, ap (λ (vs : List ℕ). as_values vs ++ cs) b.2)

pub chunks_begin : (k b o d : ℕ) → 0 < d → o < b → b % 3 ≡ 0 → o % 3 ≡ 0 → d % 3 ≡ 0 → Begun (chunks (suc k) b o d)
chunks_begin k b o d p h b3 o3 d3 =
    laid Begun k b o d h
    (λ z. absurd (omega arith))
    (λ _ l. subst Begun (append-nil (as_values (pieces d d))) (values_begin d [] (pieces_begin d p d3)))
    (λ s q l e. values_begin s _ (pieces_begin s q (omega arith)))

-- where in its bar the next event begins
pub next_below : (b n : ℕ) → 0 < b → n % b < b
next_below b n h = mod-lt n h

pub next_three : (b n : ℕ) → b % 3 ≡ 0 → n % 3 ≡ 0 → n % b % 3 ≡ 0
next_three b n b3 n3 = mod-mod_of_dvd 3 n (dvd_of_mod-eq-zero 3 b3) ∙ n3

pub next_over : (b o d s : ℕ) → s ≤ d → o + s ≡ b → (o + d) % b ≡ (0 + (d - s)) % b
next_over b o d s l e = let u : o + d ≡ b + (0 + (d - s)) = omega arith in ap (λ (n : ℕ). n % b) u ∙ add-mod_left b (0 + (d - s))

-- values with a line behind them have a line
pub line_in : (vs : List ℕ) (cs : List Chunk) → has_line (as_values vs ++ (line ∷ cs)) ≡ true
unfolding has_line as_values
line_in [] cs = refl
line_in (v ∷ vs) cs = line_in vs cs

-- a length lies well if what is laid behind it does
lies_values : (b t : ℕ) (vs : List ℕ) (cs : List Chunk) → all_are vs ≡ true → t + sum_of vs ≤ b → LiesWell b (t + sum_of vs) cs → LiesWell b t (as_values vs ++ cs)
unfolding LiesWell as_values sum_of all_are
lies_values b t [] cs a l w = subst (λ (n : ℕ). LiesWell b n cs) (add-zero t) w
lies_values b t (v ∷ vs) cs a l w =
    let e = and_parts (is_value all_values v) (all_are vs) a in
    let g = value_good v e.0 in
    (omega arith, e.0, lies_values b (t + v) vs cs e.1 (omega arith) (subst (λ (n : ℕ). LiesWell b n cs) (sym (add_assoc t v (sum_of vs))) w))

lies_pieces : (b t n : ℕ) (cs : List Chunk) → n % 3 ≡ 0 → t + n ≤ b → LiesWell b (t + n) cs → LiesWell b t (as_values (pieces n n) ++ cs)
lies_pieces b t n cs m l w =
    let e : n ≡ sum_of (pieces n n) = sym (pieces_sum n n (omega arith) m) in
    lies_values b t (pieces n n) cs (pieces_are n n) (omega arith) (subst (λ (x : ℕ). LiesWell b (t + x) cs) e w)

pub lies_chunks : (k b o d : ℕ) (cs : List Chunk) → d < k → o < b → b % 3 ≡ 0 → o % 3 ≡ 0 → d % 3 ≡ 0 → LiesWell b ((o + d) % b) cs → LiesWell b o (chunks k b o d ++ cs)
unfolding LiesWell
lies_chunks zero b o d cs f h b3 o3 d3 w = absurd (omega arith)
lies_chunks (suc k) b o d cs f h b3 o3 d3 w =
    laid (λ (c : List Chunk). LiesWell b o (c ++ cs)) k b o d h
    (λ z. subst (λ (n : ℕ). LiesWell b n cs) (none z) w)
    (λ p l. lies_pieces b o d cs d3 (omega arith) (subst (λ (n : ℕ). LiesWell b n cs) (mod-eq_of_lt l) w))
    (λ s p l e. subst (LiesWell b o) (sym (append_assoc (as_values (pieces s s)) (line ∷ chunks k b 0 (d - s)) cs))
    (lies_pieces b o s (line ∷ (chunks k b 0 (d - s) ++ cs)) (omega arith) (omega arith) (
      e,
      lies_chunks k b 0 (d - s) cs (omega arith) (omega arith) b3 refl (omega arith) (subst (λ (n : ℕ). LiesWell b n cs) (next_over b o d s l e) w),
    )))
  where
    none : d ≡ 0 → (o + d) % b ≡ o
    none z = let e : o + d ≡ o = omega arith in ap (λ (n : ℕ). n % b) e ∙ mod-eq_of_lt h

pub lies_over_bars : (b o d : ℕ) → o < b → b % 3 ≡ 0 → o % 3 ≡ 0 → d % 3 ≡ 0 → LiesWell b o (chunks (suc d) b o d)
unfolding LiesWell
lies_over_bars b o d h b3 o3 d3 =
    subst (LiesWell b o) (append-nil (chunks (suc d) b o d)) (lies_chunks (suc d) b o d [] (omega arith) h b3 o3 d3 (next_below b (o + d) (omega arith)))
