-- The largest value that fits, and values written one after another. Assumes nothing.
use Rattle.std.proofs.Common.{◌≡◌, ℕ, ◌+◌, ◌-◌, ◌/◌, ◌%◌, ◌<◌, ◌≤◌, min, Bool, true, eqb, ◌⊎◌, List, [], ◌∷◌, ◌++◌, length, get_or, take, drop, set, sym, refl, ap, ◌∙◌, ap₂, inl, inr, append_assoc, append-nil, arith, length-append}
use Rattle.std.proofs.lemmas.Bool.{cases_eq, cases_lt, eqb-true}
use Rattle.std.proofs.lemmas.List.{drop-drop, take_more_set, drop-set-lt, take-append-drop, length-take-le, length-set}
use Rattle.score.specs.Print.{all_values, largest, pieces}
use Rattle.lengths.specs.Drawn.{Largest}
use Rattle.lengths.specs.declared.TheConstants.{LARGEST}
use Rattle.laws.proofs.Pieces.{value_none, value_good, value_some, largest_whole, pieces_first, pieces_next, pieces_none}
use Rattle.laws.proofs.Few.{count, count_few}
use Rattle.score.proofs.Tables.{each_below, each_at}

largest_known : (n v : ℕ) → v ≡ largest n all_values → Largest n v
largest_known n v e = go (cases_eq (largest n all_values) 0)
  where
    go : (largest n all_values ≡ 0) ⊎ (largest n all_values ≡ 0 → ⊥) → Largest n v
    go (inl z) = record { is = e; within = omega arith; small = omega arith; three = ap (λ (x : ℕ). x % 3) (e ∙ z); some = (λ h. absurd (omega (arith, value_none n z))) }
    go (inr f) =
        let g = value_some n f in
        let w = value_good (largest n all_values) g.3 in
        record { is = e; within = omega arith; small = omega arith; three = ap (λ (x : ℕ). x % 3) e ∙ g.2; some = (λ h. omega arith) }

-- the table has the largest value of each length, by how many times 3 ticks that is, up to a whole note
table_test : ℕ → Bool
table_test n = eqb (get_or LARGEST (n / 3) 0) (largest n all_values)

table_right : each_below table_test 192 ≡ true
unfolding table_test each_below largest
table_right = refl

table_below : (n : ℕ) → n < 192 → get_or LARGEST (n / 3) 0 ≡ largest n all_values
unfolding table_test
table_below n h = eqb-true _ _ (each_at table_test 192 n table_right h)

pub table_known : (n m : ℕ) → m ≡ min n 192 → Largest n (get_or LARGEST (m / 3) 0)
table_known n m e = largest_known n _ (go (cases_lt n 192))
  where
    go : (n < 192) ⊎ (192 ≤ n) → get_or LARGEST (m / 3) 0 ≡ largest n all_values
    go (inl h) = let f : m ≡ n = omega arith in ap (λ (x : ℕ). get_or LARGEST (x / 3) 0) f ∙ table_below n h
    go (inr h) = let f : m ≡ 192 = omega arith in ap (λ (x : ℕ). get_or LARGEST (x / 3) 0) f ∙ sym (largest_whole n h)

-- the values of a length, where one fits and where none does
pub next_value : (n v : ℕ) → 3 ≤ n → v ≡ largest n all_values → pieces n n ≡ v ∷ pieces (n - v) (n - v)
next_value n v h e = pieces_first n v e (λ z. omega (arith, value_none n (sym e ∙ z)))

-- and a row of values that begins, or is over
pub value_known : (n v : ℕ) (vs : List ℕ) → pieces n n ≡ v ∷ vs → Largest n v × (0 < v) × (vs ≡ pieces (n - v) (n - v))
value_known n v vs e = go (cases_eq (largest n all_values) 0)
  where
    go : (largest n all_values ≡ 0) ⊎ (largest n all_values ≡ 0 → ⊥) → Largest n v × (0 < v) × (vs ≡ pieces (n - v) (n - v))
    go (inl z) = let f : v ∷ vs ≡ [] = sym e ∙ pieces_none n (value_none n z) in cc
    go (inr f) =
        let p = pieces_first n (largest n all_values) refl f in
        let g = value_some n f in
        let w : v ≡ largest n all_values = cc in
        (largest_known n v w, omega arith, (let u : vs ≡ pieces (n - largest n all_values) (n - largest n all_values) = cc in u ∙ ap (λ (x : ℕ). pieces (n - x) (n - x)) (sym w)))

pub values_over : (n : ℕ) → pieces n n ≡ [] → n % 3 ≡ 0 → n ≡ 0
values_over n e m = go (cases_eq n 0)
  where
    go : (n ≡ 0) ⊎ (n ≡ 0 → ⊥) → n ≡ 0
    go (inl z) = z
    go (inr f) = let p = pieces_next n (largest n all_values) (omega arith) m refl in let z : ◌≡◌ {A = ℕ} 0 1 = cc in absurd (omega arith)

-- Values written over the front of a row that was lent: what is written and what is still owed is all of it, the rest is as it was, and there is
-- room for what is written.
unfoldable pub Writing : ℕ → ℕ → ℕ → List ℕ → List ℕ → Type 0
Writing n at left was out = (take at out ++ pieces left left ≡ pieces n n) × (drop at out ≡ drop at was) × (at ≤ length out)

pub few : (n : ℕ) → length (pieces n n) ≤ n / 192 + 3
unfolding count
few n = count_few n

pub start : (n at left : ℕ) (out : List ℕ) → at ≡ 0 → left ≡ n → Writing n at left out out
unfolding Writing
start n at left out e f = (ap₂ (λ (i m : ℕ). take i out ++ pieces m m) e f, refl, omega arith)

-- what is written and what is still owed are together as many as all of them
together : (n at left : ℕ) (was out : List ℕ) → Writing n at left was out → at + length (pieces left left) ≡ length (pieces n n)
unfolding Writing
together n at left was out w =
    let f : length (take at out) + length (pieces left left) ≡ length (pieces n n) = sym (length-append (take at out) (pieces left left)) ∙ ap length w.0 in
    omega (arith, length-take-le at out w.2)

-- they are few
pub counted : (n at left : ℕ) (was out : List ℕ) → Writing n at left was out → at + length (pieces left left) ≤ n / 192 + 3
counted n at left was out w = omega (arith, together n at left was out w, few n)

-- there is room for the next value
pub room : (n at left : ℕ) (was out vs : List ℕ) (v : ℕ) → Writing n at left was out → n / 192 + 3 ≤ length out → pieces left left ≡ v ∷ vs → at < length out
room n at left was out vs v w r e = omega (arith, ap length e, counted n at left was out w)

-- and once it is written
pub write : (n at left rest : ℕ) (was out : List ℕ) (v : ℕ) → Writing n at left was out → n / 192 + 3 ≤ length out → pieces left left ≡ v ∷ pieces rest rest → Writing n (at + 1) rest was (set out at v)
unfolding Writing
write n at left rest was out v w r e =
    let h : at < length out = room n at left was out (pieces rest rest) v w r e in
    let lt : at < at + 1 = omega arith in (
      rw (take_more_set out at v h, append_assoc) (sym (ap (λ (xs : List ℕ). take at out ++ xs) e) ∙ w.0),
      rw (drop-set-lt, ← drop-drop 1 at out, ← drop-drop 1 at was) (ap (drop 1) w.1),
      simp length-set (omega arith),
    )

-- and where no value is left, all of it is written
pub done : (n at left : ℕ) (was out : List ℕ) → Writing n at left was out → pieces left left ≡ [] → out ≡ pieces n n ++ drop (length (pieces n n)) was
unfolding Writing
done n at left was out w e =
    sym (take-append-drop at out) ∙ ap₂ (λ (xs ys : List ℕ). xs ++ ys) all (w.1 ∙ ap (λ (i : ℕ). drop i was) (sym (length-take-le at out w.2) ∙ ap length all))
  where
    all : take at out ≡ pieces n n
    all = sym (append-nil (take at out)) ∙ ap (λ (xs : List ℕ). take at out ++ xs) (sym e) ∙ w.0

-- as many as there are
pub written : (n at left : ℕ) (was out : List ℕ) → Writing n at left was out → pieces left left ≡ [] → at ≡ length (pieces n n)
written n at left was out w e = omega (arith, together n at left was out w, ap length e)
