-- A length in values: each is one that can be drawn, and together they come to the length. Assumes nothing.
use Rattle.std.proofs.Common.{◌≡◌, ℕ, zero, suc, ◌+◌, ◌-◌, ◌%◌, ◌<◌, ◌≤◌, Bool, true, false, ◌&&◌, eqb, ltb, leb, ◌⊎◌, List, [], ◌∷◌, sym, refl, ap, ◌∙◌, inl, inr, arith}
use Rattle.std.proofs.lemmas.Bool.{eq-eqb, ne_eqb, eqb-true, eqb-false, le-leb, leb-true, leb-false, ltb-true, and_parts, and_from, or_cases, or_left, or_right, both_ways}
use Rattle.score.specs.Music.{pick}
use Rattle.score.specs.Print.{all_values, largest, pieces}
use Rattle.score.specs.Promise.{sum_of, is_value, all_are}
use Rattle.score.proofs.Picks.{pick_true, pick_false, pick_both, eqb_same}
use Rattle.score.proofs.Tables.{each_of, each_of_at}

-- every value is some ticks long, at most a whole note, and a multiple of 3
good_value : ℕ → Bool
good_value v = (ltb 0 v && leb v 192) && eqb (v % 3) 0

pub value_good : (v : ℕ) → is_value all_values v ≡ true → (0 < v) × (v % 3 ≡ 0) × (v ≤ 192)
unfolding each_of good_value
value_good v e =
    let t = and_parts _ _ (each_of_at good_value all_values v refl e) in
    let l = and_parts _ _ t.0 in
    (ltb-true 0 v l.0, eqb-true (v % 3) 0 t.1, leb-true v 192 l.1)

-- v is one of these values, and not longer than n
abbrev Among : ℕ → List ℕ → ℕ → Type 0
Among n vs v = (v ≤ n) × (is_value vs v ≡ true)

largest_is : (n : ℕ) (vs : List ℕ) → (largest n vs ≡ 0) ⊎ Among n vs (largest n vs)
unfolding largest is_value
largest_is n [] = inl refl
largest_is n (v ∷ vs) =
    pick_both (λ (l : ℕ). (l ≡ 0) ⊎ Among n (v ∷ vs) l) (leb v n) v (largest n vs)
    (λ e. inr (leb-true v n e, or_left _ _ (eqb_same v))) (λ _. later (largest_is n vs))
  where
    later : (largest n vs ≡ 0) ⊎ Among n vs (largest n vs) → (largest n vs ≡ 0) ⊎ Among n (v ∷ vs) (largest n vs)
    later (inl z) = inl z
    later (inr f) = inr (f.0, or_right (eqb v (largest n vs)) _ f.1)

-- 3 is a value, so only what is shorter has no largest
largest_least : (n : ℕ) (vs : List ℕ) → each_of (ltb 0) vs ≡ true → is_value vs 3 ≡ true → largest n vs ≡ 0 → n < 3
unfolding largest is_value each_of
largest_least n [] p e z = absurd (both_ways false refl e)
largest_least n (v ∷ vs) p e z =
    pick_both (λ (l : ℕ). l ≡ 0 → n < 3) (leb v n) v (largest n vs)
    (λ _ y. omega (arith, ltb-true 0 v (and_parts _ _ p).0))
    (λ f y. past f (λ g. largest_least n vs (and_parts _ _ p).1 g y) (or_cases (eqb v 3) (is_value vs 3) e)) z
  where
    past : leb v n ≡ false → (is_value vs 3 ≡ true → n < 3) → (eqb v 3 ≡ true) ⊎ (is_value vs 3 ≡ true) → n < 3
    past f ih (inl g) = omega (arith, leb-false v n f, eqb-true v 3 g)
    past f ih (inr g) = ih g

pub value_none : (n : ℕ) → largest n all_values ≡ 0 → n < 3
unfolding each_of is_value
value_none n z = largest_least n all_values refl refl z

pub largest_whole : (n : ℕ) → 192 ≤ n → largest n all_values ≡ 192
unfolding largest
largest_whole n h = pick_true (leb 192 n) 192 _ (le-leb 192 n h)

-- a value that can be drawn in n ticks
abbrev pub ValueIn : ℕ → ℕ → Type 0
ValueIn n v = (v ≤ n) × (0 < v) × (v % 3 ≡ 0) × (is_value all_values v ≡ true)

pub value_some : (n : ℕ) → (largest n all_values ≡ 0 → ⊥) → ValueIn n (largest n all_values)
value_some n ne = go (largest_is n all_values)
  where
    go : (largest n all_values ≡ 0) ⊎ Among n all_values (largest n all_values) → ValueIn n (largest n all_values)
    go (inl z) = absurd (ne z)
    go (inr f) = let g = value_good _ f.1 in (f.0, g.0, g.1, f.1)

pub value_in : (n : ℕ) → 0 < n → n % 3 ≡ 0 → ValueIn n (largest n all_values)
value_in n p m = value_some n (λ z. omega (arith, value_none n z))

-- values come to what they are made of, and each can be drawn
pub pieces_sum : (k n : ℕ) → n ≤ k → n % 3 ≡ 0 → sum_of (pieces k n) ≡ n
unfolding pieces sum_of
pieces_sum zero n h m = omega arith
pieces_sum (suc k) n h m =
    pick_both (λ (vs : List ℕ). sum_of vs ≡ n) (eqb (largest n all_values) 0) [] (largest n all_values ∷ pieces k (n - largest n all_values))
    (λ e. omega (arith, value_none n (eqb-true _ 0 e)))
    (λ e. next (largest n all_values) (value_some n (eqb-false _ 0 e)) (pieces_sum k (n - largest n all_values)))
  where
    next : (v : ℕ) → ValueIn n v → (n - v ≤ k → (n - v) % 3 ≡ 0 → sum_of (pieces k (n - v)) ≡ n - v) → v + sum_of (pieces k (n - v)) ≡ n
    next v f ih = let e = ih (omega arith) (omega arith) in omega arith

pub pieces_are : (k n : ℕ) → all_are (pieces k n) ≡ true
unfolding pieces all_are
pieces_are zero n = refl
pieces_are (suc k) n =
    pick_both (λ (vs : List ℕ). all_are vs ≡ true) (eqb (largest n all_values) 0) [] (largest n all_values ∷ pieces k (n - largest n all_values))
    (λ _. refl)
    (λ e. and_from _ _ (value_some n (eqb-false _ 0 e)).3 (pieces_are k (n - largest n all_values)))

-- the bound on how many does not matter where it is large enough
pub pieces_fuel : (j k n : ℕ) → n ≤ j → n ≤ k → pieces j n ≡ pieces k n
unfolding pieces largest
pieces_fuel zero zero n h g = refl
pieces_fuel zero (suc k) n h g = sym (pick_true _ _ _ (eq-eqb _ _ (ap (λ (m : ℕ). largest m all_values) none)))
  where
    none : n ≡ 0
    none = omega arith
pieces_fuel (suc j) zero n h g = pick_true _ _ _ (eq-eqb _ _ (ap (λ (m : ℕ). largest m all_values) none))
  where
    none : n ≡ 0
    none = omega arith
pieces_fuel (suc j) (suc k) n h g = go (largest n all_values) (value_some n) (λ v a b. pieces_fuel j k (n - v) a b)
  where
    go : (v : ℕ) → ((v ≡ 0 → ⊥) → ValueIn n v) → ((v : ℕ) → n - v ≤ j → n - v ≤ k → pieces j (n - v) ≡ pieces k (n - v)) →
        pick (eqb v 0) [] (v ∷ pieces j (n - v)) ≡ pick (eqb v 0) [] (v ∷ pieces k (n - v))
    go zero f ih = refl
    go (suc v) f ih = let q = f (λ z. omega arith) in ap (λ (vs : List ℕ). pick (eqb (suc v) 0) [] (suc v ∷ vs)) (ih (suc v) (omega arith) (omega arith))

-- the first value, and what is left
pub pieces_first : (n v : ℕ) → v ≡ largest n all_values → (v ≡ 0 → ⊥) → pieces n n ≡ v ∷ pieces (n - v) (n - v)
unfolding pieces
pieces_first zero v e ne = absurd (let f = value_some 0 (λ z. ne (e ∙ z)) in omega arith)
pieces_first (suc n) v e ne =
    let f = value_some (suc n) (λ z. ne (e ∙ z)) in
    pick_false _ _ _ (ne_eqb (largest (suc n) all_values) 0 (λ z. omega arith))
    ∙ ap (λ (l : ℕ). l ∷ pieces n (suc n - l)) (sym e)
    ∙ ap (λ (vs : List ℕ). v ∷ vs) (pieces_fuel n (suc n - v) (suc n - v) (omega arith) (omega arith))

pub pieces_next : (n v : ℕ) → 0 < n → n % 3 ≡ 0 → v ≡ largest n all_values → pieces n n ≡ v ∷ pieces (n - v) (n - v)
pieces_next n v p m e = let f = value_in n p m in pieces_first n v e (λ z. omega arith)

pub pieces_whole : (n : ℕ) → 192 ≤ n → pieces n n ≡ 192 ∷ pieces (n - 192) (n - 192)
pieces_whole n h = pieces_first n 192 (sym (largest_whole n h)) (λ z. omega arith)

pub pieces_none : (n : ℕ) → n < 3 → pieces n n ≡ []
unfolding pieces largest
pieces_none zero h = refl
pieces_none (suc zero) h = refl
pieces_none (suc (suc zero)) h = refl
pieces_none (suc (suc (suc n))) h = absurd (omega arith)

abbrev pub Begins : List ℕ → Type 0
Begins xs = (v : ℕ) × (vs : List ℕ) × (xs ≡ v ∷ vs)

pub pieces_begin : (n : ℕ) → 0 < n → n % 3 ≡ 0 → Begins (pieces n n)
pieces_begin n p m = (_, _, pieces_next n _ p m refl)
