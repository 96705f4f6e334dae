-- A rule about each number below a bound, or about each value of a row, shown by one test that is computed. Assumes nothing.
use Rattle.std.proofs.Common.{◌≡◌, ℕ, zero, suc, ◌<◌, ◌≤◌, Bool, true, false, ◌&&◌, eqb, ◌⊎◌, List, [], ◌∷◌, refl, subst, inl, inr, arith}
use Rattle.std.proofs.lemmas.Bool.{eqb-true, and_parts, or_cases, cases_lt, both_ways}
use Rattle.score.specs.Promise.{is_value}

unfoldable pub each_below : (ℕ → Bool) → ℕ → Bool
each_below f zero = true
each_below f (suc n) = f n && each_below f n

pub each_at : (f : ℕ → Bool) (n m : ℕ) → each_below f n ≡ true → m < n → f m ≡ true
unfolding each_below
each_at f zero m h l = absurd (omega arith)
each_at f (suc n) m h l = go (cases_lt m n) (each_at f n m (and_parts _ _ h).1)
  where
    go : (m < n) ⊎ (n ≤ m) → (m < n → f m ≡ true) → f m ≡ true
    go (inl a) ih = ih a
    go (inr a) ih = subst (λ (x : ℕ). f x ≡ true) (omega arith) (and_parts _ _ h).0

unfoldable pub each_of : (ℕ → Bool) → List ℕ → Bool
each_of f [] = true
each_of f (v ∷ vs) = f v && each_of f vs

pub each_of_at : (f : ℕ → Bool) (vs : List ℕ) (v : ℕ) → each_of f vs ≡ true → is_value vs v ≡ true → f v ≡ true
unfolding each_of is_value
each_of_at f [] v h e = absurd (both_ways false refl e)
each_of_at f (w ∷ ws) v h e = go (or_cases _ _ e) (each_of_at f ws v (and_parts _ _ h).1)
  where
    go : (eqb w v ≡ true) ⊎ (is_value ws v ≡ true) → (is_value ws v ≡ true → f v ≡ true) → f v ≡ true
    go (inl a) ih = subst (λ (x : ℕ). f x ≡ true) (eqb-true w v a) (and_parts _ _ h).0
    go (inr a) ih = ih a
