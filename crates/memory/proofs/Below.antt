-- Rows of numbers that are below a bound. Assumes nothing.
use Rattle.std.proofs.Common.{◌≡◌, ℕ, zero, suc, ◌-◌, ◌<◌, true, ltb, List, [], ◌∷◌, length, drop, replicate, refl}
use Rattle.std.proofs.lemmas.Bool.{and_parts, and_from, lt-ltb}
use Rattle.score.specs.Promise.{all_below}
use Rattle.wire.proofs.Rows.{all_below-++}
use Rattle.memory.specs.Store.{padded}

module _ (b : ℕ) where
  pub below_drop : (n : ℕ) (xs : List ℕ) → all_below b xs ≡ true → all_below b (drop n xs) ≡ true
  unfolding all_below
  below_drop zero xs h = h
  below_drop (suc n) [] h = refl
  below_drop (suc n) (x ∷ xs) h = below_drop n xs (and_parts (ltb x b) _ h).1

  pub below_zeros : (n : ℕ) → 0 < b → all_below b (replicate n 0) ≡ true
  unfolding all_below
  below_zeros zero h = refl
  below_zeros (suc n) h = and_from _ _ (lt-ltb 0 b h) (below_zeros n h)

  pub below_padded : (n : ℕ) (xs : List ℕ) → 0 < b → all_below b xs ≡ true → all_below b (padded n xs) ≡ true
  unfolding padded
  below_padded n xs z h = all_below-++ b xs _ h (below_zeros (n - length xs) z)
