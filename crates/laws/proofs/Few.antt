-- The largest value first makes the fewest values. Assumes nothing.
use Rattle.std.proofs.Common.{◌≡◌, ℕ, zero, suc, ◌+◌, ◌-◌, ◌*◌, ◌/◌, ◌%◌, ◌≤◌, Bool, true, leb, List, [], ◌∷◌, length, refl, ap, ◌∙◌, subst, arith}
use Rattle.std.proofs.lemmas.Bool.{leb-true, and_parts}
use Rattle.score.specs.Print.{all_values, largest, pieces}
use Rattle.score.specs.Promise.{sum_of, is_value, all_are, Fewest}
use Rattle.score.proofs.Tables.{each_below, each_at, each_of, each_of_at}
use Rattle.laws.proofs.Pieces.{value_good, pieces_sum, pieces_are, pieces_whole}

-- how many values a length takes
unfoldable pub count : ℕ → ℕ
count n = length (pieces n n)

-- each whole note takes one
count_wholes : (q r : ℕ) → count (192 * q + r) ≡ q + count r
unfolding count
count_wholes zero r = let e : count (192 * 0 + r) ≡ count r = ap count (omega arith) in omega arith
count_wholes (suc q) r =
    let e : count (192 * suc q + r - 192) ≡ count (192 * q + r) = ap count (omega arith) in
    let ih = count_wholes q r in
    ap length (pieces_whole (192 * suc q + r) (omega arith)) ∙ (omega arith)

-- one value more makes at most one more: computed below a whole note, and so for any length
more_test : ℕ → ℕ → Bool
more_test m v = leb (count (3 * m + v)) (suc (count (3 * m)))

more_table : each_below (λ m. each_of (more_test m) all_values) 64 ≡ true
unfolding each_below each_of more_test count pieces largest
more_table = refl

more_below : (m v : ℕ) → suc m ≤ 64 → is_value all_values v ≡ true → count (3 * m + v) ≤ suc (count (3 * m))
unfolding more_test
more_below m v l e = leb-true _ _ (each_of_at (more_test m) all_values v (each_at (λ m. each_of (more_test m) all_values) 64 m more_table l) e)

pub count_more : (n v : ℕ) → n % 3 ≡ 0 → is_value all_values v ≡ true → count (n + v) ≤ suc (count n)
count_more n v m e =
    let a : count n ≡ n / 192 + count (3 * (n % 192 / 3)) = ap count (omega arith) ∙ count_wholes (n / 192) (3 * (n % 192 / 3)) in
    let b : count (n + v) ≡ n / 192 + count (3 * (n % 192 / 3) + v) = ap count (omega arith) ∙ count_wholes (n / 192) (3 * (n % 192 / 3) + v) in
    let c = more_below (n % 192 / 3) v (omega arith) e in
    omega arith

-- three values are enough below a whole note
few_test : ℕ → Bool
few_test n = leb (count n) 3

few_table : each_below few_test 192 ≡ true
unfolding each_below few_test count pieces largest
few_table = refl

pub count_few : (n : ℕ) → count n ≤ n / 192 + 3
unfolding few_test
count_few n =
    let a : count n ≡ n / 192 + count (n % 192) = ap count (omega arith) ∙ count_wholes (n / 192) (n % 192) in
    let b = leb-true (count (n % 192)) 3 (each_at few_test 192 (n % 192) few_table (omega arith)) in
    omega arith

-- any row of values has as many at least
pub count_least : (vs : List ℕ) → all_are vs ≡ true → (sum_of vs % 3 ≡ 0) × (count (sum_of vs) ≤ length vs)
unfolding all_are sum_of count pieces
count_least [] h = (refl, omega arith)
count_least (v ∷ vs) h =
    let e = and_parts (is_value all_values v) (all_are vs) h in
    let g = value_good v e.0 in
    let ih = count_least vs e.1 in
    let f = count_more (sum_of vs) v ih.0 e.0 in
    let c : count (v + sum_of vs) ≡ count (sum_of vs + v) = ap count (omega arith) in
    (omega arith, omega arith)

pub fewest : Fewest
unfolding count
fewest n vs are e =
    let l = subst (λ (m : ℕ). (m % 3 ≡ 0) × (count m ≤ length vs)) e (count_least vs are) in
    (pieces_sum n n (omega arith) l.0, pieces_are n n, l.1)
