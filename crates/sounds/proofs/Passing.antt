-- Slots in which no voice begins a note are passed: what is left of the voices stays the same. Assumes nothing.
use Rattle.std.proofs.Common.{◌≡◌, ℕ, zero, suc, ◌+◌, ◌-◌, ◌*◌, ◌≤◌, List, [], ◌∷◌, length, get_or, drop, subst, drop-cons, add-one, arith}
use Rattle.std.proofs.lemmas.List.{drop_all}
use Rattle.sounds.specs.Spans.{grain, NoneBetween, NextUsed}
use Rattle.sounds.proofs.Writing.{Writing, writing_empty}

-- the slots from the i-th on tell what is left to be written
pub record Passing (ns ps xs ds : List ℕ) (e : ℕ) (start came cursors out : List ℕ) (count first : ℕ) (ms : List ℕ) (i : ℕ) : Type 0 where
  pub writing : Writing ns ps xs ds e start came 0 cursors out count (grain * (first + i)) (drop i ms)
  pub within : i ≤ length ms

module _ {ns ps xs ds : List ℕ} {e : ℕ} {start came cursors out : List ℕ} {count first : ℕ} {ms : List ℕ} where
  passed_to : (n i j : ℕ) → i + n ≡ j → j ≤ length ms → NoneBetween i j ms → Passing ns ps xs ds e start came cursors out count first ms i
      → Passing ns ps xs ds e start came cursors out count first ms j
  passed_to zero i j q l none w = let same : i ≡ j = omega arith in subst (Passing ns ps xs ds e start came cursors out count first ms) same w
  passed_to (suc n) i j q l none w =
      let first = drop-cons ms i 0 (omega arith) in
      let here = rw first at w.writing in
      passed_to n (suc i) j (omega arith) l (λ k b c. none k (omega arith) c)
      (record { writing = writing_empty here (none i (omega arith) (omega arith)) (omega arith); within = omega arith })

  pub next_used : {i n j : ℕ} → Passing ns ps xs ds e start came cursors out count first ms i → NextUsed i n ms j → n ≤ length ms
      → Writing ns ps xs ds e start came 0 cursors out count (grain * (first + j)) (get_or ms j 0 ∷ drop (j + 1) ms)
  next_used {i} {n} {j} w u l =
      let there = (passed_to (j - i) i j (omega (arith, u.behind)) (omega (arith, u.there)) u.before w).writing in
      let head = drop-cons ms j 0 (omega (arith, u.there)) in
      rw add-one (rw head at there)

  -- no slot is left
  pub none_used : {i : ℕ} → Passing ns ps xs ds e start came cursors out count first ms i → NoneBetween i (length ms) ms
      → Writing ns ps xs ds e start came 0 cursors out count (grain * (first + length ms)) []
  none_used {i} w none =
      let all = (passed_to (length ms - i) i (length ms) (omega (arith, w.within)) (omega arith) none w).writing in
      let over = drop_all (length ms) ms (omega arith) in
      rw over at all
