-- Cases by small numbers, and what the first byte of digits is not. Assumes nothing.
use Rattle.std.proofs.Common.{◌≡◌, ℕ, ◌<◌, ◌≤◌, true, leb, below_none, below_more}
use Rattle.std.proofs.lemmas.Bool.{and_parts, leb-true}
use Rattle.words.specs.Words.{is_digit}

pub five : (P : ℕ → Type 0) → P 0 → P 1 → P 2 → P 3 → P 4 → (n : ℕ) → n < 5 → P n
five P a b c d e = below_more P 4 (below_more P 3 (below_more P 2 (below_more P 1 (below_more P 0 (below_none P) a) b) c) d) e

pub six : (P : ℕ → Type 0) → P 0 → P 1 → P 2 → P 3 → P 4 → P 5 → (n : ℕ) → n < 6 → P n
six P a b c d e f = below_more P 5 (five P a b c d e) f

pub seven : (P : ℕ → Type 0) → P 0 → P 1 → P 2 → P 3 → P 4 → P 5 → P 6 → (n : ℕ) → n < 7 → P n
seven P a b c d e f g = below_more P 6 (six P a b c d e f) g

pub digit_range : (x : ℕ) → is_digit x ≡ true → (48 ≤ x) × (x ≤ 57)
digit_range x e = let p = and_parts (leb 48 x) (leb x 57) e in (leb-true 48 x p.0, leb-true x 57 p.1)
