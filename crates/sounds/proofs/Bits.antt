-- One bit of a number is set or cleared, and which is the lowest. Assumes nothing.
use Rattle.std.proofs.Common.{◌≡◌, ℕ, ◌^◌, ◌<◌, arith}
use lib.Bits.{bit_or, bit_xor}
use lib.Count.{count_trailing_zeros}
use mir.Syntax.{w64}
use Rattle.std.specs.Int.{bit_at}
use Rattle.std.proofs.lemmas.Nat.Bits.{bit_at_or, bit_at_xor, bit_at-pow_same, bit_at-pow_other, bit_at-lt, bit_at-trailing_zeros}

pub put_same : (w k : ℕ) → bit_at (bit_or w (2 ^ k)) k ≡ 1
put_same w k = omega (arith, bit_at_or w (2 ^ k) k, bit_at-pow_same k, bit_at-lt w k)

pub put_other : (w k j : ℕ) → (j ≡ k → ⊥) → bit_at (bit_or w (2 ^ k)) j ≡ bit_at w j
put_other w k j ne = omega (arith, bit_at_or w (2 ^ k) j, bit_at-pow_other k j ne)

pub flip_same : (w k : ℕ) → bit_at w k ≡ 1 → bit_at (bit_xor w (2 ^ k)) k ≡ 0
flip_same w k e = omega (arith, bit_at_xor w (2 ^ k) k, bit_at-pow_same k)

pub flip_other : (w k j : ℕ) → (j ≡ k → ⊥) → bit_at (bit_xor w (2 ^ k)) j ≡ bit_at w j
flip_other w k j ne = omega (arith, bit_at_xor w (2 ^ k) j, bit_at-pow_other k j ne, bit_at-lt w j)

-- the lowest bit that is set
pub record Lowest (n t : ℕ) : Type 0 where
  pub is_set : bit_at n t ≡ 1
  pub none_below : (j : ℕ) → j < t → bit_at n j ≡ 0

pub trailing_lowest : (n : ℕ) → 0 < n → n < 2 ^ 64 → Lowest n (count_trailing_zeros 64 n)
trailing_lowest n p h = let t = bit_at-trailing_zeros w64 n p h in record { is_set = t.1; none_below = t.2 }
