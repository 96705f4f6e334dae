-- The marks that one word has of a range: they are the ones from its first event on, and without them the range begins behind. Assumes nothing.
use Rattle.std.proofs.Common.{◌≡◌, ℕ, w32, ◌+◌, ◌-◌, ◌*◌, ◌/◌, ◌%◌, ◌^◌, ◌<◌, ◌≤◌, min, get_or, set, sym, refl, ap, ◌∙◌, inl, inr, arith, pow_pos, pow_mono}
use Rattle.std.specs.Int.{bit_at, trailing_ones}
use lib.Count.{count_trailing_zeros}
use lib.Pow.{high_ones}
use native.Mathlib.Nat.{div-eq_of_lt}
use Rattle.std.proofs.lemmas.Nat.{shl-shr}
use Rattle.std.proofs.lemmas.Nat.Bits.{bit_at_ones, bit_at-trailing_ones}
use Rattle.std.proofs.lemmas.List.{get_or-set_same, get_or-set_other, length-set}
use Rattle.std.proofs.lemmas.List.FromFn.{fill_by_all}
use Rattle.std.proofs.lemmas.Bool.{cases_eq, cases_lt}
use Rattle.marks.specs.Marked.{low, mark_word, marked}
use Rattle.marks.proofs.Bits.{length_marked, word_marked}

-- how many ones there are from bit 0 on
full : trailing_ones w32 (2 ^ 32 - 1) ≡ 32
unfolding count_trailing_zeros
full = refl

ones : (n : ℕ) → n ≤ 32 → trailing_ones w32 (2 ^ n - 1) ≡ n
ones n le = elim (cases_lt n 32) [
  | inl lt ↦
      let t : ℕ = trailing_ones w32 (2 ^ n - 1) in
      let pos = pow_pos n in
      let short : n ≤ 31 = omega arith in
      let most : 2 ^ n ≤ 2147483648 = pow_mono {i = n} {j = 31} short in
      let b = bit_at-trailing_ones w32 (2 ^ n - 1) (omega (arith, pos, most)) in
      let below : 2 ^ n - 1 < 2 ^ n = omega (arith, pos) in
      let zero : bit_at (2 ^ n - 1) n ≡ 0 = ap (λ (x : ℕ). x % 2) (div-eq_of_lt below) in
      elim (cases_lt t n) [
        | inl less ↦ absurd (let one = bit_at_ones n t less in omega (arith, sym one ∙ b.1))
        | inr at_least ↦ elim (cases_lt n t) [
          | inl more ↦ absurd (let one = b.2 n more in omega (arith, sym one ∙ zero))
          | inr at_most ↦ omega (arith, at_least, at_most)
        ]
      ]
  | inr ge ↦ let e : n ≡ 32 = omega arith in ap (λ i. trailing_ones w32 (2 ^ i - 1)) e ∙ (full ∙ sym e)
]

module _ (at last m : ℕ) (le : at ≤ last) (reach : at / 32 < m) where
  abbrev q : ℕ
  q = at / 32

  abbrev behind : ℕ
  behind = min last (32 * (at / 32 + 1))

  pub run_is : trailing_ones w32 (get_or (marked at last m) (at / 32) 0 / 2 ^ (at % 32)) ≡ behind - at
  run_is =
      let n : ℕ = low last q - at % 32 in
      let to : low last q ≡ n + at % 32 = omega arith in
      let from : low at q ≡ at % 32 = omega arith in
      let word : get_or (marked at last m) q 0 ≡ 2 ^ (n + at % 32) - 2 ^ (at % 32) =
      word_marked at last m q reach ∙ (ap (λ (i : ℕ). 2 ^ i - 2 ^ low at q) to ∙ ap (λ (i : ℕ). 2 ^ (n + at % 32) - 2 ^ i) from) in
      let many : n ≡ behind - at = omega arith in
      ap (λ (x : ℕ). trailing_ones w32 (x / 2 ^ (at % 32))) (word ∙ high_ones n (at % 32)) ∙ (ap (trailing_ones w32) (shl-shr (2 ^ n - 1) (at % 32)) ∙ (ones n (omega arith) ∙ many))

  pub behind_is : at + (behind - at) ≡ behind
  behind_is = omega arith

  pub rest_is : set (marked at last m) (at / 32) 0 ≡ marked behind last m
  unfolding marked
  rest_is =
      fill_by_all (mark_word behind last) (set (marked at last m) q 0) m 0 (length-set (marked at last m) q 0 ∙ length_marked at last m) (λ k l. elim (cases_eq k q) [
        | inl e ↦
            let none : low last q ≡ low behind q = omega arith in
            let zero : 0 ≡ 2 ^ low last q - 2 ^ low behind q = omega (arith, ap (λ (i : ℕ). 2 ^ i) none) in
            ap (λ i. get_or (set (marked at last m) q 0) i 0) e ∙ (get_or-set_same (marked at last m) q 0 0 (omega (arith, length_marked at last m)) ∙ (zero ∙ ap (mark_word behind last) (sym e)))
        | inr ne ↦
            let same : low at k ≡ low behind k = elim (cases_lt k q) [ inl lt ↦ omega arith | inr ge ↦ omega arith ] in
            get_or-set_other (marked at last m) q k 0 0 ne ∙ (word_marked at last m k l ∙ ap (λ (i : ℕ). 2 ^ low last k - 2 ^ i) same)
      ])
