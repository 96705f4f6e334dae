-- The words that tell in which slots a voice begins a note. Assumes nothing.
use Rattle.std.proofs.Common.{◌≡◌, ℕ, ◌+◌, ◌-◌, ◌*◌, ◌/◌, ◌%◌, ◌^◌, ◌<◌, ◌≤◌, List, length, get_or, set, replicate, sym, ap, ◌∙◌, inl, inr, arith, pow_pos}
use lib.Bits.{bit_and, bit_or}
use Rattle.std.specs.Int.Bits.{and_lt}
use lib.Count.{count_trailing_zeros}
use Rattle.std.proofs.lemmas.Nat.Bits.{bit_at-zero, bit_at-lt, bit_at_and, bit_at_above, bit_at_mask_inside, bit_at_mask_below}
use Rattle.std.proofs.lemmas.List.{get_or-set_same, get_or-set_other, get_or-replicate, get_or_past, length-replicate}
use Rattle.std.proofs.lemmas.Bool.{cases_eq, cases_lt}
use Rattle.std.specs.Int.{bit_at}
use Rattle.sounds.specs.Spans.{NoneBetween, NextUsed, bit_of, Tells}
use Rattle.sounds.proofs.Bits.{put_same, put_other, trailing_lowest}

-- ---- a voice begins a note in slot k

module _ {n : ℕ} {ws ms : List ℕ} (k v : ℕ) (there : k < n) (in_words : k / 64 < length ws) (in_slots : k < length ms) (tells : Tells n ws ms) where
  abbrev Ws : List ℕ
  Ws = set ws (k / 64) (bit_or (get_or ws (k / 64) 0) (2 ^ (k % 64)))

  abbrev Ms : List ℕ
  Ms = set ms k (bit_or (get_or ms k 0) (2 ^ v))

  own_bit : bit_of Ws k ≡ 1
  own_bit = ap (λ (w : ℕ). bit_at w (k % 64)) (get_or-set_same ws (k / 64) _ 0 in_words) ∙ put_same (get_or ws (k / 64) 0) (k % 64)

  other_bit : (j : ℕ) → (j ≡ k → ⊥) → bit_of Ws j ≡ bit_of ws j
  other_bit j ne = elim (cases_eq (j / 64) (k / 64)) [
    | inl e ↦
        ap (λ (i : ℕ). bit_at (get_or Ws i 0) (j % 64)) e ∙ ap (λ (w : ℕ). bit_at w (j % 64)) (get_or-set_same ws (k / 64) _ 0 in_words)
        ∙ put_other (get_or ws (k / 64) 0) (k % 64) (j % 64) (λ q. ne (omega arith)) ∙ ap (λ (i : ℕ). bit_at (get_or ws i 0) (j % 64)) (sym e)
    | inr d ↦ ap (λ (w : ℕ). bit_at w (j % 64)) (get_or-set_other ws (k / 64) (j / 64) _ 0 d)
  ]

  own_slot : get_or Ms k 0 ≡ 0 → ⊥
  own_slot z = omega (arith, ap (λ (w : ℕ). bit_at w v) (sym (get_or-set_same ms k _ 0 in_slots) ∙ z), put_same (get_or ms k 0) v, bit_at-zero v)

  other_slot : (j : ℕ) → (j ≡ k → ⊥) → get_or Ms j 0 ≡ get_or ms j 0
  other_slot j ne = get_or-set_other ms k j _ 0 ne

  pub tells_put : Tells n Ws Ms
  tells_put = record {
    empty = λ j z. elim (cases_eq j k) [
      | inl e ↦ absurd (omega (arith, ap (bit_of Ws) e, own_bit))
      | inr ne ↦ other_slot j ne ∙ tells.empty j (sym (other_bit j ne) ∙ z)
    ];
    filled = λ j o. elim (cases_eq j k) [
      | inl e ↦ (omega arith, λ z. own_slot (ap (λ (i : ℕ). get_or Ms i 0) (sym e) ∙ z))
      | inr ne ↦ let f = tells.filled j (sym (other_bit j ne) ∙ o) in (f.0, λ z. f.1 (sym (other_slot j ne) ∙ z))
    ];
  }

-- ---- the next slot from one on in which a voice does

-- of a word, the bits from the p-th on
abbrev later : ℕ → ℕ → ℕ
later w p = bit_and w (2 ^ 64 - 2 ^ p)

later_in : (w p j : ℕ) → p ≤ j → j < 64 → bit_at (later w p) j ≡ bit_at w j
later_in w p j l few = omega (arith, bit_at_and w (2 ^ 64 - 2 ^ p) j, bit_at_mask_inside p 64 j l few, bit_at-lt w j)

later_out : (w p j : ℕ) → j < p → bit_at (later w p) j ≡ 0
later_out w p j l = omega (arith, bit_at_and w (2 ^ 64 - 2 ^ p) j, bit_at_mask_below p 64 j l)

-- in the word of number q, of which p bits are for slots before the i-th, and up to which there is no note
module _ {n i : ℕ} {ws ms : List ℕ} (q p : ℕ) (tells : Tells n ws ms) (so_far : NoneBetween i (64 * q) ms) (passes : p ≡ i - 64 * q) where
  -- no note before its t-th slot
  none_below : (t : ℕ) → ((j : ℕ) → j < t → bit_at (later (get_or ws q 0) p) j ≡ 0) → t ≤ 64 → NoneBetween i (64 * q + t) ms
  none_below t none few k from to = elim (cases_lt k (64 * q)) [
    | inl before ↦ so_far k from before
    | inr here ↦
        let word : k / 64 ≡ q = omega arith in
        tells.empty k (ap (λ (w : ℕ). bit_at (get_or ws w 0) (k % 64)) word ∙ sym (later_in (get_or ws q 0) p (k % 64) (omega arith) (omega arith)) ∙ none (k % 64) (omega arith))
  ]

  -- none in this word
  pub none_here : later (get_or ws q 0) p ≡ 0 → NoneBetween i (64 * (q + 1)) ms
  none_here z =
      let next : 64 * q + 64 ≡ 64 * (q + 1) = omega arith in
      rw next at (none_below 64 (λ j _. ap (λ (w : ℕ). bit_at w j) z ∙ bit_at-zero j) (omega arith))

  -- the lowest of the bits that are left
  pub used_here : {t : ℕ} → (later (get_or ws q 0) p ≡ 0 → ⊥) → get_or ws q 0 < 2 ^ 64 → t ≡ count_trailing_zeros 64 (later (get_or ws q 0) p) → NextUsed i n ms (64 * q + t)
  used_here {t} ne small e =
      let left = and_lt 64 (get_or ws q 0) (2 ^ 64 - 2 ^ p) small (omega (arith, pow_pos p)) in
      let low = rw (← e) at (trailing_lowest (later (get_or ws q 0) p) (omega arith) left) in
      let few : t < 64 = elim (cases_lt t 64) [ inl l ↦ l | inr l ↦ absurd (omega (arith, low.is_set, bit_at_above (later (get_or ws q 0) p) 64 t left l)) ] in
      let on : p ≤ t = elim (cases_lt t p) [ inl l ↦ absurd (omega (arith, low.is_set, later_out (get_or ws q 0) p t l)) | inr l ↦ l ] in
      let word : (64 * q + t) / 64 ≡ q = omega arith in
      let at : (64 * q + t) % 64 ≡ t = omega arith in
      let f = tells.filled (64 * q + t) (
      ap (λ (w : ℕ). bit_at (get_or ws w 0) ((64 * q + t) % 64)) word ∙ ap (bit_at (get_or ws q 0)) at
      ∙ sym (later_in (get_or ws q 0) p t on few) ∙ low.is_set
      ) in
      record { behind = omega arith; there = f.0; filled = f.1; before = none_below t low.none_below (omega arith) }

-- ---- no voice begins a note yet

pub zero_at : (n k : ℕ) → get_or {A = ℕ} (replicate n 0) k 0 ≡ 0
zero_at n k = elim (cases_lt k n) [
  | inl l ↦ get_or-replicate {A = ℕ} n k 0 0 l
  | inr l ↦ get_or_past (replicate {A = ℕ} n 0) k 0 (omega (arith, l, length-replicate {A = ℕ} n 0))
]

pub tells_none : {ms : List ℕ} (n m : ℕ) → ((k : ℕ) → get_or ms k 0 ≡ 0) → Tells n (replicate m 0) ms
tells_none n m none = record {
  empty = λ k _. none k;
  filled = λ k o. absurd (omega (arith, o, ap (λ (w : ℕ). bit_at w (k % 64)) (zero_at m (k / 64)), bit_at-zero (k % 64)));
}
