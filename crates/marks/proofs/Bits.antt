-- A range of events in words: its first event is marked, and without that mark it is the range from the next event on. Assumes nothing.
use Rattle.std.proofs.Common.{◌≡◌, ℕ, suc, ◌+◌, ◌-◌, ◌*◌, ◌/◌, ◌%◌, ◌^◌, ◌<◌, ◌≤◌, min, eqb, ltb, List, ◌++◌, length, get_or, take, drop, set, replicate, length-take, length-drop, sym, ap, ◌∙◌, inl, inr, one-mul, pow-suc, arith, pow_pos, pow_mono}
use borrow.Rule.Slice.PartMut.{put_mid, same_len_mid}
use lib.Bits.{bit_and, bit_xor, and_high, xor_add_and}
use lib.Pow.{high_ones}
use Rattle.std.proofs.lemmas.Nat.{shl-shr}
use Rattle.std.proofs.lemmas.List.FromFn.{length-map-range_with_len, get_or-map-range_with_len, fill_by_all}
use Rattle.std.proofs.lemmas.List.{get_or-set_same, get_or-set_other, get_or-replicate, get_or_append_left, get_or-take, get_or-drop, length-set, length-replicate}
use Rattle.std.proofs.Math.Seq.{get_or-append_right}
use Rattle.std.proofs.lemmas.Bool.{cases_eq, cases_lt, lt-ltb, le-ltb}
use Rattle.marks.specs.Marked.{bit, has, low, mark_word, marked}

-- a bit that is set is cleared
pub cleared : (w k : ℕ) → bit w k ≡ 1 → bit_xor w (2 ^ k) ≡ w - 2 ^ k
cleared w k e =
    let one : 2 ^ (1 + k) - 2 ^ k ≡ 2 ^ k = high_ones 1 k ∙ one-mul (2 ^ k) in
    let both : bit_and w (2 ^ k) ≡ 2 ^ k = ap (bit_and w) (sym one) ∙ and_high w 1 k ∙ ap (λ (b : ℕ). b * 2 ^ k) e ∙ one-mul (2 ^ k) in
    omega (arith, both, xor_add_and w (2 ^ k))

-- ---- word by word

pub length_marked : (a c m : ℕ) → length (marked a c m) ≡ m
unfolding marked
length_marked a c m = length-map-range_with_len (mark_word a c) 0 m

pub word_marked : (a c m q : ℕ) → q < m → get_or (marked a c m) q 0 ≡ mark_word a c q
unfolding marked
word_marked a c m q h = get_or-map-range_with_len (mark_word a c) 0 m q q 0 h (omega arith)

all_marked : (a c m : ℕ) (ws : List ℕ) → length ws ≡ m → ((q : ℕ) → q < m → get_or ws q 0 ≡ mark_word a c q) → ws ≡ marked a c m
unfolding marked
all_marked a c m ws long h = fill_by_all (mark_word a c) ws m 0 long h

-- one word is another, and the others are the same in both ranges
word_set :
    (a c b d m w n : ℕ) → w < m → n ≡ mark_word b d w → ((q : ℕ) → (q ≡ w → ⊥) → mark_word a c q ≡ mark_word b d q) → set (marked a c m) w n ≡ marked b d m
word_set a c b d m w n h e same =
    all_marked b d m (set (marked a c m) w n) (length-set (marked a c m) w n ∙ length_marked a c m) (λ q l. elim (cases_eq q w) [
      | inl here ↦ ap (λ (i : ℕ). get_or (set (marked a c m) w n) i 0) here ∙ get_or-set_same (marked a c m) w n 0 (omega (arith, length_marked a c m)) ∙ e ∙ ap (mark_word b d) (sym here)
      | inr ne ↦ get_or-set_other (marked a c m) w q n 0 ne ∙ word_marked a c m q l ∙ same q ne
    ])

-- ---- a range is marked

-- of a range that ends before it begins nothing is marked
pub marked_empty : (a c m : ℕ) → c ≤ a → marked a c m ≡ replicate m 0
marked_empty a c m h =
    sym (all_marked a c m (replicate m 0) (length-replicate {A = ℕ} m 0) (λ q l.
    let le : 2 ^ low c q ≤ 2 ^ low a q = pow_mono (omega arith) in get_or-replicate {A = ℕ} m q 0 0 l ∙ omega arith))

pub marked_none : (a m : ℕ) → marked a a m ≡ replicate m 0
marked_none a m = marked_empty a a m (omega arith)

-- the words from the first event's up to the end's have their bits, and the others none
pub marked_part :
    (a c m k : ℕ) (ws ys : List ℕ) → ws ≡ replicate m 0 → a ≤ c → c / 32 < m → k ≡ c / 32 + 1 - a / 32 → length ys ≡ k
    → ((q : ℕ) → q < k → get_or ys q 0 ≡ mark_word a c (a / 32 + q)) → put_mid (a / 32) k ws ys ≡ marked a c m
marked_part a c m k ws ys none le l count long h =
    let wide : length ws ≡ m = ap length none ∙ length-replicate {A = ℕ} m 0 in
    let n : ℕ = a / 32 in
    let front : length (take n ws) ≡ n = omega (arith, length-take n ws) in
    let zero_at = λ (q : ℕ) (b : q < m). ap (λ (l : List ℕ). get_or l q 0) none ∙ get_or-replicate {A = ℕ} m q 0 0 b in
    all_marked a c m (put_mid n k ws ys) (same_len_mid n k ws ys (omega (arith, length-take {A = ℕ} k (drop n ws), length-drop {A = ℕ} n ws)) ∙ wide) (λ q b. elim (cases_lt q n) [
      | inl before ↦
          let same : low c q ≡ low a q = omega arith in
          let nothing : 0 ≡ mark_word a c q = omega (arith, ap (λ (i : ℕ). 2 ^ i) same) in
          get_or_append_left (take n ws) (ys ++ drop k (drop n ws)) 0 q (omega arith) ∙ get_or-take n ws q 0 before ∙ zero_at q b ∙ nothing
      | inr from ↦
          let here : q - length (take n ws) ≡ q - n = omega arith in
          get_or-append_right (take n ws) (ys ++ drop k (drop n ws)) q 0 (omega arith)
          ∙ ap (λ (i : ℕ). get_or (ys ++ drop k (drop n ws)) i 0) here
          ∙ elim (cases_lt (q - n) k) [
            | inl within ↦
                let there : n + (q - n) ≡ q = omega arith in
                get_or_append_left ys (drop k (drop n ws)) 0 (q - n) (omega arith) ∙ h (q - n) within ∙ ap (mark_word a c) there
            | inr behind ↦
                let over : n + (k + (q - n - length ys)) ≡ q = omega arith in
                let same : low c q ≡ low a q = omega arith in
                let nothing : 0 ≡ mark_word a c q = omega (arith, ap (λ (i : ℕ). 2 ^ i) same) in
                get_or-append_right ys (drop k (drop n ws)) (q - n) 0 (omega arith)
                ∙ get_or-drop k (drop n ws) (q - n - length ys) 0
                ∙ get_or-drop n ws (k + (q - n - length ys)) 0
                ∙ ap (λ (i : ℕ). get_or ws i 0) over
                ∙ zero_at q b
                ∙ nothing
          ]
    ])

-- the part of a range that lies before a word gets longer by that word
pub marked_more : (a c m w n : ℕ) → w < m → n ≡ mark_word a c w → set (marked a (min c (32 * w)) m) w n ≡ marked a (min c (32 * (w + 1))) m
marked_more a c m w n h e =
    let here : low c w ≡ low (min c (32 * (w + 1))) w = omega arith in
    word_set a (min c (32 * w)) a (min c (32 * (w + 1))) m w n h (e ∙ ap (λ (i : ℕ). 2 ^ i - 2 ^ low a w) here) (λ q ne.
    let there : low (min c (32 * w)) q ≡ low (min c (32 * (w + 1))) q = elim (cases_lt q w) [ inl l ↦ omega arith | inr l ↦ omega arith ] in
    ap (λ (i : ℕ). 2 ^ i - 2 ^ low a q) there)

-- ---- its events are taken from the front

odd : (k : ℕ) → 0 < k → (2 ^ k - 1) % 2 ≡ 1
odd k h =
    let e : 2 ^ k ≡ 2 ^ (k - 1) * 2 = ap (λ (i : ℕ). 2 ^ i) (omega arith) ∙ pow-suc 2 (k - 1) in
    omega (arith, e, pow_pos (k - 1))

-- the lowest bit of the bits from x up to before x + k
lowest : (k x : ℕ) → bit (2 ^ (k + x) - 2 ^ x) x ≡ (2 ^ k - 1) % 2
lowest k x = ap (λ (n : ℕ). n / 2 ^ x % 2) (high_ones k x) ∙ ap (λ (n : ℕ). n % 2) (shl-shr (2 ^ k - 1) x)

pub marked_first : (a c m : ℕ) → a ≤ c → a / 32 < m → has (marked a c m) a ≡ ltb a c
marked_first a c m h l =
    let k : ℕ = low c (a / 32) - a % 32 in
    let to : low c (a / 32) ≡ k + a % 32 = omega arith in
    let from : low a (a / 32) ≡ a % 32 = omega arith in
    let first : bit (get_or (marked a c m) (a / 32) 0) (a % 32) ≡ (2 ^ k - 1) % 2 =
    ap (λ (n : ℕ). bit n (a % 32)) (word_marked a c m (a / 32) l ∙ ap (λ (i : ℕ). 2 ^ i - 2 ^ low a (a / 32)) to ∙ ap (λ (i : ℕ). 2 ^ (k + a % 32) - 2 ^ i) from)
    ∙ lowest k (a % 32) in
    ap (λ (n : ℕ). eqb n 1) first
    ∙ elim (cases_lt a c) [
      | inl lt ↦ ap (λ (n : ℕ). eqb n 1) (odd k (omega arith)) ∙ sym (lt-ltb a c lt)
      | inr le ↦ let none : k ≡ 0 = omega arith in ap (λ (i : ℕ). eqb ((2 ^ i - 1) % 2) 1) none ∙ sym (le-ltb a c le)
    ]

pub unmarked_first : (a c m : ℕ) → a < c → a / 32 < m → set (marked a c m) (a / 32) (get_or (marked a c m) (a / 32) 0 - 2 ^ (a % 32)) ≡ marked (suc a) c m
unmarked_first a c m h l =
    let from : 2 ^ low a (a / 32) ≡ 2 ^ (a % 32) = ap (λ (i : ℕ). 2 ^ i) (omega arith) in
    let next : 2 ^ low (suc a) (a / 32) ≡ 2 ^ (a % 32) * 2 = ap (λ (i : ℕ). 2 ^ i) (omega arith) ∙ pow-suc 2 (a % 32) in
    word_set a c (suc a) c m (a / 32) _ l (omega (arith, word_marked a c m (a / 32) l, from, next)) (λ q ne.
    let same : low a q ≡ low (suc a) q = elim (cases_lt q (a / 32)) [ inl lt ↦ omega arith | inr le ↦ omega arith ] in
    ap (λ (i : ℕ). 2 ^ low c q - 2 ^ i) same)
