-- How many symbols so many bars have at most. Assumes nothing.
use Rattle.std.proofs.Common.{◌≡◌, ℕ, zero, suc, ◌+◌, ◌*◌, ◌/◌, ◌%◌, ◌<◌, ◌≤◌, true, List, [], ◌∷◌, length, refl, ap, mul-le-mul_right, arith}
use Rattle.score.specs.Music.{Event, all_fine}
use Rattle.score.specs.Print.{Symbol, bar, head, rest, key, printed, from_bar, so_many}
use Rattle.laws.specs.Laying.{LiesWell}
use Rattle.laws.proofs.Pieces.{value_good}
use Rattle.laws.proofs.Bars.{marks, lies_print}
use Rattle.laws.proofs.Owing.{so_many_none}

-- no value is shorter than 3, so a bar has at most a third of its ticks of them, and its line
few_symbols : (b t w : ℕ) (xs : List Symbol) (n : ℕ) → w ≡ b / 3 + 1 → LiesWell b t (marks xs) → length (so_many xs (suc n)) + t / 3 ≤ suc n * w
unfolding LiesWell marks so_many
few_symbols b t w [] n e f = omega arith
few_symbols b t w (bar ∷ xs) zero e f = let z : length (so_many xs 0) ≡ 0 = ap length (so_many_none xs) in omega (arith, f.0)
few_symbols b t w (bar ∷ xs) (suc n) e f = let ih = few_symbols b 0 w xs n e f.1 in omega (arith, f.0)
few_symbols b t w (head p s v i ∷ xs) n e f = let g = value_good v f.1 in let ih = few_symbols b (t + v) w xs n e f.2 in omega arith
few_symbols b t w (rest v ∷ xs) n e f = let g = value_good v f.1 in let ih = few_symbols b (t + v) w xs n e f.2 in omega arith

-- and that is so from any bar on
lies_from : (b t : ℕ) (xs : List Symbol) (n : ℕ) → 0 < b → LiesWell b t (marks xs) → LiesWell b 0 (marks (from_bar (suc n) xs))
unfolding LiesWell marks from_bar
lies_from b t [] n h f = h
lies_from b t (bar ∷ xs) zero h f = f.1
lies_from b t (bar ∷ xs) (suc n) h f = lies_from b 0 xs n h f.1
lies_from b t (head p s v i ∷ xs) n h f = lies_from b (t + v) xs n h f.2
lies_from b t (rest v ∷ xs) n h f = lies_from b (t + v) xs n h f.2

pub lies_shown : (k b from : ℕ) (es : List Event) → 0 < b → b % 3 ≡ 0 → all_fine es ≡ true → LiesWell b 0 (marks (from_bar from (printed k b es)))
unfolding from_bar
lies_shown k b zero es h b3 f = lies_print k b 0 (key k) es h b3 refl f
lies_shown k b (suc n) es h b3 f = lies_from b 0 (printed k b es) n h (lies_print k b 0 (key k) es h b3 refl f)

pub symbols_fit : (k b : ℕ) (es : List Event) (from n : ℕ) → 0 < b → b % 3 ≡ 0 → all_fine es ≡ true → length (so_many (from_bar from (printed k b es)) n) ≤ n * (b / 3 + 1)
symbols_fit k b es from zero h b3 f = let z : length (so_many (from_bar from (printed k b es)) 0) ≡ 0 = ap length (so_many_none (from_bar from (printed k b es))) in omega arith
symbols_fit k b es from (suc n) h b3 f = let l = few_symbols b 0 (b / 3 + 1) (from_bar from (printed k b es)) n refl (lies_shown k b from es h b3 f) in omega arith

-- 16 bars of up to four whole notes
pub page_fits : (k b : ℕ) (es : List Event) (from n : ℕ) → 0 < b → b % 3 ≡ 0 → all_fine es ≡ true → b ≤ 768 → n ≤ 16 → length (so_many (from_bar from (printed k b es)) n) ≤ 4112
page_fits k b es from n h b3 f l m =
    let a = symbols_fit k b es from n h b3 f in
    let c : n * (b / 3 + 1) ≤ 16 * (b / 3 + 1) = mul-le-mul_right (b / 3 + 1) m in
    omega arith
