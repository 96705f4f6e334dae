-- The laws of what rows are made of: each symbol takes five bytes, and symbols and sounds come back from their bytes. Shown here, since what is an item
-- must name the laws that it keeps. Assumes nothing.
use Rattle.std.specs.Prelude.{◌≡◌, ℕ, ◌+◌, ◌*◌, ◌/◌, ◌%◌, true, false, length, Some, Option, refl}
use Rattle.std.proofs.Common.{sym, ap, ◌∙◌}
use Rattle.std.proofs.Math.Nat.{mod-add-div, div-div-eq-div-mul, add-mul, mul_assoc, mul_comm, add_assoc}
use Rattle.score.specs.Music.{Heard}
use Rattle.score.specs.Print.{Symbol, bar, head, rest}
use Rattle.wire.specs.Bytes.{symbol_bytes}
use Rattle.wire.specs.Reading.{of_two, of_four}
use Rattle.wire.specs.Faithful.{SymbolsBack, SoundsBack}

pub length_symbol : (x : Symbol) → length (symbol_bytes x) ≡ 5
length_symbol bar = refl
length_symbol (head p s v tied) = refl
length_symbol (rest v) = refl

-- a number from its own bytes
pub of_two_two : (n : ℕ) → of_two (n % 256) (n / 256) ≡ n
of_two_two n = ap (λ m. n % 256 + m) (mul_comm (n / 256) 256) ∙ mod-add-div n 256

-- of a number's digits from one on, the first and what is above it
digit : (n w : ℕ) → n / w % 256 * w + n / (w * 256) * (256 * w) ≡ n / w * w
digit n w =
    ap (λ q. n / w % 256 * w + q * (256 * w)) (sym (div-div-eq-div-mul n w 256))
    ∙ ap (λ m. n / w % 256 * w + m) (sym (mul_assoc (n / w / 256) 256 w))
    ∙ sym (add-mul (n / w % 256) (n / w / 256 * 256) w)
    ∙ ap (λ m. m * w) (of_two_two (n / w))

pub of_four_four : (n : ℕ) → of_four (n % 256) (n / 256 % 256) (n / 65536 % 256) (n / 16777216) ≡ n
of_four_four n =
    let a : ℕ = n % 256 in
    let b : ℕ = n / 256 % 256 * 256 in
    let c : ℕ = n / 65536 % 256 * 65536 in
    let d : ℕ = n / 16777216 * 16777216 in
    add_assoc (a + b) c d
    ∙ ap (λ m. a + b + m) (digit n 65536)
    ∙ add_assoc a b (n / 65536 * 65536)
    ∙ ap (λ m. a + m) (digit n 256)
    ∙ of_two_two n

pub symbols_back : SymbolsBack
symbols_back bar bs = refl
symbols_back (head p s v true) bs = ap (λ n. Some (head p s n true)) (of_two_two v)
symbols_back (head p s v false) bs = ap (λ n. Some (head p s n false)) (of_two_two v)
symbols_back (rest v) bs = ap (λ n. Some (rest n)) (of_two_two v)

sound : ℕ → ℕ → ℕ → ℕ → Option (ℕ × Heard)
sound v t a d = Some (v, record { start = a; long = d; high = t })

pub sounds_back : SoundsBack
unfolding sound
sounds_back x bs =
    ap (λ n. sound x.0 x.1.high n (of_two (x.1.long % 256) (x.1.long / 256))) (of_four_four x.1.start)
    ∙ ap (λ n. sound x.0 x.1.high x.1.start n) (of_two_two x.1.long)
