-- Answers whose numbers fit their fields. Assumes nothing: these are definitions.
use Rattle.std.specs.Prelude.{ℕ, Bool, true, ◌&&◌, List, [], ◌∷◌, length, nat_lt}
use Rattle.score.specs.Music.{length_end, Heard}
use Rattle.score.specs.Print.{Symbol, bar, head, rest}
use Rattle.score.specs.Calls.{Answer, done, refused, symbols, sounds, number}
use Rattle.score.specs.Promise.{field}

abbrev pub symbol_fits : Symbol → Bool
symbol_fits bar = true
symbol_fits (head p s v tied) = nat_lt p 256 && (nat_lt s 256 && nat_lt v length_end)
symbol_fits (rest v) = nat_lt v length_end

abbrev pub sound_fits : ℕ × Heard → Bool
sound_fits x = nat_lt x.0 256 && (nat_lt x.1.high 256 && (field x.1.start && nat_lt x.1.long length_end))

-- each of a row
unfoldable pub all_fit : {A : Type 0} → (A → Bool) → List A → Bool
all_fit f [] = true
all_fit f (x ∷ xs) = f x && all_fit f xs

unfoldable pub answer_fits : Answer → Bool
answer_fits done = true
answer_fits (refused n p) = nat_lt n 256 && field p
answer_fits (symbols xs) = field (length xs) && all_fit symbol_fits xs
answer_fits (sounds xs) = field (length xs) && all_fit sound_fits xs
answer_fits (number n) = field n
