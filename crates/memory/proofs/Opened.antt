-- Words that hold a score of empty voices: zeros behind a header. Assumes nothing.
use Rattle.std.proofs.Common.{◌≡◌, ℕ, zero, suc, ◌+◌, ◌-◌, ◌*◌, List, [], ◌∷◌, ◌++◌, set, replicate, sym, refl, ap, ◌∙◌, arith}
use Rattle.std.proofs.lemmas.List.{replicate-append-replicate}
use Rattle.score.specs.Music.{Event, total}
use Rattle.score.specs.Calls.{Limits, Layout, empty_voices}
use Rattle.score.specs.Promise.{GoodLimits, GoodLayout}
use Rattle.laws.specs.Onsets.{onsets, onsets_of}
use Rattle.memory.specs.Store.{marks_asked, words_asked, spread, all_onsets, counts, ticks, padded, laid, onset_rows, no_marks, stored}
use Rattle.memory.specs.Words.{Holds}
use Rattle.memory.proofs.Run.{kept_empty}
use Rattle.memory.proofs.Held.{holds_stored}

counts_empty : (n : ℕ) → counts (empty_voices n) ≡ replicate n 0
unfolding empty_voices
counts_empty zero = refl
counts_empty (suc n) = ap (λ xs. 0 ∷ xs) (counts_empty n)

ticks_empty : (n : ℕ) → ticks (empty_voices n) ≡ replicate n 0
unfolding empty_voices total
ticks_empty zero = refl
ticks_empty (suc n) = ap (λ xs. 0 ∷ xs) (ticks_empty n)

spread_empty : {X : Type 0} (f : List Event → List X) → f [] ≡ [] → (n : ℕ) → spread f (empty_voices n) ≡ []
unfolding empty_voices spread
spread_empty f e zero = refl
spread_empty f e (suc n) = ap (λ xs. xs ++ spread f (empty_voices n)) e ∙ spread_empty f e n

padded_empty : (n : ℕ) → padded n [] ≡ replicate n 0
unfolding padded
padded_empty n = let z : n - 0 ≡ n = omega arith in ap (λ k. replicate k 0) z

joined : (j k : ℕ) → replicate {A = ℕ} j 0 ++ replicate k 0 ≡ replicate (j + k) 0
joined j k = replicate-append-replicate j k 0

-- regions of zeros, k of them, and m more zeros
unfoldable zeros : ℕ → ℕ → ℕ → List ℕ
zeros zero n m = replicate m 0
zeros (suc k) n m = replicate n 0 ++ zeros k n m

zeros_are : (k n m : ℕ) → zeros k n m ≡ replicate (k * n + m) 0
unfolding zeros
zeros_are zero n m = let z : m ≡ 0 * n + m = omega arith in ap (λ j. replicate j 0) z
zeros_are (suc k) n m =
    let z : n + (k * n + m) ≡ suc k * n + m = omega arith in
    ap (λ xs. replicate n 0 ++ xs) (zeros_are k n m) ∙ (joined n (k * n + m) ∙ ap (λ j. replicate j 0) z)

rows_empty : (y : Layout) (v n : ℕ) → laid n (empty_voices v) (onset_rows n (all_onsets y (empty_voices v)) (no_marks n)) ≡ replicate v 0 ++ (replicate v 0 ++ zeros 6 n (marks_asked n))
unfolding zeros onsets
rows_empty y v n =
    rw (counts_empty v, ticks_empty v, spread_empty (λ v. v) refl v, spread_empty (onsets_of y.in_key y.bar_long) refl v, padded_empty n)

laid_empty : (y : Layout) (v n : ℕ) → laid n (empty_voices v) (onset_rows n (all_onsets y (empty_voices v)) (no_marks n)) ≡ replicate (v + (v + (6 * n + marks_asked n))) 0
laid_empty y v n =
    let z : ℕ = 6 * n + marks_asked n in
    rows_empty y v n
    ∙ (ap (λ xs. replicate v 0 ++ (replicate v 0 ++ xs)) (zeros_are 6 n (marks_asked n)) ∙ (ap (λ xs. replicate v 0 ++ xs) (joined v z) ∙ joined v (v + z)))

pub opened_is : (l : Limits) (y : Layout) (m : ℕ) → m ≡ words_asked l.voices l.events →
    set (set (set (set (replicate m 0) 0 y.in_key) 1 y.bar_long) 2 l.voices) 3 l.events ≡ stored l y (empty_voices l.voices)
unfolding stored
opened_is l y m e =
    let v : ℕ = l.voices in
    let n : ℕ = l.events in
    let z : m ≡ suc (suc (suc (suc (v + (v + (6 * n + marks_asked n)))))) = omega arith in
    ap (λ q. set (set (set (set (replicate q 0) 0 y.in_key) 1 y.bar_long) 2 v) 3 n) z
    ∙ ap (λ xs. y.in_key ∷ (y.bar_long ∷ (v ∷ (n ∷ xs)))) (sym (laid_empty y v n))

pub holds_opened : (l : Limits) (y : Layout) → GoodLimits l → GoodLayout y → Holds (stored l y (empty_voices l.voices))
holds_opened l y gl gy = holds_stored l y (empty_voices l.voices) gl gy (kept_empty l)
