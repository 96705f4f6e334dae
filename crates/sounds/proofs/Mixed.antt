-- What is heard together is the voices' rows, mixed; and which note of the rows comes next. Assumes nothing.
use Rattle.std.proofs.Common.{◌≡◌, ℕ, zero, suc, ◌+◌, ◌-◌, ◌<◌, ◌≤◌, leb, [], ◌∷◌, length, get_or, sym, refl, ap, ◌∙◌, inl, inr, append-nil, arith}
use Rattle.std.proofs.lemmas.Bool.{cases_eq, le-leb, lt-leb}
use Rattle.score.specs.Music.{Heard, heard}
use Rattle.score.specs.Calls.{Score, voice, begins, merged, together}
use Rattle.score.proofs.Picks.{pick_true, pick_false, pick_both}
use Rattle.sounds.specs.Spans.{Row, mixed}

-- a row that has no note first that begins before tick t
unfoldable pub From : ℕ → Row → Type 0
From t [] = Unit {0}
From t (x ∷ xs) = t ≤ x.1.start

pub merged_nil : (n : ℕ) (xs : Row) → merged n xs [] ≡ xs
unfolding merged
merged_nil zero xs = append-nil xs
merged_nil (suc n) [] = refl
merged_nil (suc n) (x ∷ xs) = refl

nil_merged : (n : ℕ) (ys : Row) → merged n [] ys ≡ ys
unfolding merged
nil_merged zero ys = refl
nil_merged (suc n) ys = refl

merged_first : (x : ℕ × Heard) (xs ys : Row) → From x.1.start ys → merged (suc (length xs + length ys)) (x ∷ xs) ys ≡ x ∷ merged (length xs + length ys) xs ys
unfolding merged From
merged_first x xs [] h = ap (λ (r : Row). x ∷ r) (sym (merged_nil _ xs))
merged_first x xs (y ∷ ys) h = pick_true (leb x.1.start y.1.start) _ _ (le-leb _ _ h)

merged_second : (x : ℕ × Heard) (xs ys : Row) → From (suc x.1.start) xs → merged (suc (length xs + length ys)) xs (x ∷ ys) ≡ x ∷ merged (length xs + length ys) xs ys
unfolding merged From
merged_second x [] ys h = ap (λ (r : Row). x ∷ r) (sym (nil_merged _ ys))
merged_second x (z ∷ xs) ys h = pick_false (leb z.1.start x.1.start) _ _ (lt-leb _ _ h)

from_merged : (t n : ℕ) (xs ys : Row) → From t xs → From t ys → From t (merged n xs ys)
unfolding merged From
from_merged t zero [] ys p q = q
from_merged t zero (x ∷ xs) ys p q = p
from_merged t (suc n) [] ys p q = q
from_merged t (suc n) (x ∷ xs) [] p q = p
from_merged t (suc n) (x ∷ xs) (y ∷ ys) p q = pick_both (From t) (leb x.1.start y.1.start) _ _ (λ _. p) (λ _. q)

from_mixed : (t : ℕ) (f : ℕ → Row) (n w : ℕ) → ((u : ℕ) → w ≤ u → From t (f u)) → From t (mixed f n w)
unfolding mixed From
from_mixed t f zero w h = tt
from_mixed t f (suc n) w h = from_merged t _ (f w) (mixed f n (suc w)) (h w (omega arith)) (from_mixed t f n (suc w) (λ u l. h u (omega arith)))

-- rows that are the same from the first on
pub mixed_same : (f g : ℕ → Row) (n w : ℕ) → ((u : ℕ) → w ≤ u → f u ≡ g u) → mixed f n w ≡ mixed g n w
unfolding mixed
mixed_same f g zero w h = refl
mixed_same f g (suc n) w h =
    let e = h w (omega arith) in
    let r = mixed_same f g n (suc w) (λ u l. h u (omega arith)) in
    ap (λ (x : Row). merged (length x + length (mixed f n (suc w))) x (mixed f n (suc w))) e
    ∙ ap (λ (y : Row). merged (length (g w) + length y) (g w) y) r

-- rows without a note
pub mixed_none : (f : ℕ → Row) (n w : ℕ) → ((u : ℕ) → f u ≡ []) → mixed f n w ≡ []
unfolding mixed
mixed_none f zero w h = refl
mixed_none f (suc n) w h = ap (λ (x : Row). merged (length x + length (mixed f n (suc w))) x (mixed f n (suc w))) (h w) ∙ nil_merged _ _ ∙ mixed_none f n (suc w) h

-- the note x comes next, from row v, if it begins before those of earlier rows and not after those of later ones
module _ (f g : ℕ → Row) (v : ℕ) (x : ℕ × Heard) (xs : Row) (here : f v ≡ x ∷ xs) (gone : g v ≡ xs) (same : (u : ℕ) → (u ≡ v → ⊥) → f u ≡ g u)
    (before : (u : ℕ) → u < v → From (suc x.1.start) (f u)) (behind : (u : ℕ) → v < u → From x.1.start (f u)) where
  pub mixed_next : (n w : ℕ) → w ≤ v → v < w + n → mixed f n w ≡ x ∷ mixed g n w
  unfolding mixed
  mixed_next zero w l m = absurd (omega arith)
  mixed_next (suc n) w l m =
      elim (cases_eq w v) [
        | inl e ↦
            let fw : f w ≡ x ∷ xs = ap f e ∙ here in
            let gw : g w ≡ xs = ap g e ∙ gone in
            let rest : mixed f n (suc w) ≡ mixed g n (suc w) = mixed_same f g n (suc w) (λ u k. same u (λ i. omega arith)) in
            let late : From x.1.start (mixed f n (suc w)) = from_mixed _ f n (suc w) (λ u k. behind u (omega arith)) in
            ap (λ (r : Row). merged (length r + length (mixed f n (suc w))) r (mixed f n (suc w))) fw
            ∙ ap (λ (k : ℕ). merged k (x ∷ xs) (mixed f n (suc w))) (omega arith)
            ∙ merged_first x xs (mixed f n (suc w)) late
            ∙ ap (λ (r : Row). x ∷ merged (length xs + length r) xs r) rest
            ∙ ap (λ (r : Row). x ∷ merged (length r + length (mixed g n (suc w))) r (mixed g n (suc w))) (sym gw)
        | inr ne ↦
            let rest : mixed f n (suc w) ≡ x ∷ mixed g n (suc w) = mixed_next n (suc w) (omega arith) (omega arith) in
            ap (λ (r : Row). merged (length (f w) + length r) (f w) r) rest
            ∙ ap (λ (k : ℕ). merged k (f w) (x ∷ mixed g n (suc w))) (omega arith)
            ∙ merged_second x (f w) (mixed g n (suc w)) (before w (omega arith))
            ∙ ap (λ (r : Row). x ∷ merged (length r + length (mixed g n (suc w))) r (mixed g n (suc w))) (same w ne)
      ]

-- what is heard together, as the mixed rows of the voices
together_from : (s : Score) (w a b : ℕ) → together s w a b ≡ mixed (λ u. begins u a b (heard (voice s (u - w)) 0)) (length s) w
unfolding together mixed
together_from [] w a b = refl
together_from (e ∷ es) w a b =
    let f : ℕ → Row = λ u. begins u a b (heard (voice (e ∷ es) (u - w)) 0) in
    let rest : together es (suc w) a b ≡ mixed f (length es) (suc w) =
    together_from es (suc w) a b
    ∙ mixed_same _ f (length es) (suc w) (λ u l. ap (λ (k : ℕ). begins u a b (heard (get_or (e ∷ es) k []) 0)) (sub_suc u w l)) in
    ap (λ (r : Row). merged (length (begins w a b (heard e 0)) + length r) (begins w a b (heard e 0)) r) rest
    ∙ ap (λ (k : ℕ). let mine : Row = begins w a b (heard (get_or (e ∷ es) k []) 0) in merged (length mine + length (mixed f (length es) (suc w))) mine (mixed f (length es) (suc w))) (self_sub w)
  where
    sub_suc : (u w : ℕ) → suc w ≤ u → suc (u - suc w) ≡ u - w
    sub_suc u w l = omega arith

    self_sub : (w : ℕ) → 0 ≡ w - w
    self_sub w = omega arith

pub together_mixed : (s : Score) (a b : ℕ) → together s 0 a b ≡ mixed (λ u. begins u a b (heard (voice s u) 0)) (length s) 0
together_mixed s a b = together_from s 0 a b ∙ mixed_same _ _ (length s) 0 (λ u l. ap (λ (k : ℕ). begins u a b (heard (voice s k) 0)) (omega arith))
