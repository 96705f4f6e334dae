-- What slots say of each voice: when it begins a note. Assumes nothing.
use Rattle.std.proofs.Common.{◌≡◌, ℕ, zero, suc, ◌+◌, ◌-◌, ◌*◌, ◌/◌, ◌%◌, ◌^◌, ◌<◌, ◌≤◌, Bool, true, false, eqb, List, [], ◌∷◌, ◌++◌, length, get_or, set, sym, refl, ap, ◌∙◌, subst, append_assoc, append-nil, arith}
use lib.Bits.{bit_or}
use Rattle.std.proofs.lemmas.List.{get_or-set_other, length-set}
use Rattle.std.proofs.lemmas.Bool.{eq-eqb, ne_eqb}
use Rattle.score.specs.Music.{pick}
use Rattle.score.proofs.Picks.{pick_true, pick_false}
use Rattle.std.specs.Int.{bit_at}
use Rattle.sounds.specs.Spans.{grain, begun, marks}
use Rattle.sounds.proofs.Bits.{put_same, put_other}

-- ticks that rise from t on up to before e, each the tick of a slot
unfoldable pub Rising : ℕ → ℕ → List ℕ → Type 0
Rising t e [] = Unit {0}
Rising t e (x ∷ xs) = (t ≤ x) × (x < e) × (x % grain ≡ 0) × Rising (x + grain) e xs

-- no slot from number k on has a bit of voice u
abbrev pub Free : ℕ → ℕ → List ℕ → Type 0
Free u k ms = (j : ℕ) → k ≤ j → bit_at (get_or ms j 0) u ≡ 0

pub begun_none : (u t : ℕ) (ms : List ℕ) → Free u 0 ms → begun u t ms ≡ []
unfolding begun
begun_none u t [] h = refl
begun_none u t (m ∷ ms) h =
    let z : bit_at m u ≡ 0 = h 0 (omega arith) in
    pick_false (eqb (bit_at m u) 1) _ _ (ne_eqb _ _ (λ e. omega arith)) ∙ begun_none u (t + grain) ms (λ j l. h (suc j) (omega arith))

-- a word of which voice u's bit stays
begun_other : (u t k w : ℕ) (ms : List ℕ) → bit_at w u ≡ bit_at (get_or ms k 0) u → begun u t (set ms k w) ≡ begun u t ms
unfolding begun
begun_other u t k w [] h = refl
begun_other u t zero w (m ∷ ms) h = ap (λ (n : ℕ). pick (eqb n 1) (t ∷ begun u (t + grain) ms) (begun u (t + grain) ms)) h
begun_other u t (suc k) w (m ∷ ms) h = ap (λ (r : List ℕ). pick (eqb (bit_at m u) 1) (t ∷ r) r) (begun_other u (t + grain) k w ms h)

-- voice u's bit is set behind all others of it
begun_set : (u t k w : ℕ) (ms : List ℕ) → k < length ms → Free u k ms → bit_at w u ≡ 1 → begun u t (set ms k w) ≡ begun u t ms ++ ((t + grain * k) ∷ [])
unfolding begun
begun_set u t k w [] l h e = absurd (omega arith)
begun_set u t zero w (m ∷ ms) l h e =
    let none : begun u (t + grain) ms ≡ [] = begun_none u (t + grain) ms (λ j q. h (suc j) (omega arith)) in
    let z : bit_at m u ≡ 0 = h 0 (omega arith) in
    let here : t ≡ t + grain * 0 = omega arith in
    let one : List ℕ → List ℕ = λ r. t ∷ r in
    let alone : ℕ → List ℕ = λ n. n ∷ [] in
    pick_true (eqb (bit_at w u) 1) _ _ (eq-eqb _ _ e) ∙ ap one none ∙ ap alone here
    ∙ ap (λ (r : List ℕ). r ++ ((t + grain * 0) ∷ [])) (sym (pick_false (eqb (bit_at m u) 1) (t ∷ begun u (t + grain) ms) (begun u (t + grain) ms) (ne_eqb _ _ (λ o. omega arith)) ∙ none))
begun_set u t (suc k) w (m ∷ ms) l h e =
    let ih = begun_set u (t + grain) k w ms (omega arith) (λ j q. h (suc j) (omega arith)) e in
    let there : t + grain + grain * k ≡ t + grain * suc k = omega arith in
    let more : begun u (t + grain) (set ms k w) ≡ begun u (t + grain) ms ++ ((t + grain * suc k) ∷ []) = ih ∙ ap (λ (n : ℕ). begun u (t + grain) ms ++ (n ∷ [])) there in
    ap (λ (r : List ℕ). pick (eqb (bit_at m u) 1) (t ∷ r) r) more ∙ go (eqb (bit_at m u) 1)
  where
    go : (b : Bool) → pick b (t ∷ (begun u (t + grain) ms ++ ((t + grain * suc k) ∷ []))) (begun u (t + grain) ms ++ ((t + grain * suc k) ∷ [])) ≡ pick b (t ∷ begun u (t + grain) ms) (begun u (t + grain) ms) ++ ((t + grain * suc k) ∷ [])
    go true = refl
    go false = refl

-- the slots after voice u was marked
pub marks_other : (u first w t : ℕ) (ts ms : List ℕ) → (w ≡ u → ⊥) → begun w t (marks u first ts ms) ≡ begun w t ms
unfolding marks
marks_other u first w t [] ms ne = refl
marks_other u first w t (x ∷ ts) ms ne =
    marks_other u first w t ts _ ne ∙ begun_other w t (x / grain - first) _ ms (put_other (get_or ms (x / grain - first) 0) u w ne)

-- which slot a tick has
in_slot :
    (first k t n : ℕ) → grain * (first + k) ≤ t → t < grain * (first + n) → t % grain ≡ 0
    → (k ≤ t / grain - first) × (t / grain - first < n) × (grain * first + grain * (t / grain - first) ≡ t) × (t + grain ≡ grain * (first + suc (t / grain - first)))
in_slot first k t n lo hi m = (omega arith, omega arith, omega arith, omega arith)

-- among the slots are those of all ticks before e
pub marks_same :
    (u first k e : ℕ) (ts ms : List ℕ) → Free u k ms → e ≤ grain * (first + length ms) → Rising (grain * (first + k)) e ts
    → begun u (grain * first) (marks u first ts ms) ≡ begun u (grain * first) ms ++ ts
unfolding marks Rising
marks_same u first k e [] ms h l r = sym (append-nil _)
marks_same u first k e (t ∷ ts) ms h l r =
    let j : ℕ = t / grain - first in
    let w : ℕ = bit_or (get_or ms j 0) (2 ^ u) in
    let f = in_slot first k t (length ms) r.0 (omega (arith, r.1)) r.2 in
    let free : Free u (suc j) (set ms j w) = λ i q. ap (λ (n : ℕ). bit_at n u) (get_or-set_other ms j i w 0 (λ e. omega arith)) ∙ h i (omega (arith, f.0)) in
    let one : begun u (grain * first) (set ms j w) ≡ begun u (grain * first) ms ++ (t ∷ []) =
    begun_set u (grain * first) j w ms f.1 (λ i q. h i (omega (arith, f.0))) (put_same (get_or ms j 0) u)
    ∙ ap (λ (n : ℕ). begun u (grain * first) ms ++ (n ∷ [])) f.2 in
    marks_same u first (suc j) e ts (set ms j w) free (omega (arith, length-set ms j w)) (subst (λ (n : ℕ). Rising n e ts) f.3 r.3)
    ∙ ap (λ (xs : List ℕ). xs ++ ts) one ∙ append_assoc (begun u (grain * first) ms) (t ∷ []) ts
