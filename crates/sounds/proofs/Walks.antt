-- One step of a walk over a voice's words: past an event, a note or a silence. Assumes nothing.
use Rattle.std.proofs.Common.{◌≡◌, ℕ, suc, ◌+◌, ◌-◌, ◌/◌, ◌^◌, ◌<◌, ◌≤◌, eqb, ltb, List, [], ◌∷◌, length, get_or, take, drop, set, sum, refl, ap, ◌∙◌, arith}
use lib.Bits.{bit_or}
use Rattle.std.proofs.lemmas.List.{drop_more, drop_all}
use Rattle.std.proofs.lemmas.List.Sums.{sum_by-cons, sum_by_more, sum_by-take-le}
use Rattle.std.proofs.lemmas.Bool.{lt-ltb, le-ltb, eq-eqb, ne_eqb}
use Rattle.score.specs.Music.{pick, places}
use Rattle.score.proofs.Picks.{pick_true, pick_false}
use Rattle.sounds.specs.Spans.{grain, passed, note_ticks, silences, marks}

-- ---- events that begin before a tick

pub passed_none : (a t : ℕ) (ds : List ℕ) → a ≤ t → passed a t ds ≡ 0
unfolding passed
passed_none a t [] h = refl
passed_none a t (d ∷ ds) h = pick_false (ltb t a) _ _ (le-ltb _ _ h)

pub passed_all : (a t i : ℕ) (ds : List ℕ) → length ds ≤ i → passed a t (drop i ds) ≡ 0
unfolding passed
passed_all a t i ds h = ap (passed a t) (drop_all i ds h)

pub passed_more : (a t i : ℕ) (ds : List ℕ) → i < length ds → t < a → i + passed a t (drop i ds) ≡ i + 1 + passed a (t + get_or ds i 0) (drop (i + 1) ds)
unfolding passed
passed_more a t i ds l h =
    let e : passed a t (drop i ds) ≡ suc (passed a (t + get_or ds i 0) (drop (i + 1) ds)) = ap (passed a t) (drop_more ds i 0 l) ∙ pick_true (ltb t a) _ _ (lt-ltb _ _ h) in
    omega arith

-- ---- ticks

pub ticks_more : (i : ℕ) (ds : List ℕ) → i < length ds → (sum (take (i + 1) ds) ≡ sum (take i ds) + get_or ds i 0) × (sum (take (i + 1) ds) ≤ sum ds)
ticks_more i ds l = (sum_by_more (λ x. x) ds i 0 l, sum_by-take-le (λ x. x) ds (i + 1))

-- ---- notes and the slots in which they begin

pub ticks_late : (e t : ℕ) (ps ds : List ℕ) → e ≤ t → note_ticks e t ps ds ≡ []
unfolding note_ticks
ticks_late e t [] ds h = refl
ticks_late e t (p ∷ ps) [] h = refl
ticks_late e t (p ∷ ps) (d ∷ ds) h = pick_false (ltb t e) _ _ (le-ltb _ _ h)

-- past one event that begins before the end of the slots: a silence, or a note, whose slot is marked
module _ (e t p d : ℕ) (ps ds : List ℕ) (before : t < e) (v first : ℕ) (ms : List ℕ) where
  pub marks_silence : p ≡ places → marks v first (note_ticks e t (p ∷ ps) (d ∷ ds)) ms ≡ marks v first (note_ticks e (t + d) ps ds) ms
  unfolding note_ticks
  marks_silence q = rw (pick_true (ltb t e) _ _ (lt-ltb _ _ before), pick_true (eqb p places) _ _ (eq-eqb _ _ q)) refl

  pub marks_note : (p ≡ places → ⊥) → marks v first (note_ticks e t (p ∷ ps) (d ∷ ds)) ms ≡ marks v first (note_ticks e (t + d) ps ds) (set ms (t / grain - first) (bit_or (get_or ms (t / grain - first) 0) (2 ^ v)))
  unfolding note_ticks marks
  marks_note q = rw (pick_true (ltb t e) _ _ (lt-ltb _ _ before), pick_false (eqb p places) _ _ (ne_eqb _ _ q)) refl

-- no event is left, where one of the rows ends
pub ticks_no_places : (e t : ℕ) (ps ds : List ℕ) → length ps ≡ 0 → note_ticks e t ps ds ≡ []
unfolding note_ticks
ticks_no_places e t [] ds h = refl
ticks_no_places e t (p ∷ ps) ds h = absurd (omega arith)

pub ticks_no_lengths : (e t : ℕ) (ps ds : List ℕ) → length ds ≡ 0 → note_ticks e t ps ds ≡ []
unfolding note_ticks
ticks_no_lengths e t [] ds h = refl
ticks_no_lengths e t (p ∷ ps) [] h = refl
ticks_no_lengths e t (p ∷ ps) (d ∷ ds) h = absurd (omega arith)

pub marks_none : (v first : ℕ) (ts ms : List ℕ) → ts ≡ [] → marks v first ts ms ≡ ms
unfolding marks
marks_none v first ts ms e = ap (λ (xs : List ℕ). marks v first xs ms) e

-- ---- how long the silences are that come first

pub silent_more :
    (i : ℕ) (ps ds : List ℕ) → i < length ps → i < length ds → get_or ps i 0 ≡ places
    → sum (take (silences (drop i ps)) (drop i ds)) ≡ get_or ds i 0 + sum (take (silences (drop (i + 1) ps)) (drop (i + 1) ds))
unfolding silences
silent_more i ps ds l m q =
    let f : silences (drop i ps) ≡ 1 + silences (drop (i + 1) ps) = ap silences (drop_more ps i 0 l) ∙ pick_true (eqb (get_or ps i 0) places) _ _ (eq-eqb _ _ q) in
    let e : silences (drop i ps) ≡ suc (silences (drop (i + 1) ps)) = omega (arith, f) in
    ap (λ (n : ℕ). sum (take n (drop i ds))) e ∙ ap (λ (xs : List ℕ). sum (take (suc (silences (drop (i + 1) ps))) xs)) (drop_more ds i 0 m) ∙ sum_by-cons (λ x. x) (get_or ds i 0) (take (silences (drop (i + 1) ps)) (drop (i + 1) ds))

pub silent_none : (i : ℕ) (ps ds : List ℕ) → silences (drop i ps) ≡ 0 → sum (take (silences (drop i ps)) (drop i ds)) ≡ 0
silent_none i ps ds z = ap (λ (n : ℕ). sum (take n (drop i ds))) z
