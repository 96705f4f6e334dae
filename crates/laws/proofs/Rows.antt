-- A voice in three rows of words, word by word. Assumes nothing.
use Rattle.std.proofs.Common.{◌≡◌, ℕ, zero, suc, ◌+◌, ◌%◌, ◌<◌, ◌≤◌, Bool, true, false, eqb, List, [], ◌∷◌, length, get_or, drop, sym, refl, ap, ◌∙◌, arith}
use Rattle.std.proofs.lemmas.Bool.{eqb-true, ltb-true, and_parts}
use Rattle.std.proofs.lemmas.List.{drop_more, drop_all}
use Rattle.score.specs.Music.{pick, Event, note, silence, lasts, all_fine, fine}
use Rattle.laws.specs.Rows.{event_of, voice_of}
use Rattle.laws.specs.Owed.{place_of}
use Rattle.laws.proofs.Events.{fine_split}

-- the events from the i-th on
abbrev pub rest_of : List ℕ → List ℕ → List ℕ → ℕ → List Event
rest_of ps xs ds i = voice_of (drop i ps) (drop i xs) (drop i ds)

pub voice_at : (ps xs ds : List ℕ) (i : ℕ) → i < length ds → length ps ≡ length ds → length xs ≡ length ds →
    rest_of ps xs ds i ≡ event_of (get_or ps i 0) (get_or xs i 0) (get_or ds i 0) ∷ rest_of ps xs ds (i + 1)
unfolding voice_of
voice_at ps xs ds i h e f = rw (drop_more ps i 0 (omega arith), drop_more xs i 0 (omega arith), drop_more ds i 0 h) refl

pub voice_end : (ps xs ds : List ℕ) (i : ℕ) → length ds ≤ i → length ps ≡ length ds → rest_of ps xs ds i ≡ []
unfolding voice_of
voice_end ps xs ds i h e = rw (drop_all i ps (omega arith)) refl

pub voice_drop : (ps xs ds : List ℕ) (i : ℕ) → drop i (voice_of ps xs ds) ≡ rest_of ps xs ds i
unfolding voice_of
voice_drop ps xs ds zero = refl
voice_drop [] xs ds (suc i) = refl
voice_drop (p ∷ ps) [] ds (suc i) = none (drop i ps)
  where
    none : (ps : List ℕ) → [] ≡ voice_of ps [] (drop (suc i) ds)
    none [] = refl
    none (p ∷ ps) = refl
voice_drop (p ∷ ps) (x ∷ xs) [] (suc i) = none (drop i ps) (drop i xs)
  where
    none : (ps xs : List ℕ) → [] ≡ voice_of ps xs []
    none [] xs = refl
    none (p ∷ ps) [] = refl
    none (p ∷ ps) (x ∷ xs) = refl
voice_drop (p ∷ ps) (x ∷ xs) (d ∷ ds) (suc i) = voice_drop ps xs ds i

pub length_voice : (ps xs ds : List ℕ) → length ps ≡ length ds → length xs ≡ length ds → length (voice_of ps xs ds) ≡ length ds
unfolding voice_of
length_voice [] xs ds e f = e
length_voice (p ∷ ps) [] ds e f = f
length_voice (p ∷ ps) (x ∷ xs) [] e f = absurd (omega arith)
length_voice (p ∷ ps) (x ∷ xs) (d ∷ ds) e f = ap suc (length_voice ps xs ds (omega arith) (omega arith))

pub fine_from : (ps xs ds : List ℕ) (i : ℕ) → all_fine (voice_of ps xs ds) ≡ true → all_fine (rest_of ps xs ds i) ≡ true
fine_from ps xs ds i f = ap all_fine (sym (voice_drop ps xs ds i)) ∙ (fine_split i (voice_of ps xs ds) f).1

-- the words of an event that can be written
pub record Words (p a d : ℕ) : Type 0 where
  pub place : p ≤ 70
  pub alters : p < 70 → a < 5
  pub some : 0 < d
  pub three : d % 3 ≡ 0
  pub short : d < 65536

pub fine_words : (p a d : ℕ) → fine (event_of p a d) ≡ true → Words p a d
unfolding fine
fine_words p a d f = go (eqb p 70) refl f
  where
    go : (c : Bool) → eqb p 70 ≡ c → fine (pick c (silence d) (note p a d)) ≡ true → Words p a d
    go true e f =
        let l = and_parts _ _ f in
        let z = eqb-true p 70 e in
        let m = and_parts _ _ l.0 in
        record { place = omega arith; alters = (λ lt. absurd (omega arith)); some = ltb-true 0 d m.0; three = eqb-true _ 0 l.1; short = ltb-true d 65536 m.1 }
    go false e f =
        let h = and_parts _ _ f in
        let l = and_parts _ _ h.1 in
        let w = and_parts _ _ h.0 in
        let q = ltb-true p 70 w.0 in
        let m = and_parts _ _ l.0 in
        record { place = omega arith; alters = (λ _. ltb-true a 5 w.1); some = ltb-true 0 d m.0; three = eqb-true _ 0 l.1; short = ltb-true d 65536 m.1 }

pub lasts_words : (p a d : ℕ) → lasts (event_of p a d) ≡ d
unfolding lasts
lasts_words p a d = go (eqb p 70)
  where
    go : (c : Bool) → lasts (pick c (silence d) (note p a d)) ≡ d
    go true = refl
    go false = refl

pub place_words : (p a d : ℕ) → place_of (event_of p a d) ≡ p
unfolding place_of
place_words p a d = go (eqb p 70) refl
  where
    go : (c : Bool) → eqb p 70 ≡ c → place_of (pick c (silence d) (note p a d)) ≡ p
    go true e = sym (eqb-true p 70 e)
    go false e = refl
