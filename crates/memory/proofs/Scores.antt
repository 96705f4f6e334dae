-- Lemmas on scores and their events: how many, how long, and that they can be written. Assumes nothing.
use Rattle.std.proofs.Common.{◌≡◌, ℕ, zero, suc, ◌+◌, ◌<◌, ◌≤◌, true, false, ◌&&◌, ltb, List, [], ◌∷◌, ◌++◌, length, get_or, take, drop, set, sym, refl, ap, ◌∙◌, arith}
use Rattle.std.proofs.lemmas.List.{append_assoc, length-append, take-append-drop}
use Rattle.std.proofs.lemmas.Bool.{and_parts, and_from, and_left, and_right, ltb-true, lt-ltb, le-ltb}
use Rattle.score.specs.Music.{Event, note, silence, lasts, total, fine, all_fine, places, alterations, length_end, fine_length}
use Rattle.score.specs.Calls.{Score, voice, all_events, none_too_long, ticks_end}
use Rattle.rows.specs.Rows.{stands, alters}
use Rattle.memory.specs.Store.{spread, flat, all_fines}

-- ---- events that can be written

pub fine_fields : (e : Event) → fine e ≡ true → (stands e ≤ places) × (alters e < alterations) × (0 < lasts e) × (lasts e < length_end)
unfolding fine lasts
fine_fields (note p a d) h =
    let x = and_parts (ltb p places && ltb a alterations) (fine_length d) h in
    let y = and_parts (ltb p places) (ltb a alterations) x.0 in
    let z = and_parts (ltb 0 d) (ltb d length_end) (and_parts (ltb 0 d && ltb d length_end) _ x.1).0 in
    (omega (arith, ltb-true p places y.0), ltb-true a alterations y.1, ltb-true 0 d z.0, ltb-true d length_end z.1)
fine_fields (silence d) h =
    let z = and_parts (ltb 0 d) (ltb d length_end) (and_parts (ltb 0 d && ltb d length_end) _ h).0 in
    (omega arith, omega arith, ltb-true 0 d z.0, ltb-true d length_end z.1)

pub fine_place : (p a d : ℕ) → fine (note p a d) ≡ true → p < places
unfolding fine
fine_place p a d h = ltb-true p places (and_parts (ltb p places) (ltb a alterations) (and_parts (ltb p places && ltb a alterations) (fine_length d) h).0).0

-- as a test of its fields finds it
module _ (p a d : ℕ) where
  pub unfine_place : places ≤ p → fine (note p a d) ≡ false
  unfolding fine
  unfine_place h = and_left _ _ (and_left _ _ (le-ltb p places h))

  pub unfine_alteration : alterations ≤ a → fine (note p a d) ≡ false
  unfolding fine
  unfine_alteration h = and_left _ _ (and_right _ _ (le-ltb a alterations h))

  pub fine_by_length : p < places → a < alterations → fine (note p a d) ≡ fine_length d
  unfolding fine
  fine_by_length hp ha = ap (λ b. b && fine_length d) (and_from _ _ (lt-ltb p places hp) (lt-ltb a alterations ha))

pub fine_silence : (d : ℕ) → fine (silence d) ≡ fine_length d
unfolding fine
fine_silence d = refl

pub fine_append : (xs ys : List Event) → all_fine (xs ++ ys) ≡ (all_fine xs && all_fine ys)
unfolding all_fine
fine_append [] ys = refl
fine_append (x ∷ xs) ys =
    elim (fine x) as (λ b. (b && all_fine (xs ++ ys)) ≡ ((b && all_fine xs) && all_fine ys)) [ true ↦ fine_append xs ys | false ↦ refl ]

pub fine_parts : (i : ℕ) (v : List Event) → all_fine v ≡ true → (all_fine (take i v) ≡ true) × (all_fine (drop i v) ≡ true)
fine_parts i v h = and_parts _ _ (sym (fine_append (take i v) (drop i v)) ∙ (ap all_fine (take-append-drop i v) ∙ h))

pub fine_at : (es : List Event) (i : ℕ) (d : Event) → i < length es → all_fine es ≡ true → fine (get_or es i d) ≡ true
unfolding all_fine
fine_at [] i d lt h = absurd (omega arith)
fine_at (e ∷ es) zero d lt h = (and_parts (fine e) _ h).0
fine_at (e ∷ es) (suc i) d lt h = fine_at es i d (omega arith) (and_parts (fine e) _ h).1

pub fine_flat : (s : Score) → all_fines s ≡ true → all_fine (flat s) ≡ true
unfolding all_fines spread all_fine
fine_flat [] h = refl
fine_flat (v ∷ vs) h =
    let p = and_parts (all_fine v) (all_fines vs) h in
    fine_append v (flat vs) ∙ and_from _ _ p.0 (fine_flat vs p.1)

pub fines_voice : (s : Score) (v : ℕ) → all_fines s ≡ true → all_fine (voice s v) ≡ true
unfolding all_fines all_fine
fines_voice [] v h = refl
fines_voice (x ∷ xs) zero h = (and_parts _ _ h).0
fines_voice (x ∷ xs) (suc v) h = fines_voice xs v (and_parts (all_fine x) _ h).1

-- ---- how many, and how long

pub length_spread : {X : Type 0} (f : List Event → List X) → ((v : List Event) → length (f v) ≡ length v) → (s : Score) → length (spread f s) ≡ all_events s
unfolding spread all_events
length_spread f g [] = refl
length_spread f g (v ∷ vs) = length-append (f v) (spread f vs) ∙ (ap (λ n. n + length (spread f vs)) (g v) ∙ ap (λ n. length v + n) (length_spread f g vs))

pub length_flat : (s : Score) → length (flat s) ≡ all_events s
length_flat = length_spread (λ v. v) (λ v. refl)

pub voice_le : (s : Score) (v : ℕ) → v < length s → all_events (take v s) + length (voice s v) ≤ all_events s
unfolding all_events
voice_le [] v h = absurd (omega arith)
voice_le (x ∷ xs) zero h = omega arith
voice_le (x ∷ xs) (suc v) h = omega (arith, voice_le xs v (omega arith))

pub short_voice : (s : Score) (v : ℕ) → none_too_long s ≡ true → total (voice s v) < ticks_end
unfolding none_too_long total
short_voice [] v h = omega arith
short_voice (x ∷ xs) zero h = ltb-true (total x) ticks_end (and_parts (ltb (total x) ticks_end) _ h).0
short_voice (x ∷ xs) (suc v) h = short_voice xs v (and_parts (ltb (total x) ticks_end) _ h).1

-- ---- one voice among the others

module _ {X : Type 0} (f : List Event → List X) where
  pub spread_split : (s : Score) (v : ℕ) → v < length s → spread f s ≡ spread f (take v s) ++ (f (voice s v) ++ spread f (drop (suc v) s))
  unfolding spread
  spread_split [] v h = absurd (omega arith)
  spread_split (x ∷ xs) zero h = refl
  spread_split (x ∷ xs) (suc v) h = ap (λ es. f x ++ es) (spread_split xs v (omega arith)) ∙ sym (append_assoc (f x) (spread f (take v xs)) _)

  pub spread_set : (s : Score) (v : ℕ) (x : List Event) → v < length s → spread f (set s v x) ≡ spread f (take v s) ++ (f x ++ spread f (drop (suc v) s))
  unfolding spread
  spread_set [] v x h = absurd (omega arith)
  spread_set (y ∷ ys) zero x h = refl
  spread_set (y ∷ ys) (suc v) x h = ap (λ es. f y ++ es) (spread_set ys v x (omega arith)) ∙ sym (append_assoc (f y) (spread f (take v ys)) _)

pub flat_split : (s : Score) (v : ℕ) → v < length s → flat s ≡ flat (take v s) ++ (voice s v ++ flat (drop (suc v) s))
flat_split = spread_split (λ v. v)

pub flat_set : (s : Score) (v : ℕ) (x : List Event) → v < length s → flat (set s v x) ≡ flat (take v s) ++ (x ++ flat (drop (suc v) s))
flat_set = spread_set (λ v. v)
