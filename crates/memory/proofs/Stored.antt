-- How many words a score is stored in, and that each of them is one. Assumes nothing.
use Rattle.std.proofs.Common.{◌≡◌, ℕ, suc, ◌<◌, ◌≤◌, true, ltb, List, [], ◌∷◌, map, length, get_or, refl, ap, ◌∙◌, subst, arith}
use Rattle.std.proofs.lemmas.List.{length-append, length-replicate, map-append}
use Rattle.std.proofs.lemmas.Bool.{and_parts, and_from, lt-ltb, ltb-true}
use Rattle.score.specs.Music.{Event, lasts, total, fine, all_fine}
use Rattle.score.specs.Calls.{Limits, Layout, Score, all_events, none_too_long, ticks_end}
use Rattle.score.specs.Print.{key}
use Rattle.score.specs.Promise.{GoodLayout, field_end, all_below}
use Rattle.laws.specs.Onsets.{Onset, onsets_of}
use Rattle.laws.proofs.Onsets.{length_onsets}
use Rattle.laws.proofs.Reaching.{no_onset, Small, onsets_small}
use Rattle.wire.proofs.Rows.{all_below-++}
use Rattle.rows.specs.Rows.{stands, alters}
use Rattle.memory.specs.Store.{marks_asked, words_asked, spread, flat, all_onsets, counts, ticks, padded, laid, onset_rows, no_marks, headed, stored, all_fines, Kept}
use Rattle.memory.specs.Owed.{WordsFit, WordsCounted}
use Rattle.memory.proofs.Scores.{fine_fields, fine_flat, length_spread, length_flat}
use Rattle.memory.proofs.Back.{length_counts, length_ticks, length_region}
use Rattle.memory.proofs.Below.{below_zeros, below_padded}

pub length_all_onsets : (y : Layout) (s : Score) → length (all_onsets y s) ≡ all_events s
length_all_onsets y = length_spread (onsets_of y.in_key y.bar_long) (length_onsets y.in_key y.bar_long 0 0 (key y.in_key))

-- with whatever onsets, if they are not too many
pub length_headed : (l : Limits) (y : Layout) (s : Score) → Kept l s → (os : List Onset) (ms : List ℕ) → length os ≤ l.events → length ms ≡ marks_asked l.events →
    length (headed l y s (onset_rows l.events os ms)) ≡ words_asked l.voices l.events
length_headed l y s k os ms lo z =
    let n : ℕ = l.events in
    let le : length (flat s) ≤ n = rw (length_flat s) k.fitting in
    let c = length_counts s k.so_many le in
    let t = length_ticks s k.so_many le in
    let p = length_region stands n (flat s) le in
    let q = length_region alters n (flat s) le in
    let r = length_region lasts n (flat s) le in
    let o1 = length_region (λ x. x.bar) n os lo in
    let o2 = length_region (λ x. x.tick) n os lo in
    let o3 = length_region (λ x. x.sign) n os lo in
    simp (length-append, c, t, p, q, r, o1, o2, o3, z) (omega arith)

pub length_stored : (l : Limits) (y : Layout) (s : Score) → Kept l s → length (stored l y s) ≡ words_asked l.voices l.events
unfolding stored
length_stored l y s k = length_headed l y s k (all_onsets y s) (no_marks l.events) (rw (length_all_onsets y s) k.fitting) (length-replicate {A = ℕ} (marks_asked l.events) 0)

pub words_counted : WordsCounted
words_counted l y s k = (length_stored l y s k, omega arith)

-- ---- each word is below 2^32

below_counts : (b : ℕ) (s : Score) → all_events s < b → all_below b (counts s) ≡ true
unfolding all_below all_events
below_counts b [] h = refl
below_counts b (v ∷ vs) h = and_from _ _ (lt-ltb (length v) b (omega arith)) (below_counts b vs (omega arith))

below_ticks : (b : ℕ) (s : Score) → ticks_end ≤ b → none_too_long s ≡ true → all_below b (ticks s) ≡ true
unfolding all_below none_too_long
below_ticks b [] h k = refl
below_ticks b (v ∷ vs) h k =
    let p = and_parts (ltb (total v) ticks_end) _ k in
    let t = ltb-true (total v) ticks_end p.0 in
    and_from _ _ (lt-ltb (total v) b (omega arith)) (below_ticks b vs h p.1)

below_map : (b : ℕ) (f : Event → ℕ) (es : List Event) → ((e : Event) → fine e ≡ true → f e < b) → all_fine es ≡ true → all_below b (map f es) ≡ true
unfolding all_below all_fine
below_map b f [] g h = refl
below_map b f (e ∷ es) g h = let p = and_parts (fine e) _ h in and_from _ _ (lt-ltb (f e) b (g e p.0)) (below_map b f es g p.1)

below_region : (n : ℕ) (s : Score) (f : Event → ℕ) → ((e : Event) → fine e ≡ true → f e < field_end) → all_fine (flat s) ≡ true → all_below field_end (padded n (map f (flat s))) ≡ true
below_region n s f g h = below_padded field_end n _ (omega arith) (below_map field_end f (flat s) g h)

fine_words : (e : Event) → fine e ≡ true → (stands e < field_end) × (alters e < field_end) × (lasts e < field_end)
fine_words e h = let f = fine_fields e h in (omega (arith, f.0), omega (arith, f.1), omega (arith, f.3))

below_laid : (n : ℕ) (s : Score) (rest : List ℕ) → all_events s < field_end → none_too_long s ≡ true → all_fine (flat s) ≡ true → all_below field_end rest ≡ true → all_below field_end (laid n s rest) ≡ true
below_laid n s rest small short f h =
    all_below-++ field_end (counts s) _ (below_counts field_end s small)
    (all_below-++ field_end (ticks s) _ (below_ticks field_end s (omega arith) short)
    (all_below-++ field_end _ _ (below_region n s stands (λ e h. (fine_words e h).0) f)
    (all_below-++ field_end _ _ (below_region n s alters (λ e h. (fine_words e h).1) f)
    (all_below-++ field_end _ rest (below_region n s lasts (λ e h. (fine_words e h).2) f) h))))

-- of onsets

below_each : (b : ℕ) {X : Type 0} (g : X → ℕ) (xs : List X) (d : X) → ((i : ℕ) → i < length xs → g (get_or xs i d) < b) → all_below b (map g xs) ≡ true
unfolding all_below
below_each b g [] d h = refl
below_each b g (x ∷ xs) d h = and_from _ _ (lt-ltb (g x) b (h 0 (omega arith))) (below_each b g xs d (λ i lt. h (suc i) (omega arith)))

module _ (y : Layout) (gy : GoodLayout y) (g : Onset → ℕ) (bound : (x : Onset) → Small y.in_key y.bar_long ticks_end x → g x < field_end) where
  below_onsets : (s : Score) → none_too_long s ≡ true → all_fines s ≡ true → all_below field_end (map g (all_onsets y s)) ≡ true
  unfolding spread none_too_long all_fines all_below
  below_onsets [] short fines = refl
  below_onsets (v ∷ vs) short fines =
      let k : ℕ = y.in_key in
      let b : ℕ = y.bar_long in
      let a = and_parts (ltb (total v) ticks_end) _ short in
      let c = and_parts (all_fine v) _ fines in
      let mine = below_each field_end g (onsets_of k b v) no_onset (λ i li. bound _
      (onsets_small k b v i 0 0 (key k) ticks_end gy.1 (let short_one = ltb-true (total v) ticks_end a.0 in omega arith) c.0 (subst (λ m. i < m) (length_onsets k b 0 0 (key k) v) li))) in
      ap (all_below field_end) (map-append g (onsets_of k b v) (all_onsets y vs)) ∙ all_below-++ field_end (map g (onsets_of k b v)) (map g (all_onsets y vs)) mine (below_onsets vs a.1 c.1)

below_rows : (y : Layout) (s : Score) (n : ℕ) → GoodLayout y → none_too_long s ≡ true → all_fines s ≡ true → all_below field_end (onset_rows n (all_onsets y s) (no_marks n)) ≡ true
below_rows y s n gy short fines =
    let region = λ (g : Onset → ℕ) (bound : (x : Onset) → Small y.in_key y.bar_long ticks_end x → g x < field_end).
    below_padded field_end n (map g (all_onsets y s)) (omega arith) (below_onsets y gy g bound s short fines) in
    all_below-++ field_end _ _ (region (λ x. x.bar) (λ x h. omega (arith, h.bar_small)))
    (all_below-++ field_end _ _ (region (λ x. x.tick) (λ x h. omega (arith, h.tick_small, gy.2)))
    (all_below-++ field_end _ _ (region (λ x. x.sign) (λ x h. omega (arith, h.sign_small))) (below_zeros field_end (marks_asked n) (omega arith))))

pub words_fit : WordsFit
unfolding stored all_below
words_fit l y s gy gl k =
    let fit = k.fitting in
    let voices_fit = below_laid l.events s _ (omega (arith, gl.2)) k.short (fine_flat s k.fines) (below_rows y s l.events gy k.short k.fines) in
    and_from _ _ (lt-ltb y.in_key _ (omega (arith, gy.0)))
    (and_from _ _ (lt-ltb y.bar_long _ (omega (arith, gy.2)))
    (and_from _ _ (lt-ltb l.voices _ (omega (arith, gl.1)))
    (and_from _ _ (lt-ltb l.events _ (omega (arith, gl.2))) voices_fit)))
