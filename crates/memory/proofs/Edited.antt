-- A put, a cut and a change as the words have them: the three regions are edited alike, and a voice's count and ticks written. Assumes nothing.
use Rattle.std.proofs.Common.{◌≡◌, ℕ, suc, ◌+◌, ◌-◌, ◌*◌, ◌<◌, ◌≤◌, List, [], ◌∷◌, ◌++◌, map, length, get_or, take, drop, set, sym, refl, ap, ◌∙◌, arith}
use Rattle.std.specs.List.{insert, remove}
use Rattle.std.proofs.lemmas.List.{append_assoc, length-append, length-map, length-set, map-append, map-set, take-map, drop-map, set-append_left, set-append_right}
use Rattle.std.proofs.lemmas.List.Edits.{length-insert, length-remove}
use Rattle.score.specs.Music.{Event, lasts, total}
use Rattle.score.specs.Calls.{put, cut, change, Limits, Layout, Score, voice, all_events, changed}
use Rattle.laws.specs.Onsets.{Onset}
use Rattle.laws.proofs.Reaching.{no_onset}
use Rattle.rows.specs.Rows.{stands, alters}
use Rattle.memory.specs.Store.{flat, counts, ticks, padded, onset_rows, headed, Kept}
use Rattle.memory.specs.Moves.{shifted, closed, rows_in, rows_out, rows_set}
use Rattle.memory.proofs.Scores.{length_flat, voice_le}
use Rattle.memory.proofs.Back.{length_padded, length_region}
use Rattle.memory.proofs.Changes.{counts_put, ticks_put, flat_put, counts_cut, ticks_cut, flat_cut, counts_change, ticks_change, flat_change}
use Rattle.memory.proofs.Moved.{shift_padded, close_padded, set_padded}

-- ---- three regions

-- `op` of the words, where a region begins and what an event has there, does to the u words in use what `edit` does to them alone
module _ (n u : ℕ) (op : List ℕ → ℕ → ℕ → List ℕ) (edit : List ℕ → ℕ → List ℕ)
    (alone : (A B xs : List ℕ) (x : ℕ) → length xs ≡ u → op (A ++ (padded n xs ++ B)) (length A) x ≡ A ++ (padded n (edit xs x) ++ B))
    (small : (xs : List ℕ) (x : ℕ) → length xs ≡ u → length (edit xs x) ≤ n) where
  edited : (A B xs : List ℕ) (x from : ℕ) → length A ≡ from → length xs ≡ u → op (A ++ (padded n xs ++ B)) from x ≡ (A ++ padded n (edit xs x)) ++ B
  edited A B xs x from ea ex = ap (λ k. op (A ++ (padded n xs ++ B)) k x) (sym ea) ∙ (alone A B xs x ex ∙ sym (append_assoc A (padded n (edit xs x)) B))

  three : (A B ps qs rs : List ℕ) (m p q r : ℕ) → length A ≡ m → length ps ≡ u → length qs ≡ u → length rs ≡ u →
      op (op (op (A ++ (padded n ps ++ (padded n qs ++ (padded n rs ++ B)))) m p) (m + n) q) (m + n + n) r
      ≡ A ++ (padded n (edit ps p) ++ (padded n (edit qs q) ++ (padded n (edit rs r) ++ B)))
  three A B ps qs rs m p q r ea ep eq er =
      let P : List ℕ = padded n (edit ps p) in
      let Q : List ℕ = padded n (edit qs q) in
      let R : List ℕ = padded n (edit rs r) in
      let lP : length (A ++ P) ≡ m + n = length-append A P ∙ omega (arith, length_padded n (edit ps p) (small ps p ep)) in
      let lQ : length ((A ++ P) ++ Q) ≡ m + n + n = length-append (A ++ P) Q ∙ omega (arith, length_padded n (edit qs q) (small qs q eq)) in
      let s1 = edited A (padded n qs ++ (padded n rs ++ B)) ps p m ea ep in
      let s2 = edited (A ++ P) (padded n rs ++ B) qs q (m + n) lP eq in
      let s3 = edited ((A ++ P) ++ Q) B rs r (m + n + n) lQ er in
      let g : (((A ++ P) ++ Q) ++ R) ++ B ≡ A ++ (P ++ (Q ++ (R ++ B))) = simp append_assoc in
      ap (λ w. op (op w (m + n) q) (m + n + n) r) s1 ∙ (ap (λ w. op w (m + n + n) r) s2 ∙ (s3 ∙ g))

-- ---- behind a header of four words, a voice's count and its ticks

set_count : (a b c d v x i : ℕ) (C X : List ℕ) → v < length C → i ≡ 4 + v → set (a ∷ (b ∷ (c ∷ (d ∷ (C ++ X))))) i x ≡ a ∷ (b ∷ (c ∷ (d ∷ (set C v x ++ X))))
set_count a b c d v x i C X lt e =
    let k : i ≡ suc (suc (suc (suc v))) = omega arith in
    ap (λ j. set (a ∷ (b ∷ (c ∷ (d ∷ (C ++ X))))) j x) k ∙ ap (λ w. a ∷ (b ∷ (c ∷ (d ∷ w)))) (set-append_left C X v x lt)

set_tick : (a b c d v x i : ℕ) (C T X : List ℕ) → v < length T → i ≡ 4 + length C + v → set (a ∷ (b ∷ (c ∷ (d ∷ (C ++ (T ++ X)))))) i x ≡ a ∷ (b ∷ (c ∷ (d ∷ (C ++ (set T v x ++ X)))))
set_tick a b c d v x i C T X lt e =
    let k : i ≡ suc (suc (suc (suc (length C + v)))) = omega arith in
    let z : length C + v - length C ≡ v = omega arith in
    ap (λ j. set (a ∷ (b ∷ (c ∷ (d ∷ (C ++ (T ++ X)))))) j x) k
    ∙ ap (λ w. a ∷ (b ∷ (c ∷ (d ∷ w))))
    (set-append_right C (T ++ X) (length C) (length C + v) x refl (omega arith)
    ∙ ap (λ w. C ++ w) (ap (λ j. set (T ++ X) j x) z ∙ set-append_left T X v x lt))

-- ---- what is stored

module _ (l : Limits) (y : Layout) (s s' : Score) (kept : Kept l s) (v m : ℕ) (lv : v < l.voices) (em : m ≡ 4 + 2 * l.voices) (R : List ℕ)
    (op : List ℕ → ℕ → ℕ → List ℕ) (edit : List ℕ → ℕ → List ℕ)
    (alone : (A B xs : List ℕ) (x : ℕ) → length xs ≡ all_events s → op (A ++ (padded l.events xs ++ B)) (length A) x ≡ A ++ (padded l.events (edit xs x) ++ B))
    (small : (xs : List ℕ) (x : ℕ) → length xs ≡ all_events s → length (edit xs x) ≤ l.events)
    (p q r : ℕ) (ep : map stands (flat s') ≡ edit (map stands (flat s)) p) (eq : map alters (flat s') ≡ edit (map alters (flat s)) q) (er : map lasts (flat s') ≡ edit (map lasts (flat s)) r) where
  abbrev n : ℕ
  n = l.events

  abbrev header : List ℕ → List ℕ
  header xs = y.in_key ∷ (y.bar_long ∷ (l.voices ∷ (l.events ∷ xs)))

  abbrev regions : List ℕ
  regions = op (op (op (headed l y s R) m p) (m + n) q) (m + n + n) r

  abbrev behind : List ℕ
  behind = padded n (map stands (flat s')) ++ (padded n (map alters (flat s')) ++ (padded n (map lasts (flat s')) ++ R))

  long_counts : length (counts s) ≡ l.voices
  long_counts = length-map s length ∙ kept.so_many

  long_ticks : length (ticks s) ≡ l.voices
  long_ticks = length-map s total ∙ kept.so_many

  regions_edited : regions ≡ header (counts s ++ (ticks s ++ behind))
  regions_edited =
      let A : List ℕ = header (counts s ++ ticks s) in
      let ps : List ℕ = map stands (flat s) in
      let qs : List ℕ = map alters (flat s) in
      let rs : List ℕ = map lasts (flat s) in
      let la : length A ≡ m = omega (arith, length-append (counts s) (ticks s), long_counts, long_ticks) in
      let u = length_flat s in
      let t = three n (all_events s) op edit alone small A R ps qs rs m p q r la (length-map (flat s) stands ∙ u) (length-map (flat s) alters ∙ u) (length-map (flat s) lasts ∙ u) in
      let from = ap header (sym (append_assoc (counts s) (ticks s) (padded n ps ++ (padded n qs ++ (padded n rs ++ R))))) in
      let to = ap header (append_assoc (counts s) (ticks s) behind) in
      ap (λ w. op (op (op w m p) (m + n) q) (m + n + n) r) from
      ∙ (t
      ∙ (ap (λ x. A ++ (padded n x ++ (padded n (edit qs q) ++ (padded n (edit rs r) ++ R)))) (sym ep)
      ∙ (ap (λ x. A ++ (padded n (map stands (flat s')) ++ (padded n x ++ (padded n (edit rs r) ++ R)))) (sym eq)
      ∙ (ap (λ x. A ++ (padded n (map stands (flat s')) ++ (padded n (map alters (flat s')) ++ (padded n x ++ R)))) (sym er) ∙ to))))

  -- with the voice's ticks written, and with its count and its ticks written

  ticks_edited : (t i : ℕ) → i ≡ 4 + l.voices + v → counts s' ≡ counts s → ticks s' ≡ set (ticks s) v t → set regions i t ≡ headed l y s' R
  ticks_edited t i ei ec et =
      ap (λ w. set w i t) regions_edited
      ∙ (set_tick _ _ _ _ v t i (counts s) (ticks s) behind (omega (arith, long_ticks)) (omega (arith, long_counts))
      ∙ (ap (λ x. header (counts s ++ (x ++ behind))) (sym et) ∙ ap (λ x. header (x ++ (ticks s' ++ behind))) (sym ec)))

  both_edited : (c t i j : ℕ) → i ≡ 4 + v → j ≡ 4 + l.voices + v → counts s' ≡ set (counts s) v c → ticks s' ≡ set (ticks s) v t → set (set regions i c) j t ≡ headed l y s' R
  both_edited c t i j ei ej ec et =
      ap (λ w. set (set w i c) j t) regions_edited
      ∙ (ap (λ w. set w j t) (set_count _ _ _ _ v c i (counts s) (ticks s ++ behind) (omega (arith, long_counts)) ei)
      ∙ (set_tick _ _ _ _ v t j (set (counts s) v c) (ticks s) behind (omega (arith, long_ticks)) (omega (arith, long_counts, length-set (counts s) v c))
      ∙ (ap (λ x. header (set (counts s) v c ++ (x ++ behind))) (sym et) ∙ ap (λ x. header (x ++ (ticks s' ++ behind))) (sym ec))))

-- ---- what is edited before it is mapped

map_inserted : {X : Type 0} (f : X → ℕ) (es : List X) (j : ℕ) (e : X) → map f (insert es j e) ≡ insert (map f es) j (f e)
map_inserted f es j e =
    let a = map-append f (take j es) (e ∷ drop j es) in
    let b = take-map f j es in
    let d = drop-map f j es in cc

map_removed : {X : Type 0} (f : X → ℕ) (es : List X) (j : ℕ) → map f (remove es j) ≡ remove (map f es) j
map_removed f es j =
    let a = map-append f (take j es) (drop (suc j) es) in
    let b = take-map f j es in
    let d = drop-map f (suc j) es in cc

-- ---- the regions of onsets, behind those of the events

pub headed_front : (l : Limits) (y : Layout) (s : Score) (R : List ℕ) → headed l y s [] ++ R ≡ headed l y s R
headed_front l y s R = simp append_assoc

pub length_front : (l : Limits) (y : Layout) (s : Score) → Kept l s → length (headed l y s []) ≡ 4 + 2 * l.voices + l.events + l.events + l.events
length_front l y s k =
    let n : ℕ = l.events in
    let le : length (flat s) ≤ n = rw (length_flat s) k.fitting in
    let c = length-map s length ∙ k.so_many in
    let t = length-map s total ∙ k.so_many in
    let p = length_region stands n (flat s) le in
    let q = length_region alters n (flat s) le in
    let r = length_region lasts n (flat s) le in
    simp (length-append, c, t, p, q, r) (omega arith)

module _ (l : Limits) (y : Layout) (s : Score) (kept : Kept l s) (os : List Onset) (M : List ℕ) (m : ℕ) (em : m ≡ 4 + 2 * l.voices + l.events + l.events + l.events) where
  abbrev n' : ℕ
  n' = l.events

  abbrev kept_as : List Onset → List ℕ
  kept_as xs = headed l y s (onset_rows l.events xs M)

  onsets_edited : (op : List ℕ → ℕ → ℕ → List ℕ) (edit : List ℕ → ℕ → List ℕ)
      (alone : (A B xs : List ℕ) (x : ℕ) → length xs ≡ length os → op (A ++ (padded l.events xs ++ B)) (length A) x ≡ A ++ (padded l.events (edit xs x) ++ B))
      (small : (xs : List ℕ) (x : ℕ) → length xs ≡ length os → length (edit xs x) ≤ l.events)
      (p q r : ℕ) (to : List Onset) → map (λ x. x.bar) to ≡ edit (map (λ x. x.bar) os) p → map (λ x. x.tick) to ≡ edit (map (λ x. x.tick) os) q → map (λ x. x.sign) to ≡ edit (map (λ x. x.sign) os) r →
      op (op (op (kept_as os) m p) (m + n') q) (m + n' + n') r ≡ kept_as to
  onsets_edited op edit alone small p q r to ep eq er =
      let A : List ℕ = headed l y s [] in
      let ps : List ℕ = map (λ x. x.bar) os in
      let qs : List ℕ = map (λ x. x.tick) os in
      let rs : List ℕ = map (λ x. x.sign) os in
      let t = three n' (length os) op edit alone small A M ps qs rs m p q r (length_front l y s kept ∙ sym em) (length-map os (λ x. x.bar)) (length-map os (λ x. x.tick)) (length-map os (λ x. x.sign)) in
      ap (λ w. op (op (op w m p) (m + n') q) (m + n' + n') r) (sym (headed_front l y s _))
      ∙ (t
      ∙ (ap (λ x. A ++ (padded n' x ++ (padded n' (edit qs q) ++ (padded n' (edit rs r) ++ M)))) (sym ep)
      ∙ (ap (λ x. A ++ (padded n' (map (λ x. x.bar) to) ++ (padded n' x ++ (padded n' (edit rs r) ++ M)))) (sym eq)
      ∙ (ap (λ x. A ++ (padded n' (map (λ x. x.bar) to) ++ (padded n' (map (λ x. x.tick) to) ++ (padded n' x ++ M)))) (sym er) ∙ headed_front l y s _))))

  pub onset_in : (j : ℕ) → j ≤ length os → length os < l.events → rows_in (kept_as os) m l.events (length os) j 0 0 0 ≡ kept_as (insert os j no_onset)
  unfolding rows_in
  onset_in j lj lt =
      onsets_edited (λ w from x. shifted w (from + j) (from + length os) x) (λ xs x. insert xs j x)
      (λ A B xs x ex. shift_padded A B xs n' j x (length A + j) (length A + length os) (omega arith) (omega arith) refl (omega arith))
      (λ xs x ex. omega (arith, length-insert xs j x (omega arith)))
      0 0 0 (insert os j no_onset) (map_inserted (λ x. x.bar) os j no_onset) (map_inserted (λ x. x.tick) os j no_onset) (map_inserted (λ x. x.sign) os j no_onset)

  pub onset_out : (j : ℕ) → j < length os → length os ≤ l.events → rows_out (kept_as os) m l.events (length os) j ≡ kept_as (remove os j)
  unfolding rows_out
  onset_out j lj le =
      onsets_edited (λ w from x. closed w (from + j) (from + length os)) (λ xs x. remove xs j)
      (λ A B xs x ex. close_padded A B xs n' j (length A + j) (length A + length os) (omega arith) (omega arith) refl (omega arith))
      (λ xs x ex. omega (arith, length-remove xs j (omega arith)))
      0 0 0 (remove os j) (map_removed (λ x. x.bar) os j) (map_removed (λ x. x.tick) os j) (map_removed (λ x. x.sign) os j)

  pub onset_set : (j : ℕ) (x : Onset) → j < length os → length os ≤ l.events → rows_set (kept_as os) m l.events j x.bar x.tick x.sign ≡ kept_as (set os j x)
  unfolding rows_set
  onset_set j x lj le =
      onsets_edited (λ w from z. set w (from + j) z) (λ xs z. set xs j z)
      (λ A B xs z ex. set_padded A B xs n' j z (length A + j) (omega arith) refl)
      (λ xs z ex. omega (arith, length-set xs j z))
      x.bar x.tick x.sign (set os j x) (map-set (λ x. x.bar) os j x) (map-set (λ x. x.tick) os j x) (map-set (λ x. x.sign) os j x)

-- ---- the three calls

-- v is a voice of s, i an index in it, m where the first region begins and j the place of the event in each region
module _ (l : Limits) (y : Layout) (s : Score) (kept : Kept l s) (v i m j : ℕ) (lv : v < l.voices) (em : m ≡ 4 + 2 * l.voices) (ej : j ≡ all_events (take v s) + i) (R : List ℕ) where
  in_score : v < length s
  in_score = rw kept.so_many lv

  pub put_stored : (e : Event) (u c t : ℕ) → i ≤ length (voice s v) → all_events s < l.events → u ≡ all_events s → c ≡ length (voice s v) + 1 → t ≡ total (voice s v) + lasts e →
      set (set (rows_in (headed l y s R) m l.events u j (stands e) (alters e) (lasts e)) (4 + v) c) (4 + l.voices + v) t ≡ headed l y (changed s (put v i e)) R
  unfolding rows_in
  put_stored e u c t li lt eu ec et =
      let n : ℕ = l.events in
      let le = voice_le s v in_score in
      let f : flat (changed s (put v i e)) ≡ insert (flat s) j e = flat_put s v i e in_score li ∙ ap (λ k. insert (flat s) k e) (sym ej) in
      both_edited l y s (changed s (put v i e)) kept v m lv em R (λ w from x. shifted w (from + j) (from + u) x) (λ xs x. insert xs j x)
      (λ A B xs x ex. shift_padded A B xs n j x (length A + j) (length A + u) (omega arith) (omega arith) refl (omega arith))
      (λ xs x ex. omega (arith, length-insert xs j x (omega arith)))
      (stands e) (alters e) (lasts e)
      (ap (map stands) f ∙ map_inserted stands (flat s) j e) (ap (map alters) f ∙ map_inserted alters (flat s) j e) (ap (map lasts) f ∙ map_inserted lasts (flat s) j e)
      c t (4 + v) (4 + l.voices + v) refl refl
      (counts_put s v i e in_score li ∙ ap (λ k. set (counts s) v k) (sym ec)) (ticks_put s v i e in_score li ∙ ap (λ k. set (ticks s) v k) (sym et))

  pub cut_stored : (old : Event) (u c t : ℕ) → i < length (voice s v) → u ≡ all_events s → c ≡ length (voice s v) - 1 → t ≡ total (voice s v) - lasts (get_or (voice s v) i old) →
      set (set (rows_out (headed l y s R) m l.events u j) (4 + v) c) (4 + l.voices + v) t ≡ headed l y (changed s (cut v i)) R
  unfolding rows_out
  cut_stored old u c t li eu ec et =
      let n : ℕ = l.events in
      let fit = kept.fitting in
      let le = voice_le s v in_score in
      let f : flat (changed s (cut v i)) ≡ remove (flat s) j = flat_cut s v i old in_score li ∙ ap (λ k. remove (flat s) k) (sym ej) in
      both_edited l y s (changed s (cut v i)) kept v m lv em R (λ w from x. closed w (from + j) (from + u)) (λ xs x. remove xs j)
      (λ A B xs x ex. close_padded A B xs n j (length A + j) (length A + u) (omega arith) (omega arith) refl (omega arith))
      (λ xs x ex. omega (arith, length-remove xs j (omega arith)))
      0 0 0
      (ap (map stands) f ∙ map_removed stands (flat s) j) (ap (map alters) f ∙ map_removed alters (flat s) j) (ap (map lasts) f ∙ map_removed lasts (flat s) j)
      c t (4 + v) (4 + l.voices + v) refl refl
      (counts_cut s v i old in_score li ∙ ap (λ k. set (counts s) v k) (sym ec)) (ticks_cut s v i old in_score li ∙ ap (λ k. set (ticks s) v k) (sym et))

  pub change_stored : (e old : Event) (t : ℕ) → i < length (voice s v) → t ≡ total (voice s v) - lasts (get_or (voice s v) i old) + lasts e →
      set (rows_set (headed l y s R) m l.events j (stands e) (alters e) (lasts e)) (4 + l.voices + v) t ≡ headed l y (changed s (change v i e)) R
  unfolding rows_set
  change_stored e old t li et =
      let n : ℕ = l.events in
      let fit = kept.fitting in
      let le = voice_le s v in_score in
      let f : flat (changed s (change v i e)) ≡ set (flat s) j e = flat_change s v i e old in_score li ∙ ap (λ k. set (flat s) k e) (sym ej) in
      ticks_edited l y s (changed s (change v i e)) kept v m lv em R (λ w from x. set w (from + j) x) (λ xs x. set xs j x)
      (λ A B xs x ex. set_padded A B xs n j x (length A + j) (omega arith) refl)
      (λ xs x ex. omega (arith, length-set xs j x))
      (stands e) (alters e) (lasts e)
      (ap (map stands) f ∙ map-set stands (flat s) j e) (ap (map alters) f ∙ map-set alters (flat s) j e) (ap (map lasts) f ∙ map-set lasts (flat s) j e)
      t (4 + l.voices + v) refl
      (counts_change s v i e old in_score li) (ticks_change s v i e old in_score li ∙ ap (λ k. set (ticks s) v k) (sym et))
