-- The words that a put, a cut and a change leave, before what is kept with the events is derived anew. Assumes nothing.
use Rattle.std.proofs.Common.{◌≡◌, ℕ, ◌+◌, ◌-◌, ◌<◌, ◌≤◌, List, length, get_or, take, set, sym, refl, ap, ◌∙◌, arith}
use Rattle.std.specs.List.{insert, remove}
use Rattle.score.specs.Music.{Event, lasts, total}
use Rattle.score.specs.Calls.{put, cut, change, Score, voice, all_events, changed}
use Rattle.laws.specs.Onsets.{Onset}
use Rattle.laws.proofs.Reaching.{no_onset}
use Rattle.rows.specs.Rows.{stands, alters}
use Rattle.memory.specs.Store.{all_onsets, onset_rows, no_marks, headed, stored, voices_in, limit_in, places_from, bars_from, limits_of, layout_of, score_of, Kept}
use Rattle.memory.specs.Words.{Holds}
use Rattle.memory.specs.Moves.{rows_in, rows_out, rows_set, with_event, without_event, with_other}
use Rattle.memory.proofs.Held.{count_at}
use Rattle.memory.proofs.Stored.{length_all_onsets}
use Rattle.memory.proofs.Edited.{put_stored, cut_stored, change_stored, onset_in, onset_out}

module _ (w : List ℕ) (h : Holds w) (v i j t : ℕ) (lv : v < voices_in w) (ej : j ≡ all_events (take v (score_of w)) + i) where
  abbrev s : Score
  s = score_of w

  -- the onsets as they were
  abbrev os : List Onset
  os = all_onsets (layout_of w) (score_of w)

  -- a score with these onsets
  abbrev with_onsets : Score → List Onset → List ℕ
  with_onsets t xs = headed (limits_of w) (layout_of w) t (onset_rows (limit_in w) xs (no_marks (limit_in w)))

  as_held : w ≡ with_onsets s os
  unfolding stored
  as_held = h.is

  pub put_left : (e : Event) (u q : ℕ) → i ≤ length (voice s v) → j ≤ all_events s → q ≤ all_events s → all_events s < limit_in w → u ≡ all_events s →
      t ≡ total (voice s v) + lasts e → Kept (limits_of w) (changed s (put v i e)) →
      with_event w v u j q t (stands e) (alters e) (lasts e) ≡ with_onsets (changed s (put v i e)) (insert os q no_onset)
  unfolding with_event
  put_left e u q li lj lq room eu et k =
      let n : ℕ = limit_in w in
      let c : get_or w (4 + v) 0 + 1 ≡ length (voice s v) + 1 = ap (λ n. n + 1) (count_at w h v lv) in
      let lo : length os ≡ u = length_all_onsets (layout_of w) s ∙ sym eu in
      ap (λ x. rows_in (set (set (rows_in x (places_from w) n u j (stands e) (alters e) (lasts e)) (4 + v) (get_or w (4 + v) 0 + 1)) (4 + voices_in w + v) t) (bars_from w) n u q 0 0 0) as_held
      ∙ (ap (λ x. rows_in x (bars_from w) n u q 0 0 0)
      (put_stored (limits_of w) (layout_of w) s h.proper.kept v i (places_from w) j lv refl ej (onset_rows n os (no_marks n)) e u (get_or w (4 + v) 0 + 1) t li room eu c et)
      ∙ (ap (λ z. rows_in (with_onsets (changed s (put v i e)) os) (bars_from w) n z q 0 0 0) (sym lo)
      ∙ onset_in (limits_of w) (layout_of w) (changed s (put v i e)) k os (no_marks n) (bars_from w) refl q (omega arith) (omega arith)))

  pub cut_left : (old : Event) (u q : ℕ) → i < length (voice s v) → j < all_events s → q < all_events s → u ≡ all_events s → t ≡ total (voice s v) - lasts (get_or (voice s v) i old) →
      Kept (limits_of w) (changed s (cut v i)) →
      without_event w v u j q t ≡ with_onsets (changed s (cut v i)) (remove os q)
  unfolding without_event
  cut_left old u q li lj lq eu et k =
      let n : ℕ = limit_in w in
      let c : get_or w (4 + v) 0 - 1 ≡ length (voice s v) - 1 = ap (λ n. n - 1) (count_at w h v lv) in
      let lo : length os ≡ u = length_all_onsets (layout_of w) s ∙ sym eu in
      ap (λ x. rows_out (set (set (rows_out x (places_from w) n u j) (4 + v) (get_or w (4 + v) 0 - 1)) (4 + voices_in w + v) t) (bars_from w) n u q) as_held
      ∙ (ap (λ x. rows_out x (bars_from w) n u q)
      (cut_stored (limits_of w) (layout_of w) s h.proper.kept v i (places_from w) j lv refl ej (onset_rows n os (no_marks n)) old u (get_or w (4 + v) 0 - 1) t li eu c et)
      ∙ (ap (λ z. rows_out (with_onsets (changed s (cut v i)) os) (bars_from w) n z q) (sym lo)
      ∙ onset_out (limits_of w) (layout_of w) (changed s (cut v i)) k os (no_marks n) (bars_from w) refl q (omega arith) (omega (arith, h.proper.kept.fitting))))

  pub change_left : (e old : Event) → i < length (voice s v) → t ≡ total (voice s v) - lasts (get_or (voice s v) i old) + lasts e →
      with_other w v j t (stands e) (alters e) (lasts e) ≡ with_onsets (changed s (change v i e)) os
  unfolding with_other
  change_left e old li et =
      let n : ℕ = limit_in w in
      ap (λ x. set (rows_set x (places_from w) n j (stands e) (alters e) (lasts e)) (4 + voices_in w + v) t) as_held
      ∙ change_stored (limits_of w) (layout_of w) s h.proper.kept v i (places_from w) j lv refl ej (onset_rows n os (no_marks n)) e old t li et
