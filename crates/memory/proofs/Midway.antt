-- What words have where that are in the middle of a change: the events as they are then, and the onsets as they were. Assumes nothing.
use Rattle.std.proofs.Common.{◌≡◌, ℕ, suc, ◌+◌, ◌-◌, ◌<◌, ◌≤◌, List, [], ◌++◌, map, length, get_or, take, drop, sym, refl, ap, ◌∙◌, subst, ap₂, arith}
use Rattle.std.proofs.lemmas.List.{length-append, drop_at, drop-drop, get_or-drop, get_or_append_left, get_or-append_right}
use Rattle.score.specs.Music.{Event, silence, places, alterations, length_end}
use Rattle.score.specs.Calls.{Score, voice, all_events}
use Rattle.laws.specs.Rows.{event_of}
use Rattle.laws.specs.Onsets.{Onset}
use Rattle.laws.proofs.Reaching.{no_onset}
use Rattle.memory.specs.Store.{all_onsets, padded, onset_rows, headed, stored, limit_in, places_from, alterations_from, lengths_from, bars_from, beats_from, signs_from, marks_from, limits_of, layout_of, score_of}
use Rattle.memory.specs.Words.{Holds, kept_anew, onsets_with, Stale, Lies}
use Rattle.memory.proofs.Scores.{voice_le}
use Rattle.memory.proofs.Back.{length_region, score_back}
use Rattle.memory.proofs.Stored.{length_all_onsets}
use Rattle.memory.proofs.Held.{holds_stored, part_padded, region_word, event_there, words_small}
use Rattle.memory.proofs.Edited.{headed_front, length_front}
use Rattle.memory.proofs.Changing.{length_with}

module _ (w : List ℕ) (v from to : ℕ) (ms : List ℕ) (z : Stale w v from to ms) where
  abbrev S : Score
  S = score_of w

  abbrev V : List Event
  V = voice (score_of w) v

  in_score : v < length S
  in_score = rw z.proper.kept.so_many z.there

  pub anew_holds : Holds (kept_anew w)
  anew_holds = holds_stored (limits_of w) (layout_of w) S z.proper.good_limits z.proper.good_layout z.proper.kept

  anew_score : score_of (kept_anew w) ≡ S
  anew_score = score_back (limits_of w) (layout_of w) S z.proper.kept

  -- ---- the events lie as in words that hold the score

  front_long : length (headed (limits_of w) (layout_of w) S []) ≡ bars_from w
  front_long = length_front (limits_of w) (layout_of w) S z.proper.kept

  alike : (i : ℕ) → i < bars_from w → get_or (kept_anew w) i 0 ≡ get_or w i 0
  unfolding stored
  alike i lt =
      let F : List ℕ = headed (limits_of w) (layout_of w) S [] in
      let l : i < length F = rw front_long lt in
      let one : (R : List ℕ) → get_or (headed (limits_of w) (layout_of w) S R) i 0 ≡ get_or F i 0 = λ R. ap (λ x. get_or x i 0) (sym (headed_front (limits_of w) (layout_of w) S R)) ∙ get_or_append_left F R 0 i l in
      one _ ∙ sym (ap (λ x. get_or x i 0) z.is ∙ one _)

  module _ (i at : ℕ) (li : i < length V) (ea : at ≡ all_events (take v S) + i) where
    at_small : at < limit_in w
    at_small = omega (arith, voice_le S v in_score, z.proper.kept.fitting)

    pub event_midway : event_of (get_or w (places_from w + at) 0) (get_or w (alterations_from w + at) 0) (get_or w (lengths_from w + at) 0) ≡ get_or V i (silence 0)
    unfolding stored
    event_midway =
        let there : i < length (voice (score_of (kept_anew w)) v) = subst (λ s. i < length (voice s v)) (sym anew_score) li in
        let placed : at ≡ all_events (take v (score_of (kept_anew w))) + i = subst (λ s. at ≡ all_events (take v s) + i) (sym anew_score) ea in
        let p = alike (places_from w + at) (omega (arith, at_small)) in
        let a = alike (alterations_from w + at) (omega (arith, at_small)) in
        let d = alike (lengths_from w + at) (omega (arith, at_small)) in
        let e = event_there (kept_anew w) anew_holds v i (silence 0) z.there there at placed in
        sym (ap (λ x. event_of x (get_or (kept_anew w) (alterations_from w + at) 0) (get_or (kept_anew w) (lengths_from w + at) 0)) p
        ∙ ap₂ (λ x y. event_of (get_or w (places_from w + at) 0) x y) a d)
        ∙ (e ∙ ap (λ s. get_or (voice s v) i (silence 0)) anew_score)

    pub words_midway : (get_or w (places_from w + at) 0 ≤ places) × (get_or w (alterations_from w + at) 0 < alterations) × (get_or w (lengths_from w + at) 0 < length_end)
    unfolding stored
    words_midway =
        let among : at < all_events (score_of (kept_anew w)) = subst (λ s. at < all_events s) (sym anew_score) (omega (arith, voice_le S v in_score)) in
        let s = words_small (kept_anew w) anew_holds at among in
        let p = alike (places_from w + at) (omega (arith, at_small)) in
        let a = alike (alterations_from w + at) (omega (arith, at_small)) in
        let d = alike (lengths_from w + at) (omega (arith, at_small)) in
        (omega (arith, s.0, p), omega (arith, s.1, a), omega (arith, s.2, d))

  -- ---- the onsets are those of before

  abbrev all : List Onset
  all = onsets_with (layout_of w) (score_of w) v z.old

  abbrev A : List Onset
  A = all_onsets (layout_of w) (take v (score_of w))

  long_all : length all ≤ limit_in w
  long_all = length_with (limits_of w) (layout_of w) S z.proper.good_limits z.proper.good_layout z.proper.kept v z.old z.there z.many

  bars_there : drop (bars_from w) w ≡ onset_rows (limit_in w) all ms
  bars_there =
      ap (drop (bars_from w)) (z.is ∙ sym (headed_front (limits_of w) (layout_of w) S (onset_rows (limit_in w) all ms)))
      ∙ drop_at (headed (limits_of w) (layout_of w) S []) (onset_rows (limit_in w) all ms) (bars_from w) front_long

  beats_there : drop (beats_from w) w ≡ padded (limit_in w) (map (λ x. x.tick) all) ++ (padded (limit_in w) (map (λ x. x.sign) all) ++ ms)
  beats_there = sym (drop-drop (limit_in w) (bars_from w) w) ∙ (ap (drop (limit_in w)) bars_there ∙ drop_at (padded (limit_in w) (map (λ x. x.bar) all)) _ (limit_in w) (length_region (λ x. x.bar) (limit_in w) all long_all))

  pub bars_midway : (begin count : ℕ) → Lies w v begin count → take count (drop (bars_from w + begin) w) ≡ map (λ x. x.bar) z.old
  bars_midway begin count lies =
      let eb : begin ≡ length A = lies.begins ∙ sym (length_all_onsets (layout_of w) (take v S)) in
      let ec : count ≡ length z.old = lies.counts ∙ sym z.many in
      ap (take count) (sym (drop-drop begin (bars_from w) w) ∙ ap (drop begin) bars_there)
      ∙ (ap₂ (λ i j. take i (drop j (onset_rows (limit_in w) all ms))) ec eb ∙ part_padded (λ x. x.bar) (limit_in w) A z.old _ _)

  onset_at : (i at : ℕ) → i < length V → at ≡ all_events (take v S) + i → (at < length all) × (get_or all at no_onset ≡ get_or z.old i no_onset)
  onset_at i at li ea =
      let la = length_all_onsets (layout_of w) (take v S) in
      let m : i < length z.old = omega (arith, z.many, li) in
      let k : at - length A ≡ i = omega arith in (
        rw (length-append A (z.old ++ all_onsets (layout_of w) (drop (suc v) S)), length-append z.old (all_onsets (layout_of w) (drop (suc v) S))) (omega arith),
        get_or-append_right A _ (length A) at no_onset refl (omega arith) ∙ (ap (λ j. get_or (z.old ++ all_onsets (layout_of w) (drop (suc v) S)) j no_onset) k ∙ get_or_append_left z.old _ no_onset i m),
      )

  pub onset_midway : (i at : ℕ) → i < length V → at ≡ all_events (take v S) + i →
      (get_or w (bars_from w + at) 0 ≡ (get_or z.old i no_onset).bar) × (get_or w (beats_from w + at) 0 ≡ (get_or z.old i no_onset).tick)
  onset_midway i at li ea =
      let o = onset_at i at li ea in (
        sym (get_or-drop (bars_from w) w at 0) ∙ (ap (λ x. get_or x at 0) bars_there ∙ (region_word (λ x. x.bar) (limit_in w) all _ at no_onset o.0 ∙ ap (λ x. x.bar) o.1)),
        sym (get_or-drop (beats_from w) w at 0) ∙ (ap (λ x. get_or x at 0) beats_there ∙ (region_word (λ x. x.tick) (limit_in w) all _ at no_onset o.0 ∙ ap (λ x. x.tick) o.1)),
      )

  -- ---- and the marks are behind them

  pub marks_midway : drop (marks_from w) w ≡ ms
  marks_midway =
      let signs : drop (signs_from w) w ≡ padded (limit_in w) (map (λ x. x.sign) all) ++ ms =
      sym (drop-drop (limit_in w) (beats_from w) w) ∙ (ap (drop (limit_in w)) beats_there ∙ drop_at (padded (limit_in w) (map (λ x. x.tick) all)) _ (limit_in w) (length_region (λ x. x.tick) (limit_in w) all long_all)) in
      sym (drop-drop (limit_in w) (signs_from w) w) ∙ (ap (drop (limit_in w)) signs ∙ drop_at (padded (limit_in w) (map (λ x. x.sign) all)) ms (limit_in w) (length_region (λ x. x.sign) (limit_in w) all long_all))
