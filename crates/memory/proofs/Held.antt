-- What words that hold a score have where. Assumes nothing.
use Rattle.std.proofs.Common.{◌≡◌, ℕ, suc, ◌+◌, ◌-◌, ◌*◌, ◌<◌, ◌≤◌, true, List, [], ◌∷◌, ◌++◌, map, length, get_or, take, drop, replicate, sum_by, sum, sym, refl, ap, ◌∙◌, subst, ap₂, arith}
use Rattle.std.specs.List.{between}
use Rattle.std.proofs.lemmas.List.{append_assoc, append-nil, length-map, map-append, take-map, get_or-map, get_or-drop, get_or_append_left, get_or-append_right, get_or_past, take-append-le, take_all, take_at, drop_at, drop-drop}
use Rattle.std.proofs.lemmas.List.Sums.{sum-map, sum_by-cons, sum_by-take-le}
use Rattle.score.specs.Music.{Event, silence, lasts, total, fine, all_fine, places, alterations, length_end}
use Rattle.score.specs.Calls.{Limits, Layout, Score, voice, all_events}
use Rattle.score.specs.Promise.{GoodLimits, GoodLayout}
use Rattle.score.specs.Print.{key}
use Rattle.laws.specs.Rows.{event_of, voice_of}
use Rattle.laws.specs.Onsets.{Onset, onsets_of}
use Rattle.laws.proofs.Onsets.{length_onsets}
use Rattle.rows.specs.Rows.{stands, alters}
use Rattle.memory.specs.Store.{spread, flat, all_onsets, counts, ticks, padded, laid, onset_rows, no_marks, stored, voices_in, limit_in, places_from, alterations_from, lengths_from, bars_from, beats_from, signs_from, layout_of, score_of, KeptIn, Kept}
use Rattle.memory.specs.Words.{Holds, onsets_in, events_at, KeptAt, Spans}
use Rattle.memory.proofs.Scores.{fine_fields, fine_at, fine_flat, fines_voice, length_spread, length_flat, voice_le, spread_split}
use Rattle.memory.proofs.Back.{event_back, rows_back, to_places, to_alterations, to_lengths, length_counts, length_ticks, length_region, score_back}
use Rattle.memory.proofs.Stored.{length_all_onsets, length_stored}

pub holds_stored : (l : Limits) (y : Layout) (s : Score) → GoodLimits l → GoodLayout y → Kept l s → Holds (stored l y s)
unfolding stored
holds_stored l y s gl gy k =
    let back = score_back l y s k in
    record {
      is = ap (stored l y) (sym back);
      proper = record { good_limits = gl; good_layout = gy; kept = subst (KeptIn l.voices l.events) (sym back) k; size = length_stored l y s k };
    }

-- ---- sums of counts

pub events_sum : (s : Score) → sum_by length s ≡ all_events s
unfolding all_events
events_sum [] = refl
events_sum (v ∷ vs) = sum_by-cons length v vs ∙ ap (λ n. length v + n) (events_sum vs)

events_take_le : (s : Score) (v : ℕ) → all_events (take v s) ≤ all_events s
events_take_le s v = let a = events_sum (take v s) in let b = events_sum s in omega (arith, sum_by-take-le length s v)

-- ---- a region of n words

-- a part of it
pub part_padded : {X : Type 0} (f : X → ℕ) (n : ℕ) (A V C : List X) (B : List ℕ) → take (length V) (drop (length A) (padded n (map f (A ++ (V ++ C))) ++ B)) ≡ map f V
unfolding padded
part_padded f n A V C B =
    let Z : List ℕ = replicate (n - length (map f (A ++ (V ++ C)))) 0 in
    let e : map f (A ++ (V ++ C)) ≡ map f A ++ (map f V ++ map f C) = map-append f A (V ++ C) ∙ ap (λ w. map f A ++ w) (map-append f V C) in
    let r : ((map f A ++ (map f V ++ map f C)) ++ Z) ++ B ≡ map f A ++ (map f V ++ (map f C ++ (Z ++ B))) = simp append_assoc in
    let d : drop (length A) ((map f (A ++ (V ++ C)) ++ Z) ++ B) ≡ map f V ++ (map f C ++ (Z ++ B)) =
    ap (λ w. drop (length A) ((w ++ Z) ++ B)) e ∙ (ap (λ w. drop (length A) w) r ∙ drop_at (map f A) _ (length A) (length-map A f)) in
    ap (λ w. take (length V) w) d ∙ take_at (map f V) _ (length V) (length-map V f)

-- one word of it
pub region_word : {X : Type 0} (f : X → ℕ) (n : ℕ) (xs : List X) (B : List ℕ) (i : ℕ) (d : X) → i < length xs → get_or (padded n (map f xs) ++ B) i 0 ≡ f (get_or xs i d)
unfolding padded
region_word f n xs B i d lt =
    let l : i < length (map f xs) = rw (length-map xs f) lt in
    ap (λ x. get_or x i 0) (append_assoc (map f xs) _ B) ∙ (get_or_append_left (map f xs) _ 0 i l ∙ get_or-map f xs i d 0 lt)

-- what g has of each voice, one for each of its events
module _ {X : Type 0} (g : List Event → List X) (each : (v : List Event) → length (g v) ≡ length v) where
  -- the part of a region that is a voice's
  region_part : (f : X → ℕ) (n : ℕ) (s : Score) (v : ℕ) (B : List ℕ) → v < length s → take (length (voice s v)) (drop (all_events (take v s)) (padded n (map f (spread g s)) ++ B)) ≡ map f (g (voice s v))
  region_part f n s v B h =
      let V : List X = g (voice s v) in
      let P : List X = spread g (take v s) in
      let a : length P ≡ all_events (take v s) = length_spread g each (take v s) in
      ap₂ (λ i k. take i (drop k (padded n (map f (spread g s)) ++ B))) (sym (each (voice s v))) (sym a)
      ∙ (ap (λ xs. take (length V) (drop (length P) (padded n (map f xs) ++ B))) (spread_split g s v h) ∙ part_padded f n P V (spread g (drop (suc v) s)) B)

  -- what it has of one event
  spread_at : (s : Score) (v i : ℕ) (d : X) → v < length s → i < length (voice s v) → get_or (spread g s) (all_events (take v s) + i) d ≡ get_or (g (voice s v)) i d
  spread_at s v i d lt li =
      let e = length_spread g each (take v s) in
      let z : all_events (take v s) + i - length (spread g (take v s)) ≡ i = omega arith in
      ap (λ x. get_or x (all_events (take v s) + i) d) (spread_split g s v lt)
      ∙ (get_or-append_right (spread g (take v s)) _ (length (spread g (take v s))) (all_events (take v s) + i) d refl (omega arith)
      ∙ (ap (λ j. get_or (g (voice s v) ++ spread g (drop (suc v) s)) j d) z ∙ get_or_append_left (g (voice s v)) _ d i (omega (arith, each (voice s v)))))

rows_of : (es : List Event) → all_fine es ≡ true → voice_of (map stands es) (map alters es) (map lasts es) ≡ es
unfolding voice_of
rows_of es ok =
    let p = append-nil (map stands es) in
    let q = append-nil (map alters es) in
    let r = append-nil (map lasts es) in
    let e = append-nil es in
    let b = rows_back es [] [] [] ok in cc

-- ---- words

module _ (w : List ℕ) (h : Holds w) where
  -- what lies behind the lengths
  abbrev behind : List ℕ
  behind = onset_rows (limit_in w) (all_onsets (layout_of w) (score_of w)) (no_marks (limit_in w))

  body : drop 4 w ≡ laid (limit_in w) (score_of w) behind
  unfolding stored
  body = ap (λ x. drop 4 x) h.is

  from_body : (j : ℕ) → drop (4 + j) w ≡ drop j (laid (limit_in w) (score_of w) behind)
  from_body j = sym (drop-drop j 4 w) ∙ ap (λ x. drop j x) body

  fitting : length (flat (score_of w)) ≤ limit_in w
  fitting = rw (length_flat (score_of w)) h.proper.kept.fitting

  long_counts : length (counts (score_of w)) ≡ voices_in w
  long_counts = length_counts (score_of w) h.proper.kept.so_many fitting

  long_ticks : length (ticks (score_of w)) ≡ voices_in w
  long_ticks = length_ticks (score_of w) h.proper.kept.so_many fitting

  long_region : (f : Event → ℕ) → length (padded (limit_in w) (map f (flat (score_of w)))) ≡ limit_in w
  long_region f = length_region f (limit_in w) (flat (score_of w)) fitting

  long_onsets : (f : Onset → ℕ) → length (padded (limit_in w) (map f (all_onsets (layout_of w) (score_of w)))) ≡ limit_in w
  long_onsets f = length_region f (limit_in w) _ (rw (length_all_onsets (layout_of w) (score_of w)) h.proper.kept.fitting)

  -- of a voice: how many events there are before it and in it, and how long it is

  pub counts_sum : (v : ℕ) → v ≤ voices_in w → sum (between 4 (4 + v) w) ≡ all_events (take v (score_of w))
  counts_sum v le =
      let n : 4 + v - 4 ≡ v = omega arith in
      let c : v ≤ length (counts (score_of w)) = rw long_counts le in
      let front : between 4 (4 + v) w ≡ counts (take v (score_of w)) =
      ap (λ k. take k (drop 4 w)) n ∙ (ap (λ x. take v x) body ∙ (take-append-le v (counts (score_of w)) _ c ∙ take-map length v (score_of w))) in
      ap (λ x. sum x) front ∙ (sum-map length (take v (score_of w)) ∙ events_sum (take v (score_of w)))

  pub few_before : (v : ℕ) → all_events (take v (score_of w)) ≤ limit_in w
  few_before v = omega (arith, events_take_le (score_of w) v, h.proper.kept.fitting)

  pub all_before : all_events (take (voices_in w) (score_of w)) ≡ all_events (score_of w)
  all_before = ap all_events (take_all (voices_in w) (score_of w) (omega (arith, h.proper.kept.so_many)))

  pub count_at : (v : ℕ) → v < voices_in w → get_or w (4 + v) 0 ≡ length (voice (score_of w) v)
  count_at v lt =
      let c : v < length (counts (score_of w)) = rw long_counts lt in
      let c2 : v < length (score_of w) = rw h.proper.kept.so_many lt in
      sym (get_or-drop 4 w v 0) ∙ (ap (λ x. get_or x v 0) body ∙ (get_or_append_left (counts (score_of w)) _ 0 v c ∙ get_or-map length (score_of w) v [] 0 c2))

  pub ticks_at : (v : ℕ) → v < voices_in w → get_or w (4 + voices_in w + v) 0 ≡ total (voice (score_of w) v)
  ticks_at v lt =
      let c : v < length (ticks (score_of w)) = rw long_ticks lt in
      let c2 : v < length (score_of w) = rw h.proper.kept.so_many lt in
      let d : drop (4 + voices_in w) w ≡ ticks (score_of w) ++ _ = from_body (voices_in w) ∙ drop_at (counts (score_of w)) _ (voices_in w) long_counts in
      sym (get_or-drop (4 + voices_in w) w v 0) ∙ (ap (λ x. get_or x v 0) d ∙ (get_or_append_left (ticks (score_of w)) _ 0 v c ∙ get_or-map total (score_of w) v [] 0 c2))

  -- a region of them begins at a word, and has these
  abbrev Region : List ℕ → ℕ → Type 0
  Region xs from = (B : List ℕ) × (drop from w ≡ padded (limit_in w) xs ++ B)

  -- of each event what f has of it, and of where it begins
  abbrev Events : (Event → ℕ) → ℕ → Type 0
  Events f from = Region (map f (flat (score_of w))) from

  abbrev Onsets : (Onset → ℕ) → ℕ → Type 0
  Onsets f from = Region (map f (all_onsets (layout_of w) (score_of w))) from

  -- reached from the words behind the header
  reach : (j : ℕ) (xs B : List ℕ) (from : ℕ) → from ≡ 4 + j → drop j (laid (limit_in w) (score_of w) behind) ≡ padded (limit_in w) xs ++ B → Region xs from
  reach j xs B from e d = (B, ap (λ i. drop i w) e ∙ (from_body j ∙ d))

  -- what lies behind a region
  past : (xs B : List ℕ) (from : ℕ) → drop from w ≡ padded (limit_in w) xs ++ B → length (padded (limit_in w) xs) ≡ limit_in w → drop (from + limit_in w) w ≡ B
  past xs B from d l = sym (drop-drop (limit_in w) from w) ∙ (ap (drop (limit_in w)) d ∙ drop_at (padded (limit_in w) xs) B (limit_in w) l)

  pub places_region : Events stands (places_from w)
  places_region =
      reach (2 * voices_in w) _ _ (places_from w) refl
      (to_places (voices_in w) (limit_in w) (counts (score_of w)) (ticks (score_of w)) _ _ _ long_counts long_ticks (long_region stands) (long_region alters))

  pub alterations_region : Events alters (alterations_from w)
  alterations_region =
      reach (2 * voices_in w + limit_in w) _ _ (alterations_from w) (omega arith)
      (to_alterations (voices_in w) (limit_in w) (counts (score_of w)) (ticks (score_of w)) _ _ _ long_counts long_ticks (long_region stands) (long_region alters))

  lengths_there : drop (lengths_from w) w ≡ padded (limit_in w) (map lasts (flat (score_of w))) ++ behind
  lengths_there =
      let e : lengths_from w ≡ 4 + (2 * voices_in w + limit_in w + limit_in w) = omega arith in
      ap (λ i. drop i w) e
      ∙ (from_body (2 * voices_in w + limit_in w + limit_in w)
      ∙ to_lengths (voices_in w) (limit_in w) (counts (score_of w)) (ticks (score_of w)) _ _ _ long_counts long_ticks (long_region stands) (long_region alters))

  pub lengths_region : Events lasts (lengths_from w)
  lengths_region = (behind, lengths_there)

  bars_there : drop (bars_from w) w ≡ behind
  bars_there = past _ behind (lengths_from w) lengths_there (long_region lasts)

  pub bars_region : Onsets (λ x. x.bar) (bars_from w)
  bars_region = (_, bars_there)

  beats_there : drop (beats_from w) w ≡ padded (limit_in w) (map (λ x. x.tick) (all_onsets (layout_of w) (score_of w))) ++ (padded (limit_in w) (map (λ x. x.sign) (all_onsets (layout_of w) (score_of w))) ++ no_marks (limit_in w))
  beats_there = past _ _ (bars_from w) bars_there (long_onsets (λ x. x.bar))

  pub beats_region : Onsets (λ x. x.tick) (beats_from w)
  beats_region = (_, beats_there)

  pub signs_region : Onsets (λ x. x.sign) (signs_from w)
  signs_region = (no_marks (limit_in w), past _ _ (beats_from w) beats_there (long_onsets (λ x. x.tick)))

  -- the words of a voice's events in a region, and those of one event
  module _ {X : Type 0} (g : List Event → List X) (each : (v : List Event) → length (g v) ≡ length v) (f : X → ℕ) (from v : ℕ) (r : Region (map f (spread g (score_of w))) from) (lv : v < voices_in w) where
    row_of : take (length (voice (score_of w) v)) (drop (from + all_events (take v (score_of w))) w) ≡ map f (g (voice (score_of w) v))
    row_of =
        let c2 : v < length (score_of w) = rw h.proper.kept.so_many lv in
        ap (λ x. take (length (voice (score_of w) v)) x)
        (sym (drop-drop (all_events (take v (score_of w))) from w) ∙ ap (λ x. drop (all_events (take v (score_of w))) x) r.1)
        ∙ region_part g each f (limit_in w) (score_of w) v r.0 c2

    word_of : (i : ℕ) (d : X) → i < length (voice (score_of w) v) → get_or w (from + (all_events (take v (score_of w)) + i)) 0 ≡ f (get_or (g (voice (score_of w) v)) i d)
    word_of i d li =
        let c2 : v < length (score_of w) = rw h.proper.kept.so_many lv in
        let within : all_events (take v (score_of w)) + i < length (spread g (score_of w)) = omega (arith, length_spread g each (score_of w), voice_le (score_of w) v c2) in
        sym (get_or-drop from w _ 0)
        ∙ (ap (λ x. get_or x (all_events (take v (score_of w)) + i) 0) r.1
        ∙ (region_word f (limit_in w) (spread g (score_of w)) r.0 _ d within
        ∙ ap f (spread_at g each (score_of w) v i d c2 li)))

  row_at : (f : Event → ℕ) (from v : ℕ) → Events f from → v < voices_in w → take (length (voice (score_of w) v)) (drop (from + all_events (take v (score_of w))) w) ≡ map f (voice (score_of w) v)
  row_at = row_of (λ v. v) (λ v. refl)

  pub word_at : (f : Event → ℕ) (from v i : ℕ) (d : Event) → Events f from → v < voices_in w → i < length (voice (score_of w) v) → get_or w (from + (all_events (take v (score_of w)) + i)) 0 ≡ f (get_or (voice (score_of w) v) i d)
  word_at f from v i d r lv li = word_of (λ v. v) (λ v. refl) f from v r lv i d li

  -- where a voice's events begin on paper
  each_onset : (v : List Event) → length (onsets_of (layout_of w).in_key (layout_of w).bar_long v) ≡ length v
  each_onset = length_onsets _ _ 0 0 (key (layout_of w).in_key)

  pub onset_row_at : (f : Onset → ℕ) (from v : ℕ) → Onsets f from → v < voices_in w → take (length (voice (score_of w) v)) (drop (from + all_events (take v (score_of w))) w) ≡ map f (onsets_in w v)
  onset_row_at = row_of (onsets_of (layout_of w).in_key (layout_of w).bar_long) each_onset

  pub onset_word_at : (f : Onset → ℕ) (from v i : ℕ) (d : Onset) → Onsets f from → v < voices_in w → i < length (voice (score_of w) v) → get_or w (from + (all_events (take v (score_of w)) + i)) 0 ≡ f (get_or (onsets_in w v) i d)
  onset_word_at f from v i d r lv li = word_of (onsets_of (layout_of w).in_key (layout_of w).bar_long) each_onset f from v r lv i d li

  -- and those of an event by its place among all

  flat_word_at : (f : Event → ℕ) (from i : ℕ) (d : Event) → Events f from → i < all_events (score_of w) → get_or w (from + i) 0 ≡ f (get_or (flat (score_of w)) i d)
  flat_word_at f from i d r li =
      sym (get_or-drop from w i 0) ∙ (ap (λ x. get_or x i 0) r.1 ∙ region_word f (limit_in w) (flat (score_of w)) r.0 i d (rw (length_flat (score_of w)) li))

  pub words_small : (i : ℕ) → i < all_events (score_of w) →
      (get_or w (places_from w + i) 0 ≤ places) × (get_or w (alterations_from w + i) 0 < alterations) × (get_or w (lengths_from w + i) 0 < length_end)
  words_small i li =
      let e : Event = get_or (flat (score_of w)) i (silence 0) in
      let f = fine_fields e (fine_at (flat (score_of w)) i (silence 0) (rw (length_flat (score_of w)) li) (fine_flat (score_of w) h.proper.kept.fines)) in
      let p = flat_word_at stands (places_from w) i (silence 0) places_region li in
      let a = flat_word_at alters (alterations_from w) i (silence 0) alterations_region li in
      let t = flat_word_at lasts (lengths_from w) i (silence 0) lengths_region li in
      (omega (arith, f.0), omega (arith, f.1), omega (arith, f.3))

  -- a voice that is there

  pub voice_fine : (v : ℕ) → all_fine (voice (score_of w) v) ≡ true
  voice_fine v = fines_voice (score_of w) v h.proper.kept.fines

  pub within_limit : (v : ℕ) → v < voices_in w → all_events (take v (score_of w)) + length (voice (score_of w) v) ≤ limit_in w
  within_limit v lt =
      let c2 : v < length (score_of w) = rw h.proper.kept.so_many lt in
      omega (arith, voice_le (score_of w) v c2, h.proper.kept.fitting)

  pub events_there : (v begin count : ℕ) → v < voices_in w → begin ≡ all_events (take v (score_of w)) → count ≡ length (voice (score_of w) v) → events_at w begin count ≡ voice (score_of w) v
  events_there v begin count lt eb ec =
      let p = row_at stands (places_from w) v places_region lt in
      let q = row_at alters (alterations_from w) v alterations_region lt in
      let r = row_at lasts (lengths_from w) v lengths_region lt in
      let b = rows_of (voice (score_of w) v) (voice_fine v) in
      ap (λ i. events_at w i count) eb ∙ (ap (λ n. events_at w (all_events (take v (score_of w))) n) ec ∙ (cc))

  pub kept_there : (v begin count : ℕ) → v < voices_in w → begin ≡ all_events (take v (score_of w)) → count ≡ length (voice (score_of w) v) → KeptAt w begin count
  kept_there v begin count lt eb ec =
      let e = events_there v begin count lt eb ec in
      let K : ℕ = (layout_of w).in_key in
      let B : ℕ = (layout_of w).bar_long in
      let row : (f : Onset → ℕ) (from : ℕ) → Onsets f from → take count (drop (from + begin) w) ≡ map f (onsets_of K B (events_at w begin count)) =
      λ f from r. ap₂ (λ i j. take i (drop (from + j) w)) ec eb ∙ (onset_row_at f from v r lt ∙ ap (λ es. map f (onsets_of K B es)) (sym e)) in
      record { bars = row (λ x. x.bar) (bars_from w) bars_region; beats = row (λ x. x.tick) (beats_from w) beats_region; signs = row (λ x. x.sign) (signs_from w) signs_region }

  pub spans : (v begin count : ℕ) → v < voices_in w → begin ≡ all_events (take v (score_of w)) → count ≡ get_or w (4 + v) 0 → Spans w v begin count
  spans v begin count lt eb ec =
      let ec2 : count ≡ length (voice (score_of w) v) = ec ∙ count_at v lt in
      record {
        there = lt;
        begins = eb;
        counts = ec2;
        within = omega (arith, within_limit v lt);
        events = events_there v begin count lt eb ec2;
        kept_with = kept_there v begin count lt eb ec2;
      }

  -- one that is not there has no events
  pub no_voice : (v : ℕ) → voices_in w ≤ v → length (voice (score_of w) v) ≡ 0
  no_voice v le = ap length (get_or_past (score_of w) v [] (omega (arith, h.proper.kept.so_many)))

  pub place_within : (v i : ℕ) → v < voices_in w → i < length (voice (score_of w) v) → all_events (take v (score_of w)) + i < all_events (score_of w)
  place_within v i lv li =
      let c2 : v < length (score_of w) = rw h.proper.kept.so_many lv in
      omega (arith, voice_le (score_of w) v c2)

  pub gap_within : (v i : ℕ) → v < voices_in w → i ≤ length (voice (score_of w) v) → all_events (take v (score_of w)) + i ≤ all_events (score_of w)
  gap_within v i lv li =
      let c2 : v < length (score_of w) = rw h.proper.kept.so_many lv in
      omega (arith, voice_le (score_of w) v c2)

  -- and one of its events
  module _ (v i : ℕ) (d : Event) (lv : v < voices_in w) (li : i < length (voice (score_of w) v)) where
    abbrev E : Event
    E = get_or (voice (score_of w) v) i d

    pub event_fine : fine E ≡ true
    event_fine = fine_at (voice (score_of w) v) i d li (voice_fine v)

    pub event_there : (at : ℕ) → at ≡ all_events (take v (score_of w)) + i →
        event_of (get_or w (places_from w + at) 0) (get_or w (alterations_from w + at) 0) (get_or w (lengths_from w + at) 0) ≡ E
    event_there at e =
        let p = word_at stands (places_from w) v i d places_region lv li in
        let a = word_at alters (alterations_from w) v i d alterations_region lv li in
        let t = word_at lasts (lengths_from w) v i d lengths_region lv li in
        let b = event_back E event_fine in
        ap (λ j. event_of (get_or w (places_from w + j) 0) (get_or w (alterations_from w + j) 0) (get_or w (lengths_from w + j) 0)) e ∙ (cc)

    pub length_there : (at : ℕ) → at ≡ all_events (take v (score_of w)) + i → get_or w (lengths_from w + at) 0 ≡ lasts E
    length_there at e = ap (λ j. get_or w (lengths_from w + j) 0) e ∙ word_at lasts (lengths_from w) v i d lengths_region lv li
