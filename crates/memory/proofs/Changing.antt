-- In the middle of a change: the score is the one that the change leaves, and what is kept with its events is still to be derived anew. Assumes nothing.
use Rattle.std.proofs.Common.{◌≡◌, ℕ, suc, ◌+◌, ◌-◌, ◌<◌, ◌≤◌, true, ◌⊎◌, List, [], ◌∷◌, ◌++◌, length, get_or, take, drop, set, sym, refl, ap, ◌∙◌, subst, ap₂, inl, inr, arith}
use Rattle.std.specs.List.{insert, remove}
use Rattle.std.proofs.lemmas.List.{length-append, length-set, length-replicate, take-append-le, take-take, take-set, drop_all, drop-set-lt, length-take-le, get_or-set_same}
use Rattle.std.proofs.lemmas.List.Edits.{length-insert, length-remove}
use Rattle.score.specs.Music.{Event, fine, lasts, total}
use Rattle.score.specs.Print.{key}
use Rattle.score.specs.Calls.{Call, put, cut, change, Limits, Layout, Score, voice, all_events, ticks_end, changed}
use Rattle.score.specs.Promise.{GoodLimits, GoodLayout}
use Rattle.laws.specs.Onsets.{Onset, onsets_of}
use Rattle.laws.proofs.Onsets.{length_onsets}
use Rattle.laws.proofs.Reaching.{no_onset, onsets_take, same_behind}
use Rattle.rows.specs.Rows.{stands, alters}
use Rattle.memory.specs.Store.{all_onsets, onset_rows, no_marks, marks_asked, headed, stored, voices_in, limit_in, limits_of, layout_of, score_of, KeptIn, Kept}
use Rattle.memory.specs.Words.{Holds, kept_anew, onsets_with, Stale, Lies, Between, Spans}
use Rattle.memory.specs.Moves.{with_event, without_event, with_other}
use Rattle.memory.proofs.Scores.{fine_flat, length_flat, voice_le, spread_split}
use Rattle.memory.proofs.Back.{parted_back}
use Rattle.memory.proofs.Stored.{length_all_onsets, length_headed}
use Rattle.memory.proofs.Changes.{inserted_among, removed_among}
use Rattle.memory.proofs.Outcomes.{Done, put_done, cut_done, change_done}
use Rattle.memory.proofs.Left.{put_left, cut_left, change_left}

-- ---- the parts of a row before and behind what comes in, goes out or becomes another

module _ {X : Type 0} (V : List X) (i k : ℕ) (le : i ≤ k) (lk : k ≤ length V) where
  before : (xs : List X) → take i (take k V ++ xs) ≡ take i V
  before xs = take-append-le i (take k V) xs (omega (arith, length-take-le k V lk)) ∙ take-take i k V le

  pub take_inserted : (x : X) → take i (insert V k x) ≡ take i V
  take_inserted x = before (x ∷ drop k V)

  pub take_removed : take i (remove V k) ≡ take i V
  take_removed = before (drop (suc k) V)

-- ---- words in the middle of a change

module _ (l : Limits) (y : Layout) (s : Score) (gl : GoodLimits l) (gy : GoodLayout y) (k : Kept l s) where
  pub headed_back : (R : List ℕ) → score_of (headed l y s R) ≡ s
  headed_back R = parted_back s k.so_many (rw (length_flat s) k.fitting) R (fine_flat s k.fines)

  pub headed_anew : (R : List ℕ) → kept_anew (headed l y s R) ≡ stored l y s
  unfolding stored
  headed_anew R = ap (stored l y) (headed_back R)

  -- there are not more of them
  pub length_with : (v : ℕ) (old : List Onset) → v < l.voices → length old ≡ length (voice s v) → length (onsets_with y s v old) ≤ l.events
  length_with v old lv many =
      let c : v < length s = rw k.so_many lv in
      let parts = ap length (spread_split (onsets_of y.in_key y.bar_long) s v c) in
      let whole = length_all_onsets y s in
      let each = length_onsets y.in_key y.bar_long 0 0 (key y.in_key) (voice s v) in
      let f = k.fitting in
      rw (length-append (all_onsets y (take v s)) (old ++ all_onsets y (drop (suc v) s)), length-append old (all_onsets y (drop (suc v) s)))
      (omega (arith, sym parts ∙ whole, length-append (all_onsets y (take v s)) (onsets_of y.in_key y.bar_long (voice s v) ++ all_onsets y (drop (suc v) s)), length-append (onsets_of y.in_key y.bar_long (voice s v)) (all_onsets y (drop (suc v) s))))

  -- onsets of voice v that are right before `from` and from `to` on
  pub stale_headed : (v from to : ℕ) (old : List Onset) (ms : List ℕ) → v < l.voices → length old ≡ length (voice s v) → length ms ≡ marks_asked l.events →
      take from old ≡ take from (onsets_of y.in_key y.bar_long (voice s v)) → drop to old ≡ drop to (onsets_of y.in_key y.bar_long (voice s v)) →
      Stale (headed l y s (onset_rows l.events (onsets_with y s v old) ms)) v from to ms
  stale_headed v from to old ms lv many lm front back =
      let w : List ℕ = headed l y s (onset_rows l.events (onsets_with y s v old) ms) in
      let b = sym (headed_back (onset_rows l.events (onsets_with y s v old) ms)) in
      record {
        old = old;
        is = ap (λ t. headed l y t (onset_rows l.events (onsets_with y t v old) ms)) b;
        many = subst (λ t. length old ≡ length (voice t v)) b many;
        front = subst (λ t. take from old ≡ take from (onsets_of y.in_key y.bar_long (voice t v))) b front;
        back = subst (λ t. drop to old ≡ drop to (onsets_of y.in_key y.bar_long (voice t v))) b back;
        there = lv;
        proper = record {
          good_limits = gl;
          good_layout = gy;
          kept = subst (KeptIn l.voices l.events) b k;
          size = length_headed l y s k (onsets_with y s v old) ms (length_with v old lv many) lm;
        };
      }

-- ---- by the calls

-- voice v becomes V, and what is kept of it is `old`
module _ (w : List ℕ) (h : Holds w) (c : Call) (v : ℕ) (lv : v < voices_in w) (V : List Event) (d : Done w c) (ec : changed (score_of w) c ≡ set (score_of w) v V) where
  abbrev Y : Layout
  Y = layout_of w

  in_score : v < length (score_of w)
  in_score = rw h.proper.kept.so_many lv

  voice_is : voice (changed (score_of w) c) v ≡ V
  voice_is = ap (λ t. voice t v) ec ∙ get_or-set_same (score_of w) v V [] in_score

  before_is : take v (changed (score_of w) c) ≡ take v (score_of w)
  before_is = ap (take v) ec ∙ take-set (score_of w) v V

  behind_is : drop (suc v) (changed (score_of w) c) ≡ drop (suc v) (score_of w)
  behind_is = ap (drop (suc v)) ec ∙ drop-set-lt (suc v) (score_of w) v V (omega arith)

  between : (x : List ℕ) (from to begin count : ℕ) (old os : List Onset) →
      x ≡ headed (limits_of w) Y (changed (score_of w) c) (onset_rows (limit_in w) os (no_marks (limit_in w))) → os ≡ onsets_with Y (score_of w) v old → length old ≡ length V →
      take from old ≡ take from (onsets_of Y.in_key Y.bar_long V) → drop to old ≡ drop to (onsets_of Y.in_key Y.bar_long V) →
      begin ≡ all_events (take v (score_of w)) → count ≡ length V → Between w c x begin count from to
  between x from to begin count old os ex eo many front back eb en =
      let S : Score = changed (score_of w) c in
      let n : ℕ = limit_in w in
      let R : List ℕ = onset_rows n (onsets_with Y S v old) (no_marks n) in
      let same : os ≡ onsets_with Y S v old = eo ∙ ap₂ (λ a b. all_onsets Y a ++ (old ++ all_onsets Y b)) (sym before_is) (sym behind_is) in
      let e : headed (limits_of w) Y S R ≡ x = sym (ex ∙ ap (λ o. headed (limits_of w) Y S (onset_rows n o (no_marks n))) same) in
      let back_is = headed_back (limits_of w) Y S h.proper.good_limits h.proper.good_layout d.kept R in
      let stays = stale_headed (limits_of w) Y S h.proper.good_limits h.proper.good_layout d.kept v from to old (no_marks n) lv (many ∙ sym (ap length voice_is)) (length-replicate {A = ℕ} (marks_asked n) 0)
      (front ∙ ap (λ u. take from (onsets_of Y.in_key Y.bar_long u)) (sym voice_is)) (back ∙ ap (λ u. drop to (onsets_of Y.in_key Y.bar_long u)) (sym voice_is)) in
      let where_is : Lies (headed (limits_of w) Y S R) v begin count = record {
        begins = eb ∙ (ap all_events (sym before_is) ∙ ap (λ t. all_events (take v t)) (sym back_is));
        counts = en ∙ (ap length (sym voice_is) ∙ ap (λ t. length (voice t v)) (sym back_is));
      } in
      subst (λ z. Between w c z begin count from to) e (record {
        unkept = record { voice_number = v; stale = stays; lies = where_is };
        anew = headed_anew (limits_of w) Y S h.proper.good_limits h.proper.good_layout d.kept R ∙ sym d.left;
      })

-- v is a voice of the score, i an index in it, j the place of the event in each region, and t how long the voice is then
module _ (w : List ℕ) (h : Holds w) (v i j t begin count : ℕ) (lv : v < voices_in w) (sp : Spans w v begin count) (ej : j ≡ begin + i) where
  abbrev S : Score
  S = score_of w

  abbrev V : List Event
  V = voice (score_of w) v

  abbrev K : ℕ
  K = (layout_of w).in_key

  abbrev B : ℕ
  B = (layout_of w).bar_long

  abbrev A : List Onset
  A = all_onsets (layout_of w) (take v (score_of w))

  abbrev C : List Onset
  C = all_onsets (layout_of w) (drop (suc v) (score_of w))

  split : all_onsets (layout_of w) S ≡ A ++ (onsets_of K B V ++ C)
  split = spread_split (onsets_of K B) S v (rw h.proper.kept.so_many lv)

  begin_is : begin ≡ length A
  begin_is = omega (arith, length_all_onsets (layout_of w) (take v S), sp.begins)

  in_all : begin + count ≤ all_events S
  in_all = omega (arith, voice_le S v (rw h.proper.kept.so_many lv), sp.begins, sp.counts)

  place_is : j ≡ all_events (take v S) + i
  place_is = omega (arith, sp.begins)

  as_many : length (onsets_of K B V) ≡ length V
  as_many = length_onsets K B 0 0 (key K) V

  -- the onsets before the event are those of the events before it
  front_is : (U : List Event) → take i U ≡ take i V → take i (onsets_of K B U) ≡ take i (onsets_of K B V)
  front_is U e = onsets_take K B U i 0 0 (key K) ∙ (ap (onsets_of K B) e ∙ sym (onsets_take K B V i 0 0 (key K)))

  -- behind the last there are none
  none_behind : (os ps : List Onset) (to : ℕ) → length os ≤ to → length ps ≤ to → drop to os ≡ drop to ps
  none_behind os ps to lo lp = drop_all to os lo ∙ sym (drop_all to ps lp)

  pub put_between : (e : Event) (u : ℕ) → fine e ≡ true → i ≤ count → all_events S < limit_in w → t < ticks_end → u ≡ all_events S → t ≡ total V + lasts e →
      Between w (put v i e) (with_event w v u j (begin + count) t (stands e) (alters e) (lasts e)) begin (count + 1) i (count + 1)
  unfolding changed
  put_between e u ok li room short eu et =
      let d = put_done w h v i e ok lv (omega (arith, sp.counts)) room (omega arith) in
      let lo = as_many in
      let ln = length-insert V i e (omega (arith, sp.counts)) in
      let lm = length-insert (onsets_of K B V) count no_onset (omega (arith, sp.counts)) in
      let lx = length_onsets K B 0 0 (key K) (insert V i e) in
      between w h (put v i e) v lv (insert V i e) d refl _ i (count + 1) begin (count + 1) (insert (onsets_of K B V) count no_onset) (insert (all_onsets (layout_of w) S) (begin + count) no_onset)
      (put_left w h v i j t lv place_is e u (begin + count) (omega (arith, sp.counts)) (omega (arith, in_all)) (omega (arith, in_all)) room eu et d.kept)
      (ap (λ os. insert os (begin + count) no_onset) split ∙ inserted_among A (onsets_of K B V) C count (begin + count) (omega (arith, begin_is)) no_onset (omega (arith, sp.counts)))
      (omega arith)
      (take_inserted (onsets_of K B V) i count li (omega (arith, sp.counts)) no_onset ∙ sym (front_is (insert V i e) (take_inserted V i i (omega arith) (omega (arith, sp.counts)) e)))
      (none_behind _ _ (count + 1) (omega (arith, sp.counts)) (omega (arith, sp.counts)))
      sp.begins (omega (arith, sp.counts))

  pub cut_between : (old : Event) (u : ℕ) → i < count → u ≡ all_events S → t ≡ total V - lasts (get_or V i old) →
      Between w (cut v i) (without_event w v u j (begin + (count - 1)) t) begin (count - 1) i (count - 1)
  unfolding changed
  cut_between old u li eu et =
      let d = cut_done w h v i lv (omega (arith, sp.counts)) in
      let lo = as_many in
      let ln = length-remove V i (omega (arith, sp.counts)) in
      let lm = length-remove (onsets_of K B V) (count - 1) (omega (arith, sp.counts)) in
      let lx = length_onsets K B 0 0 (key K) (remove V i) in
      between w h (cut v i) v lv (remove V i) d refl _ i (count - 1) begin (count - 1) (remove (onsets_of K B V) (count - 1)) (remove (all_onsets (layout_of w) S) (begin + (count - 1)))
      (cut_left w h v i j t lv place_is old u (begin + (count - 1)) (omega (arith, sp.counts)) (omega (arith, in_all)) (omega (arith, in_all)) eu et d.kept)
      (ap (λ os. remove os (begin + (count - 1))) split ∙ removed_among A (onsets_of K B V) C (count - 1) (begin + (count - 1)) (omega (arith, begin_is)) no_onset (omega (arith, sp.counts)))
      (omega arith)
      (take_removed (onsets_of K B V) i (count - 1) (omega arith) (omega (arith, sp.counts)) ∙ sym (front_is (remove V i) (take_removed V i i (omega arith) (omega (arith, sp.counts)))))
      (none_behind _ _ (count - 1) (omega (arith, sp.counts)) (omega (arith, sp.counts)))
      sp.begins (omega (arith, sp.counts))

  -- a change reaches the voice from there on, or, if it is as long as what was there, up to the first event that begins in another bar
  pub change_between : (e old : Event) (to : ℕ) → fine e ≡ true → i < count → t < ticks_end → t ≡ total V - lasts (get_or V i old) + lasts e →
      (count ≤ to) ⊎ ((lasts e ≡ lasts (get_or V i old)) × (i < to) × ((get_or (onsets_of K B V) to no_onset).bar ≡ (get_or (onsets_of K B V) i no_onset).bar → ⊥)) →
      Between w (change v i e) (with_other w v j t (stands e) (alters e) (lasts e)) begin count i to
  unfolding changed
  change_between e old to ok li short et reach =
      let d = change_done w h v i e old ok lv (omega (arith, sp.counts)) (omega arith) in
      let lo = as_many in
      let ln = length-set V i e in
      between w h (change v i e) v lv (set V i e) d refl _ i to begin count (onsets_of K B V) (all_onsets (layout_of w) S)
      (change_left w h v i j t lv place_is e old (omega (arith, sp.counts)) et)
      split
      (omega arith)
      (sym (front_is (set V i e) (take-set V i e)))
      (go reach)
      sp.begins (omega (arith, sp.counts))
    where
      go : (count ≤ to) ⊎ ((lasts e ≡ lasts (get_or V i old)) × (i < to) × ((get_or (onsets_of K B V) to no_onset).bar ≡ (get_or (onsets_of K B V) i no_onset).bar → ⊥)) →
          drop to (onsets_of K B V) ≡ drop to (onsets_of K B (set V i e))
      go (inl q) = none_behind _ _ to (omega (arith, as_many, sp.counts)) (omega (arith, length_onsets K B 0 0 (key K) (set V i e), length-set V i e, sp.counts))
      go (inr q) = sym (same_behind K B V i to 0 0 (key K) old e (omega (arith, sp.counts)) q.0 q.1 (inr q.2))
