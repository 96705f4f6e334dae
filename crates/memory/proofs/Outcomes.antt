-- What becomes of a put, a cut, a change and a question, by what is found in the score. Assumes nothing.
use Rattle.std.proofs.Common.{◌≡◌, ℕ, ◌+◌, ◌-◌, ◌<◌, ◌≤◌, Bool, true, false, ◌&&◌, eqb, ltb, leb, List, length, get_or, sym, refl, ap, ◌∙◌, arith}
use Rattle.std.specs.List.{remove}
use Rattle.std.proofs.lemmas.Bool.{and_from, and_left, and_right, lt-ltb, le-ltb, ltb-true, leb-true, le-leb, lt-leb, eq-eqb, ne_eqb}
use Rattle.score.specs.Music.{pick, Event, note, silence, fine, lasts, total}
use Rattle.score.specs.Calls.{Call, put, cut, change, show, heard_in, how_long, most_bars, widest_span, refused, Score, voice, all_events, none_too_long, ticks_end, call_number, good_fields, good_call, fits, turned_by, turned, changed, told, place}
use Rattle.score.proofs.Picks.{pick_true, pick_false}
use Rattle.memory.specs.Store.{stored, voices_in, limit_in, limits_of, layout_of, score_of, Kept}
use Rattle.memory.specs.Words.{Holds, turned_in, turned_at, answer_by, answer_at, words_by, next_words}
use Rattle.memory.proofs.Scores.{short_voice}
use Rattle.memory.proofs.Run.{kept_changed, kept_after}
use Rattle.memory.proofs.Held.{holds_stored}
use Rattle.memory.proofs.Changes.{total_put, short_set, events_put, events_cut, total_less, events_change, total_else}

-- ---- of any call

-- it is turned away under a number, and leaves the words as they were
pub record Away (w : List ℕ) (c : Call) (n : ℕ) : Type 0 where
  pub said : answer_at w c ≡ refused n (place c n)
  pub left : next_words w c ≡ w

-- it is done
pub record Done (w : List ℕ) (c : Call) : Type 0 where
  pub said : answer_at w c ≡ told (layout_of w) (score_of w) c
  pub left : next_words w c ≡ stored (limits_of w) (layout_of w) (changed (score_of w) c)
  pub kept : Kept (limits_of w) (changed (score_of w) c)
  pub holds : Holds (next_words w c)

module _ (w : List ℕ) (h : Holds w) (c : Call) where
  pub holds_next : Holds (next_words w c)
  unfolding words_by
  holds_next = holds_stored (limits_of w) (layout_of w) _ h.proper.good_limits h.proper.good_layout (kept_after (limits_of w) (layout_of w) (score_of w) c h.proper.kept)

  pub away : (n : ℕ) → turned_at w c ≡ n → 0 < n → Away w c n
  unfolding words_by answer_by turned_in
  away n e lt =
      let off : eqb (turned (limits_of w) (layout_of w) (score_of w) c) 0 ≡ false = ne_eqb _ 0 (λ z. omega (arith, e, z)) in
      record {
        said = pick_false _ _ _ off ∙ ap (λ m. refused m (place c m)) e;
        left = ap (stored (limits_of w) (layout_of w)) (pick_false _ _ _ off) ∙ sym h.is;
      }

  pub done : turned_at w c ≡ 0 → Done w c
  unfolding words_by answer_by turned_in
  done e =
      let on : eqb (turned (limits_of w) (layout_of w) (score_of w) c) 0 ≡ true = eq-eqb _ 0 e in
      record {
        said = pick_true _ _ _ on;
        left = ap (stored (limits_of w) (layout_of w)) (pick_true _ _ _ on);
        kept = kept_changed (limits_of w) (layout_of w) (score_of w) c h.proper.kept e;
        holds = holds_next;
      }

-- ---- of a call with an event's or a voice's fields, a voice, an event and room, each of which may be wanting

module _ (w : List ℕ) (h : Holds w) (c : Call) (fine_fields there found fits_in : Bool)
    (eg : good_call (limits_of w) (layout_of w) c ≡ fine_fields)
    (et : turned_by (score_of w) c ≡ pick there (pick found 0 5) 4)
    (ef : there ≡ true → found ≡ true → fits (limits_of w) (changed (score_of w) c) ≡ fits_in) where
  turned_is : turned_at w c ≡ pick fine_fields (pick there (pick found (pick fits_in 0 6) 5) 4) 2
  unfolding turned_in
  turned_is =
      ap (λ g. pick g (pick (eqb (turned_by (score_of w) c) 0) (pick (fits (limits_of w) (changed (score_of w) c)) 0 6) (turned_by (score_of w) c)) 2) eg
      ∙ (ap (λ t. pick fine_fields (pick (eqb t 0) (pick (fits (limits_of w) (changed (score_of w) c)) 0 6) t) 2) et
      ∙ join fine_fields there found (fits (limits_of w) (changed (score_of w) c)) fits_in ef)
    where
      join : (a b x f g : Bool) → (b ≡ true → x ≡ true → f ≡ g) →
          ◌≡◌ {A = ℕ} (pick a (pick (eqb (pick b (pick x 0 5) 4) 0) (pick f 0 6) (pick b (pick x 0 5) 4)) 2) (pick a (pick b (pick x (pick g 0 6) 5) 4) 2)
      join false b x f g h = refl
      join true false x f g h = refl
      join true true false f g h = refl
      join true true true f g h = ap (λ y. pick {A = ℕ} y 0 6) (h refl refl)

  away_fields : fine_fields ≡ false → Away w c 2
  away_fields a = away w h c 2 (turned_is ∙ pick_false _ _ _ a) (omega arith)

  away_voice : fine_fields ≡ true → there ≡ false → Away w c 4
  away_voice a b = away w h c 4 (turned_is ∙ (pick_true _ _ _ a ∙ pick_false _ _ _ b)) (omega arith)

  away_event : fine_fields ≡ true → there ≡ true → found ≡ false → Away w c 5
  away_event a b x = away w h c 5 (turned_is ∙ (pick_true _ _ _ a ∙ (pick_true _ _ _ b ∙ pick_false _ _ _ x))) (omega arith)

  away_full : fine_fields ≡ true → there ≡ true → found ≡ true → fits_in ≡ false → Away w c 6
  away_full a b x f = away w h c 6 (turned_is ∙ (pick_true _ _ _ a ∙ (pick_true _ _ _ b ∙ (pick_true _ _ _ x ∙ pick_false _ _ _ f)))) (omega arith)

  all_done : fine_fields ≡ true → there ≡ true → found ≡ true → fits_in ≡ true → Done w c
  all_done a b x f = done w h c (turned_is ∙ (pick_true _ _ _ a ∙ (pick_true _ _ _ b ∙ (pick_true _ _ _ x ∙ pick_true _ _ _ f))))

and_true : (b : Bool) → (b && true) ≡ b
and_true true = refl
and_true false = refl

and_known : (a b : Bool) → a ≡ true → (a && b) ≡ b
and_known a b e = ap (λ x. x && b) e

-- ---- an event that is put or that another becomes is in the last stage if it can be written

good_put : (w : List ℕ) (v i : ℕ) (e : Event) → good_call (limits_of w) (layout_of w) (put v i e) ≡ fine e
unfolding call_number good_fields
good_put w v i (note p a d) = and_true (fine (note p a d))
good_put w v i (silence d) = and_true (fine (silence d))

good_change : (w : List ℕ) (v i : ℕ) (e : Event) → good_call (limits_of w) (layout_of w) (change v i e) ≡ fine e
unfolding call_number good_fields
good_change w v i (note p a d) = and_true (fine (note p a d))
good_change w v i (silence d) = and_true (fine (silence d))

module _ (w : List ℕ) (h : Holds w) (v i : ℕ) where
  abbrev S : Score
  S = score_of w

  abbrev V : List Event
  V = voice (score_of w) v

  -- whether the voice is there
  voices_there : length (score_of w) ≡ voices_in w
  voices_there = h.proper.kept.so_many

  in_score : ltb v (voices_in w) ≡ true → v < length (score_of w)
  in_score b = rw voices_there (ltb-true v (voices_in w) b)

  -- a put
  module _ (e : Event) where
    fits_put : ltb v (voices_in w) ≡ true → leb i (length V) ≡ true →
        fits (limits_of w) (changed S (put v i e)) ≡ (ltb (all_events S) (limit_in w) && ltb (total V + lasts e) ticks_end)
    unfolding changed
    fits_put b x =
        let lv = in_score b in
        let li = leb-true i (length V) x in
        ap (λ n. leb n (limit_in w) && none_too_long (changed S (put v i e))) (events_put S v i e lv li)
        ∙ ap (λ t. ltb (all_events S) (limit_in w) && t) (short_set S v _ lv h.proper.kept.short ∙ ap (λ n. ltb n ticks_end) (total_put V i e))

    turned_put : turned_by S (put v i e) ≡ pick (ltb v (voices_in w)) (pick (leb i (length V)) 0 5) 4
    unfolding turned_by
    turned_put = ap (λ n. pick (ltb v n) (pick (leb i (length V)) 0 5) 4) voices_there

    abbrev Room : Bool
    Room = ltb (all_events S) (limit_in w) && ltb (total V + lasts e) ticks_end

    pub put_unfine : fine e ≡ false → Away w (put v i e) 2
    put_unfine = away_fields w h (put v i e) (fine e) (ltb v (voices_in w)) (leb i (length V)) Room (good_put w v i e) turned_put fits_put

    pub put_no_voice : fine e ≡ true → voices_in w ≤ v → Away w (put v i e) 4
    put_no_voice a b = away_voice w h (put v i e) (fine e) (ltb v (voices_in w)) (leb i (length V)) Room (good_put w v i e) turned_put fits_put a (le-ltb v (voices_in w) b)

    pub put_no_event : fine e ≡ true → v < voices_in w → length V < i → Away w (put v i e) 5
    put_no_event a b x =
        away_event w h (put v i e) (fine e) (ltb v (voices_in w)) (leb i (length V)) Room (good_put w v i e) turned_put fits_put a (lt-ltb v (voices_in w) b) (lt-leb i (length V) x)

    pub put_full : fine e ≡ true → v < voices_in w → i ≤ length V → Room ≡ false → Away w (put v i e) 6
    put_full a b x f =
        away_full w h (put v i e) (fine e) (ltb v (voices_in w)) (leb i (length V)) Room (good_put w v i e) turned_put fits_put a (lt-ltb v (voices_in w) b) (le-leb i (length V) x) f

    pub put_too_many : fine e ≡ true → v < voices_in w → i ≤ length V → limit_in w ≤ all_events S → Away w (put v i e) 6
    put_too_many a b x f = put_full a b x (and_left _ _ (le-ltb (all_events S) (limit_in w) f))

    pub put_too_long : fine e ≡ true → v < voices_in w → i ≤ length V → ticks_end ≤ total V + lasts e → Away w (put v i e) 6
    put_too_long a b x f = put_full a b x (and_right _ _ (le-ltb (total V + lasts e) ticks_end f))

    pub put_done : fine e ≡ true → v < voices_in w → i ≤ length V → all_events S < limit_in w → total V + lasts e < ticks_end → Done w (put v i e)
    put_done a b x f g =
        all_done w h (put v i e) (fine e) (ltb v (voices_in w)) (leb i (length V)) Room (good_put w v i e) turned_put fits_put a (lt-ltb v (voices_in w) b) (le-leb i (length V) x)
        (and_from _ _ (lt-ltb (all_events S) (limit_in w) f) (lt-ltb (total V + lasts e) ticks_end g))

  -- a cut
  fits_cut : ltb v (voices_in w) ≡ true → ltb i (length V) ≡ true → fits (limits_of w) (changed S (cut v i)) ≡ true
  unfolding changed
  fits_cut b x =
      let lv = in_score b in
      let li = ltb-true i (length V) x in
      let n = events_cut S v i (silence 0) lv li in
      let fit = h.proper.kept.fitting in
      let less = total_less S v i (silence 0) lv li in
      let short = short_voice S v h.proper.kept.short in
      and_from _ _ (le-leb _ (limit_in w) (omega arith)) (short_set S v _ lv h.proper.kept.short ∙ lt-ltb (total (remove V i)) ticks_end (omega arith))

  turned_cut : turned_by S (cut v i) ≡ pick (ltb v (voices_in w)) (pick (ltb i (length V)) 0 5) 4
  unfolding turned_by
  turned_cut = ap (λ n. pick (ltb v n) (pick (ltb i (length V)) 0 5) 4) voices_there

  good_cut : good_call (limits_of w) (layout_of w) (cut v i) ≡ true
  unfolding good_fields
  good_cut = refl

  pub cut_no_voice : voices_in w ≤ v → Away w (cut v i) 4
  cut_no_voice b = away_voice w h (cut v i) true (ltb v (voices_in w)) (ltb i (length V)) true good_cut turned_cut fits_cut refl (le-ltb v (voices_in w) b)

  pub cut_no_event : v < voices_in w → length V ≤ i → Away w (cut v i) 5
  cut_no_event b x = away_event w h (cut v i) true (ltb v (voices_in w)) (ltb i (length V)) true good_cut turned_cut fits_cut refl (lt-ltb v (voices_in w) b) (le-ltb i (length V) x)

  pub cut_done : v < voices_in w → i < length V → Done w (cut v i)
  cut_done b x = all_done w h (cut v i) true (ltb v (voices_in w)) (ltb i (length V)) true good_cut turned_cut fits_cut refl (lt-ltb v (voices_in w) b) (lt-ltb i (length V) x) refl

  -- a change
  module _ (e old : Event) where
    abbrev ChangedLong : ℕ
    ChangedLong = total V - lasts (get_or V i old) + lasts e

    fits_change : ltb v (voices_in w) ≡ true → ltb i (length V) ≡ true → fits (limits_of w) (changed S (change v i e)) ≡ ltb ChangedLong ticks_end
    unfolding changed
    fits_change b x =
        let lv = in_score b in
        let li = ltb-true i (length V) x in
        let n = events_change S v i e old lv li in
        let fit = h.proper.kept.fitting in
        and_known (leb (all_events (changed S (change v i e))) (limit_in w)) _ (le-leb _ (limit_in w) (omega arith))
        ∙ (short_set S v _ lv h.proper.kept.short ∙ ap (λ m. ltb m ticks_end) (total_else S v i e old lv li))

    turned_change : turned_by S (change v i e) ≡ pick (ltb v (voices_in w)) (pick (ltb i (length V)) 0 5) 4
    unfolding turned_by
    turned_change = ap (λ n. pick (ltb v n) (pick (ltb i (length V)) 0 5) 4) voices_there

    pub change_unfine : fine e ≡ false → Away w (change v i e) 2
    change_unfine = away_fields w h (change v i e) (fine e) (ltb v (voices_in w)) (ltb i (length V)) (ltb ChangedLong ticks_end) (good_change w v i e) turned_change fits_change

    pub change_no_voice : fine e ≡ true → voices_in w ≤ v → Away w (change v i e) 4
    change_no_voice a b =
        away_voice w h (change v i e) (fine e) (ltb v (voices_in w)) (ltb i (length V)) (ltb ChangedLong ticks_end) (good_change w v i e) turned_change fits_change a (le-ltb v (voices_in w) b)

    pub change_no_event : fine e ≡ true → v < voices_in w → length V ≤ i → Away w (change v i e) 5
    change_no_event a b x =
        away_event w h (change v i e) (fine e) (ltb v (voices_in w)) (ltb i (length V)) (ltb ChangedLong ticks_end) (good_change w v i e) turned_change fits_change a (lt-ltb v (voices_in w) b)
        (le-ltb i (length V) x)

    pub change_too_long : fine e ≡ true → v < voices_in w → i < length V → ticks_end ≤ ChangedLong → Away w (change v i e) 6
    change_too_long a b x f =
        away_full w h (change v i e) (fine e) (ltb v (voices_in w)) (ltb i (length V)) (ltb ChangedLong ticks_end) (good_change w v i e) turned_change fits_change a (lt-ltb v (voices_in w) b)
        (lt-ltb i (length V) x) (le-ltb ChangedLong ticks_end f)

    pub change_done : fine e ≡ true → v < voices_in w → i < length V → ChangedLong < ticks_end → Done w (change v i e)
    change_done a b x f =
        all_done w h (change v i e) (fine e) (ltb v (voices_in w)) (ltb i (length V)) (ltb ChangedLong ticks_end) (good_change w v i e) turned_change fits_change a (lt-ltb v (voices_in w) b)
        (lt-ltb i (length V) x) (lt-ltb ChangedLong ticks_end f)

-- ---- questions, which find the score as it is

module _ (w : List ℕ) (h : Holds w) where
  fits_now : fits (limits_of w) (score_of w) ≡ true
  fits_now = and_from _ _ (le-leb (all_events (score_of w)) (limit_in w) h.proper.kept.fitting) h.proper.kept.short

  -- how long
  module _ (v : ℕ) where
    turned_long : turned_by (score_of w) (how_long v) ≡ pick (ltb v (voices_in w)) (pick true 0 5) 4
    unfolding turned_by
    turned_long = ap (λ n. pick {A = ℕ} (ltb v n) 0 4) h.proper.kept.so_many

    good_long : good_call (limits_of w) (layout_of w) (how_long v) ≡ true
    unfolding good_fields
    good_long = refl

    fits_long : ltb v (voices_in w) ≡ true → true ≡ true → fits (limits_of w) (changed (score_of w) (how_long v)) ≡ true
    unfolding changed
    fits_long b x = fits_now

    pub long_no_voice : voices_in w ≤ v → Away w (how_long v) 4
    long_no_voice b = away_voice w h (how_long v) true (ltb v (voices_in w)) true true good_long turned_long fits_long refl (le-ltb v (voices_in w) b)

    pub long_done : v < voices_in w → Done w (how_long v)
    long_done b = all_done w h (how_long v) true (ltb v (voices_in w)) true true good_long turned_long fits_long refl (lt-ltb v (voices_in w) b) refl refl

  -- show
  module _ (v b n : ℕ) where
    turned_show : turned_by (score_of w) (show v b n) ≡ pick (ltb v (voices_in w)) (pick true 0 5) 4
    unfolding turned_by
    turned_show = ap (λ m. pick {A = ℕ} (ltb v m) 0 4) h.proper.kept.so_many

    good_show : good_call (limits_of w) (layout_of w) (show v b n) ≡ leb n most_bars
    unfolding good_fields
    good_show = refl

    fits_show : ltb v (voices_in w) ≡ true → true ≡ true → fits (limits_of w) (changed (score_of w) (show v b n)) ≡ true
    unfolding changed
    fits_show y x = fits_now

    pub show_too_many : most_bars < n → Away w (show v b n) 2
    show_too_many a = away_fields w h (show v b n) (leb n most_bars) (ltb v (voices_in w)) true true good_show turned_show fits_show (lt-leb n most_bars a)

    pub show_no_voice : n ≤ most_bars → voices_in w ≤ v → Away w (show v b n) 4
    show_no_voice a y = away_voice w h (show v b n) (leb n most_bars) (ltb v (voices_in w)) true true good_show turned_show fits_show (le-leb n most_bars a) (le-ltb v (voices_in w) y)

    pub show_done : n ≤ most_bars → v < voices_in w → Done w (show v b n)
    show_done a y = all_done w h (show v b n) (leb n most_bars) (ltb v (voices_in w)) true true good_show turned_show fits_show (le-leb n most_bars a) (lt-ltb v (voices_in w) y) refl refl

  -- heard in
  module _ (a b : ℕ) where
    turned_heard : turned_by (score_of w) (heard_in a b) ≡ pick true (pick true 0 5) 4
    unfolding turned_by
    turned_heard = refl

    good_heard : good_call (limits_of w) (layout_of w) (heard_in a b) ≡ leb b (a + widest_span)
    unfolding good_fields
    good_heard = refl

    fits_heard : true ≡ true → true ≡ true → fits (limits_of w) (changed (score_of w) (heard_in a b)) ≡ true
    unfolding changed
    fits_heard y x = fits_now

    pub heard_too_wide : a + widest_span < b → Away w (heard_in a b) 2
    heard_too_wide x = away_fields w h (heard_in a b) (leb b (a + widest_span)) true true true good_heard turned_heard fits_heard (lt-leb b (a + widest_span) x)

    pub heard_done : b ≤ a + widest_span → Done w (heard_in a b)
    heard_done x = all_done w h (heard_in a b) (leb b (a + widest_span)) true true true good_heard turned_heard fits_heard (le-leb b (a + widest_span) x) refl refl refl
