-- What is kept with the events is derived anew, one event after the other. Assumes nothing.
use Rattle.std.proofs.Common.{◌≡◌, ℕ, suc, ◌+◌, ◌-◌, ◌*◌, ◌/◌, ◌%◌, ◌^◌, ◌<◌, ◌≤◌, ltb, ◌⊎◌, List, [], ◌∷◌, ◌++◌, length, get_or, take, drop, set, sym, refl, ap, ◌∙◌, subst, ap₂, inl, inr, mod-lt, arith}
use Rattle.std.proofs.lemmas.List.{append_assoc, length-append, length-set, take_at, drop_at, take_more, take-set, drop-set-lt, take-append-drop, take-take, get_or-map, get_or-take, get_or-set_same}
use Rattle.score.specs.Music.{Event, silence, lasts, total}
use Rattle.score.specs.Print.{key}
use Rattle.score.specs.Calls.{Limits, Layout, Score, voice, all_events, ticks_end}
use Rattle.score.specs.Promise.{GoodLimits, GoodLayout}
use Rattle.laws.specs.Onsets.{Onset, sign_at, onsets, onsets_of}
use Rattle.laws.proofs.Onsets.{held_behind, length_onsets}
use Rattle.laws.proofs.Reaching.{no_onset, bar_behind, tick_behind, first_of_bar, next_onset, onsets_small}
use Rattle.marks.specs.Marked.{has, marked}
use Rattle.marks.proofs.Bits.{length_marked, marked_first, unmarked_first, marked_none}
use Rattle.memory.specs.Store.{all_onsets, onset_rows, no_marks, marks_asked, headed, stored, limit_in, bars_from, beats_from, marks_from, limits_of, layout_of, score_of, Kept}
use Rattle.memory.specs.Words.{Proper, kept_anew, onsets_in, onsets_with, Stale, Unkept, Deriving}
use Rattle.memory.specs.Moves.{rows_set}
use Rattle.memory.proofs.Scores.{fines_voice, short_voice, spread_split, voice_le}
use Rattle.memory.proofs.Back.{length_region}
use Rattle.memory.proofs.Stored.{length_all_onsets}
use Rattle.memory.proofs.Changes.{set_among}
use Rattle.memory.proofs.Edited.{headed_front, length_front, onset_set}
use Rattle.memory.proofs.Changing.{length_with, headed_back, headed_anew, stale_headed}
use Rattle.memory.proofs.Midway.{bars_midway, onset_midway}

-- ---- the marks lie behind all else

module _ (l : Limits) (y : Layout) (s : Score) (k : Kept l s) (os : List Onset) (lo : length os ≤ l.events) where
  abbrev before_marks : List ℕ
  before_marks = headed l y s (onset_rows l.events os [])

  pub marks_behind : (ms : List ℕ) → before_marks ++ ms ≡ headed l y s (onset_rows l.events os ms)
  marks_behind ms = simp append_assoc

  pub length_before : length before_marks ≡ 4 + 2 * l.voices + l.events + l.events + l.events + l.events + l.events + l.events
  length_before =
      let n : ℕ = l.events in
      let f = length_front l y s k in
      let a = length_region (λ x. x.bar) n os lo in
      let b = length_region (λ x. x.tick) n os lo in
      let c = length_region (λ x. x.sign) n os lo in
      let r : length (onset_rows n os []) ≡ n + (n + (n + 0)) = simp (length-append, a, b, c) in
      sym (ap length (headed_front l y s (onset_rows n os []))) ∙ (length-append (headed l y s []) (onset_rows n os []) ∙ omega arith)

  pub drop_marks : (ms : List ℕ) (m : ℕ) → m ≡ length before_marks → drop m (headed l y s (onset_rows l.events os ms)) ≡ ms
  drop_marks ms m e = ap (drop m) (sym (marks_behind ms)) ∙ drop_at before_marks ms m (sym e)

  -- other marks
  pub set_marks : (ms ns : List ℕ) (m : ℕ) → m ≡ length before_marks → take m (headed l y s (onset_rows l.events os ms)) ++ ns ≡ headed l y s (onset_rows l.events os ns)
  set_marks ms ns m e = ap (λ x. take m x ++ ns) (sym (marks_behind ms)) ∙ (ap (λ x. x ++ ns) (take_at before_marks ms m (sym e)) ∙ marks_behind ns)

-- ---- words while onsets are derived

module _ (l : Limits) (y : Layout) (s : Score) (gl : GoodLimits l) (gy : GoodLayout y) (k : Kept l s) (v : ℕ) (lv : v < l.voices) where
  abbrev V : List Event
  V = voice s v

  abbrev T : List Onset
  T = onsets_of y.in_key y.bar_long (voice s v)

  pub deriving_headed : (from to at bar tick : ℕ) (st : ℕ → ℕ) (old : List Onset) → at ≡ all_events (take v s) + from → length old ≡ length V → take from old ≡ take from T → drop to old ≡ drop to T →
      drop from T ≡ onsets y.in_key y.bar_long bar tick st (drop from V) → tick < y.bar_long → from ≤ to → to ≤ length V →
      Deriving (headed l y s (onset_rows l.events (onsets_with y s v old) (marked at (all_events (take v s) + to) (marks_asked l.events)))) at bar tick st
  deriving_headed from to at bar tick st old ea many front back nx ib le lt =
      let ms : List ℕ = marked at (all_events (take v s) + to) (marks_asked l.events) in
      let R : List ℕ = onset_rows l.events (onsets_with y s v old) ms in
      let b = sym (headed_back l y s gl gy k R) in
      let st0 = stale_headed l y s gl gy k v from to old ms lv many (length_marked at (all_events (take v s) + to) (marks_asked l.events)) front back in
      record {
        voice_number = v;
        from = from;
        to = to;
        at_is = ea ∙ ap (λ t. all_events (take v t) + from) b;
        stale = subst (λ t. Stale (headed l y s R) v from to (marked at (all_events (take v t) + to) (marks_asked l.events))) b st0;
        next = subst (λ t. drop from (onsets_of y.in_key y.bar_long (voice t v)) ≡ onsets y.in_key y.bar_long bar tick st (drop from (voice t v))) b nx;
        in_bar = ib;
        up_to = le;
        within = subst (λ t. to ≤ length (voice t v)) b lt;
      }

-- ---- one event after the other

module _ (w : List ℕ) (at bar tick : ℕ) (st : ℕ → ℕ) (d : Deriving w at bar tick st) where
  abbrev v : ℕ
  v = d.voice_number

  abbrev L : Limits
  L = limits_of w

  abbrev Y : Layout
  Y = layout_of w

  abbrev S : Score
  S = score_of w

  abbrev n : ℕ
  n = limit_in w

  abbrev end : ℕ
  end = all_events (take d.voice_number (score_of w)) + d.to

  abbrev old : List Onset
  old = d.stale.old

  abbrev Voice : List Event
  Voice = voice (score_of w) d.voice_number

  abbrev ms : List ℕ
  ms = marked at (all_events (take d.voice_number (score_of w)) + d.to) (marks_asked (limit_in w))

  abbrev all : List Onset
  all = onsets_with (layout_of w) (score_of w) d.voice_number d.stale.old

  proper : Proper w
  proper = d.stale.proper

  long_all : length all ≤ n
  long_all = length_with L Y S proper.good_limits proper.good_layout proper.kept v old d.stale.there d.stale.many

  long_front : marks_from w ≡ length (before_marks L Y S proper.kept all long_all)
  long_front = sym (length_before L Y S proper.kept all long_all)

  in_score : v < length S
  in_score = rw proper.kept.so_many d.stale.there

  pub end_within : end ≤ n
  end_within = omega (arith, voice_le S v in_score, proper.kept.fitting, d.within)

  pub at_within : at ≤ end
  at_within = omega (arith, d.at_is, d.up_to)

  -- the marks, and that they say where the derived events end
  pub marks_there : drop (marks_from w) w ≡ ms
  marks_there = ap (drop (marks_from w)) d.stale.is ∙ drop_marks L Y S proper.kept all long_all ms (marks_from w) long_front

  pub mark_there : has (drop (marks_from w) w) at ≡ ltb at end
  mark_there = ap (λ xs. has xs at) marks_there ∙ marked_first at end (marks_asked n) at_within (omega (arith, at_within, end_within))

  -- where all are derived, what is kept is right
  pub all_anew : end ≤ at → w ≡ kept_anew w
  unfolding stored
  all_anew done =
      let e : d.from ≡ d.to = omega (arith, d.at_is, d.up_to, done) in
      let a : at ≡ end = omega (arith, at_within, done) in
      let right : old ≡ onsets_in w v =
      sym (take-append-drop d.from old) ∙ (ap₂ (λ xs ys. xs ++ ys) d.stale.front (ap (λ i. drop i old) e ∙ (d.stale.back ∙ ap (λ i. drop i (onsets_in w v)) (sym e))) ∙ take-append-drop d.from (onsets_in w v)) in
      let none : ms ≡ no_marks n = ap (λ i. marked i end (marks_asked n)) a ∙ marked_none end (marks_asked n) in
      let whole : all ≡ all_onsets Y S = ap (onsets_with Y S v) right ∙ sym (spread_split (onsets_of Y.in_key Y.bar_long) S v in_score) in
      d.stale.is ∙ ap₂ (λ os xs. headed L Y S (onset_rows n os xs)) whole none

  -- the next one
  module _ (e : Event) (ee : get_or Voice d.from (silence 0) ≡ e) (lt : at < end) where
    abbrev x : Onset
    x = record { bar = bar; tick = tick; sign = sign_at st e }

    lf : d.from < length Voice
    lf = omega (arith, d.at_is, d.within, lt)

    nexts : (get_or (onsets_in w v) d.from no_onset ≡ x) × (drop (suc d.from) (onsets_in w v) ≡ onsets Y.in_key Y.bar_long (bar_behind Y.in_key Y.bar_long bar tick e) (tick_behind Y.in_key Y.bar_long tick e) (held_behind Y.in_key Y.bar_long tick st e) (drop (suc d.from) Voice))
    nexts = next_onset Y.in_key Y.bar_long Voice d.from bar tick st (onsets_in w v) e lf ee d.next

    long_right : length (onsets_in w v) ≡ length Voice
    long_right = length_onsets Y.in_key Y.bar_long 0 0 (key Y.in_key) Voice

    taken : take (suc d.from) (set old d.from x) ≡ take (suc d.from) (onsets_in w v)
    taken =
        let f : ℕ = d.from in
        let s : f + 1 ≡ suc f = omega arith in
        let lo : f < length old = omega (arith, lf, d.stale.many) in
        let a : take (f + 1) (set old f x) ≡ take f old ++ (x ∷ []) = take_more (set old f x) f no_onset (omega (arith, length-set old f x)) ∙ ap₂ (λ xs z. xs ++ (z ∷ [])) (take-set old f x) (get_or-set_same old f x no_onset lo) in
        let b : take (f + 1) (onsets_in w v) ≡ take f (onsets_in w v) ++ (x ∷ []) = take_more (onsets_in w v) f no_onset (omega (arith, lf, long_right)) ∙ ap (λ z. take f (onsets_in w v) ++ (z ∷ [])) nexts.0 in
        subst (λ i. take i (set old f x) ≡ take i (onsets_in w v)) s (a ∙ (ap (λ xs. xs ++ (x ∷ [])) d.stale.front ∙ sym b))

    pub bar_small : bar < ticks_end
    bar_small =
        let o = onsets_small Y.in_key Y.bar_long Voice d.from 0 0 (key Y.in_key) ticks_end proper.good_layout.1
        (let s = short_voice S v proper.kept.short in omega arith) (fines_voice S v proper.kept.fines) lf in
        subst (λ i. i < ticks_end) (ap (λ z. z.bar) nexts.0) o.bar_small

    -- its words written
    written : rows_set w (bars_from w) n at bar tick (sign_at st e) ≡ headed L Y S (onset_rows n (onsets_with Y S v (set old d.from x)) ms)
    written =
        let A : List Onset = all_onsets Y (take v S) in
        let C : List Onset = all_onsets Y (drop (suc v) S) in
        let la = length_all_onsets Y (take v S) in
        let le : at < length all = rw (length-append A (old ++ C), length-append old C) (omega (arith, d.at_is, lf, d.stale.many, la)) in
        ap (λ z. rows_set z (bars_from w) n at bar tick (sign_at st e)) d.stale.is
        ∙ (onset_set L Y S proper.kept all ms (bars_from w) refl at x le long_all
        ∙ ap (λ os. headed L Y S (onset_rows n os ms)) (set_among A old C d.from at (omega (arith, d.at_is, la)) x (omega (arith, lf, d.stale.many))))

    -- and its mark taken away
    abbrev unmarked : List ℕ
    unmarked = set (drop (marks_from w) (rows_set w (bars_from w) n at bar tick (sign_at st e))) (at / 32) (get_or (drop (marks_from w) (rows_set w (bars_from w) n at bar tick (sign_at st e))) (at / 32) 0 - 2 ^ (at % 32))

    long_set : length (onsets_with Y S v (set old d.from x)) ≤ n
    long_set = length_with L Y S proper.good_limits proper.good_layout proper.kept v (set old d.from x) d.stale.there (length-set old d.from x ∙ d.stale.many)

    abbrev then : List ℕ
    then = take (marks_from w) (rows_set w (bars_from w) n at bar tick (sign_at st e)) ++ unmarked

    -- the marks are as they were until then
    pub marks_still : drop (marks_from w) (rows_set w (bars_from w) n at bar tick (sign_at st e)) ≡ ms
    marks_still = ap (drop (marks_from w)) written ∙ drop_marks L Y S proper.kept (onsets_with Y S v (set old d.from x)) long_set ms (marks_from w) (sym (length_before L Y S proper.kept (onsets_with Y S v (set old d.from x)) long_set))

    pub then_is : headed L Y S (onset_rows n (onsets_with Y S v (set old d.from x)) (marked (suc at) end (marks_asked n))) ≡ then
    then_is =
        let K : List Onset = onsets_with Y S v (set old d.from x) in
        let long : marks_from w ≡ length (before_marks L Y S proper.kept K long_set) = sym (length_before L Y S proper.kept K long_set) in
        let u : unmarked ≡ marked (suc at) end (marks_asked n) =
        ap (λ xs. set xs (at / 32) (get_or xs (at / 32) 0 - 2 ^ (at % 32))) marks_still ∙ unmarked_first at end (marks_asked n) lt (omega (arith, lt, end_within)) in
        sym (ap₂ (λ xs ys. take (marks_from w) xs ++ ys) written u ∙ set_marks L Y S proper.kept K long_set ms (marked (suc at) end (marks_asked n)) (marks_from w) long)

    pub next_derived : Deriving then (suc at) (bar_behind Y.in_key Y.bar_long bar tick e) (tick_behind Y.in_key Y.bar_long tick e) (held_behind Y.in_key Y.bar_long tick st e)
    next_derived =
        subst (λ z. Deriving z (suc at) (bar_behind Y.in_key Y.bar_long bar tick e) (tick_behind Y.in_key Y.bar_long tick e) (held_behind Y.in_key Y.bar_long tick st e)) then_is
        (deriving_headed L Y S proper.good_limits proper.good_layout proper.kept v d.stale.there (suc d.from) d.to (suc at)
        (bar_behind Y.in_key Y.bar_long bar tick e) (tick_behind Y.in_key Y.bar_long tick e) (held_behind Y.in_key Y.bar_long tick st e) (set old d.from x)
        (omega (arith, d.at_is)) (length-set old d.from x ∙ d.stale.many) taken
        (drop-set-lt d.to old d.from x (omega (arith, d.at_is, lt)) ∙ d.stale.back)
        nexts.1 (mod-lt (tick + lasts e) proper.good_layout.1) (omega (arith, d.at_is, lt)) d.within)

    pub same_anew : kept_anew then ≡ kept_anew w
    same_anew = ap kept_anew (sym then_is) ∙ headed_anew L Y S proper.good_limits proper.good_layout proper.kept _

-- ---- where it begins

-- the first event to be derived is the first of all, or the first of a bar before event `from`, by the bars that are kept
abbrev pub Begins : List ℕ → ℕ → ℕ → ℕ → ℕ → Type 0
Begins bars from first bar tick = ((first ≡ 0) × (bar ≡ 0) × (tick ≡ 0)) ⊎ ((0 < first) × (first < from) × (get_or bars (first - 1) 0 ≡ get_or bars first 0 → ⊥))

module _ (w : List ℕ) (begin count from to : ℕ) (u : Unkept w begin count from to) (first bar tick : ℕ) (le : first ≤ from) (lt : from ≤ to) (lc : to ≤ count)
    (starts : Begins (take count (drop (bars_from w + begin) w)) from first bar tick) (eb : 0 < first → bar ≡ get_or w (bars_from w + (begin + first)) 0) (et : 0 < first → tick ≡ get_or w (beats_from w + (begin + first)) 0) where
  abbrev z : Stale w u.voice_number from to (no_marks (limit_in w))
  z = u.stale

  abbrev kk : ℕ
  kk = (layout_of w).in_key

  abbrev bb : ℕ
  bb = (layout_of w).bar_long

  abbrev U : List Event
  U = voice (score_of w) u.voice_number

  abbrev R : List Onset
  R = onsets_in w u.voice_number

  fits : to ≤ length U
  fits = omega (arith, lc, u.lies.counts)

  -- the onsets before `from` are right
  right : (i : ℕ) → i < from → get_or u.stale.old i no_onset ≡ get_or R i no_onset
  right i li = sym (get_or-take from u.stale.old i no_onset li) ∙ (ap (λ xs. get_or xs i no_onset) u.stale.front ∙ get_or-take from R i no_onset li)

  kept_bar : (i : ℕ) → i < from → get_or (take count (drop (bars_from w + begin) w)) i 0 ≡ (get_or R i no_onset).bar
  kept_bar i li =
      let m : i < length u.stale.old = omega (arith, u.stale.many, fits, lt) in
      ap (λ xs. get_or xs i 0) (bars_midway w u.voice_number from to (no_marks (limit_in w)) u.stale begin count u.lies)
      ∙ (get_or-map (λ x. x.bar) u.stale.old i no_onset 0 m ∙ ap (λ x. x.bar) (right i li))

  from_there : (drop first R ≡ onsets kk bb bar tick (key kk) (drop first U)) × (tick < bb)
  from_there = go starts
    where
      go : Begins (take count (drop (bars_from w + begin) w)) from first bar tick → (drop first R ≡ onsets kk bb bar tick (key kk) (drop first U)) × (tick < bb)
      go (inl q) = (
        ap (λ i. drop i R) q.0 ∙ sym (ap (λ i. onsets kk bb bar tick (key kk) (drop i U)) q.0 ∙ ap₂ (λ i j. onsets kk bb i j (key kk) U) q.1 q.2),
        omega (arith, q.2, u.stale.proper.good_layout.1),
      )
      go (inr q) =
          let f : ℕ = first - 1 in
          let e : suc f ≡ first = omega (arith, q.0) in
          let lu : first < length U = omega (arith, q.1, fits, lt) in
          let o = onset_midway w u.voice_number from to (no_marks (limit_in w)) u.stale first (begin + first) lu (omega (arith, u.lies.begins)) in
          let b_is : bar ≡ (get_or R first no_onset).bar = eb q.0 ∙ (o.0 ∙ ap (λ x. x.bar) (right first q.1)) in
          let t_is : tick ≡ (get_or R first no_onset).tick = et q.0 ∙ (o.1 ∙ ap (λ x. x.tick) (right first q.1)) in
          let differ : (get_or R f no_onset).bar ≡ (get_or R (suc f) no_onset).bar → ⊥ = λ h. q.2 (kept_bar f (omega (arith, q.1)) ∙ (h ∙ (ap (λ i. (get_or R i no_onset).bar) e ∙ sym (kept_bar first q.1)))) in
          let s = first_of_bar kk bb U f 0 0 (key kk) (omega (arith, lu, e)) differ in
          let small = onsets_small kk bb U first 0 0 (key kk) (suc (total U)) u.stale.proper.good_layout.1 (omega arith) (fines_voice (score_of w) u.voice_number u.stale.proper.kept.fines) lu in (
            subst (λ i. drop i R ≡ onsets kk bb (get_or R i no_onset).bar (get_or R i no_onset).tick (key kk) (drop i U)) e s ∙ ap₂ (λ i j. onsets kk bb i j (key kk) (drop first U)) (sym b_is) (sym t_is),
            subst (λ i. i < bb) (sym t_is) small.tick_small,
          )

  pub begun : Deriving (take (marks_from w) w ++ marked (begin + first) (begin + to) (marks_asked (limit_in w))) (begin + first) bar tick (key kk)
      × (kept_anew (take (marks_from w) w ++ marked (begin + first) (begin + to) (marks_asked (limit_in w))) ≡ kept_anew w)
  begun =
      let L : Limits = limits_of w in
      let Y : Layout = layout_of w in
      let S : Score = score_of w in
      let n : ℕ = limit_in w in
      let old : List Onset = u.stale.old in
      let v : ℕ = u.voice_number in
      let all : List Onset = onsets_with Y S v old in
      let lo = length_with L Y S u.stale.proper.good_limits u.stale.proper.good_layout u.stale.proper.kept v old u.stale.there u.stale.many in
      let long : marks_from w ≡ length (before_marks L Y S u.stale.proper.kept all lo) = sym (length_before L Y S u.stale.proper.kept all lo) in
      let new : List ℕ = marked (begin + first) (begin + to) (marks_asked n) in
      let e1 : headed L Y S (onset_rows n all new) ≡ take (marks_from w) w ++ new =
      sym (ap (λ x. take (marks_from w) x ++ new) u.stale.is ∙ set_marks L Y S u.stale.proper.kept all lo (no_marks n) new (marks_from w) long) in
      let front : take first old ≡ take first R = sym (take-take first from old le) ∙ (ap (take first) u.stale.front ∙ take-take first from R le) in
      let d : Deriving (headed L Y S (onset_rows n all (marked (begin + first) (all_events (take v S) + to) (marks_asked n)))) (begin + first) bar tick (key kk) =
      deriving_headed L Y S u.stale.proper.good_limits u.stale.proper.good_layout u.stale.proper.kept v u.stale.there first to (begin + first) bar tick (key kk) old
      (omega (arith, u.lies.begins)) u.stale.many front u.stale.back from_there.0 from_there.1 (omega arith) fits in (
        subst (λ x. Deriving x (begin + first) bar tick (key kk)) e1
            (subst (λ i. Deriving (headed L Y S (onset_rows n all (marked (begin + first) (i + to) (marks_asked n)))) (begin + first) bar tick (key kk)) (sym u.lies.begins) d),
        ap kept_anew (sym e1) ∙ headed_anew L Y S u.stale.proper.good_limits u.stale.proper.good_layout u.stale.proper.kept _,
      )
