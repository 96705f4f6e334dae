-- One event after the other is given where it begins while its mark is taken already: it is as if it were taken just then. Assumes nothing.
use Rattle.std.proofs.Common.{◌≡◌, ℕ, suc, ◌+◌, ◌-◌, ◌*◌, ◌/◌, ◌%◌, ◌<◌, ◌≤◌, min, true, leb, List, ◌++◌, length, get_or, take, drop, set, sym, ap, ◌∙◌, subst, ap₂, arith}
use borrow.Rule.Slice.PartMut.{put_mid}
use Rattle.std.proofs.lemmas.List.{length-append, length-take-le, get_or_append_left, get_or-take, take_at, drop_at, take-append-drop, take-append-le, take-take, set-append_left, length-set, take-set-le}
use Rattle.std.proofs.lemmas.Bool.{ltb-true, lt-ltb}
use Rattle.score.specs.Music.{pick, places, alterations, length_end}
use Rattle.score.specs.Calls.{all_events, ticks_end}
use Rattle.score.specs.Print.{key}
use Rattle.keys.specs.Held.{held_in, sign_needed, then_holding}
use Rattle.marks.specs.Marked.{has, marked, unmarked as without}
use Rattle.marks.proofs.Bits.{length_marked, marked_first, unmarked_first}
use Rattle.memory.specs.Moves.{rows_set}
use Rattle.memory.specs.Store.{marks_asked, words_asked, voices_in, limit_in, places_from, alterations_from, lengths_from, counts_from, bars_from, marks_from, score_of}
use Rattle.memory.specs.Words.{kept_anew, Deriving}
use Rattle.memory.proofs.Anew.{at_within, end_within, marks_there, mark_there}
use Rattle.voices.specs.Ahead.{with_marks, Ahead}
use Rattle.voices.proofs.Onward.{put_tail, header_word, lent_marks, within, words_small, onset_written, unmarked, onward, bar_low}

-- a row is written before what lies behind
rows_left : (xs zs : List ℕ) (b n at x y z : ℕ) → b + n + n + at < length xs → rows_set (xs ++ zs) b n at x y z ≡ rows_set xs b n at x y z ++ zs
unfolding rows_set
rows_left xs zs b n at x y z lt =
    let a = set-append_left xs zs (b + at) x (omega arith) in
    let c = set-append_left (set xs (b + at) x) zs (b + n + at) y (omega (arith, length-set xs (b + at) x)) in
    let e = set-append_left (set (set xs (b + at) x) (b + n + at) y) zs (b + n + n + at) z (omega (arith, lt, length-set (set xs (b + at) x) (b + n + at) y, length-set xs (b + at) x)) in
    ap (λ (l : List ℕ). set (set l (b + n + at) y) (b + n + n + at) z) a ∙ (ap (λ (l : List ℕ). set l (b + n + n + at) z) c ∙ e)

length_rows : (xs : List ℕ) (b n at x y z : ℕ) → length (rows_set xs b n at x y z) ≡ length xs
unfolding rows_set
length_rows xs b n at x y z = length-set _ (b + n + n + at) z ∙ (length-set _ (b + n + at) y ∙ length-set xs (b + at) x)

take_rows : (k : ℕ) (xs : List ℕ) (b n at x y z : ℕ) → k ≤ b → take k (rows_set xs b n at x y z) ≡ take k xs
unfolding rows_set
take_rows k xs b n at x y z le =
    take-set-le k _ (b + n + n + at) z (omega arith) ∙ (take-set-le k _ (b + n + at) y (omega arith) ∙ take-set-le k xs (b + at) x (omega arith))

-- words, and the same with other marks
module _ (w : List ℕ) (size : length w ≡ words_asked (voices_in w) (limit_in w)) (zs : List ℕ) where
  abbrev m : ℕ
  m = marks_from w

  abbrev W : List ℕ
  W = take (marks_from w) w ++ zs

  long : length (take (marks_from w) w) ≡ m
  long = length-take-le m w (omega (arith, size))

  word_same : (i : ℕ) → i < m → get_or W i 0 ≡ get_or w i 0
  word_same i lt = get_or_append_left (take m w) zs 0 i (omega (arith, long, lt)) ∙ get_or-take m w i 0 lt

  marks_same : marks_from W ≡ m
  marks_same = omega (arith, word_same 2 (omega arith), word_same 3 (omega arith))

  other_marks : drop (marks_from W) W ≡ zs
  other_marks = ap (λ i. drop i W) marks_same ∙ drop_at (take m w) zs m long

  words_before : take (marks_from W) W ≡ take m w
  words_before = ap (λ i. take i W) marks_same ∙ take_at (take m w) zs m long

module _ (w whole hs : List ℕ) (at to bar tick : ℕ) (t : Ahead w whole at to bar tick (held_in (get_or w 0 0) hs)) (lt : at < to) (row : length hs ≡ places) where
  abbrev n : ℕ
  n = limit_in w

  abbrev zs : List ℕ
  zs = marked at t.end (marks_asked (limit_in w))

  abbrev X : List ℕ
  X = with_marks w at t.end

  same : (i : ℕ) → i < marks_from w → get_or X i 0 ≡ get_or w i 0
  same = word_same w t.size zs

  d : Deriving X at bar tick (held_in (get_or X 0 0) hs)
  d = subst (λ k. Deriving X at bar tick (held_in k hs)) (sym (same 0 (omega arith))) t.state

  reach : at / 32 < marks_asked n
  reach = omega (arith, at_within X at bar tick _ d, end_within X at bar tick _ d, same 3 (omega arith))

  mark : has (drop (marks_from X) X) at ≡ true
  mark =
      ap (λ xs. has xs at) (other_marks w t.size zs)
      ∙ (marked_first at t.end (marks_asked n) (omega (arith, lt, t.up_to)) reach ∙ lt-ltb at t.end (omega (arith, lt, t.up_to)))

  pub in_limit : at < n
  in_limit = omega (arith, within X hs at bar tick d mark row, same 3 (omega arith))

  abbrev p : ℕ
  p = get_or w (places_from w + at) 0

  abbrev a : ℕ
  a = get_or w (alterations_from w + at) 0

  abbrev length_there : ℕ
  length_there = get_or w (lengths_from w + at) 0

  place_same : get_or X (places_from X + at) 0 ≡ p
  place_same = let e : places_from X + at ≡ places_from w + at = omega (arith, same 2 (omega arith)) in ap (λ i. get_or X i 0) e ∙ same (places_from w + at) (omega (arith, in_limit))

  alteration_same : get_or X (alterations_from X + at) 0 ≡ a
  alteration_same = let e : alterations_from X + at ≡ alterations_from w + at = omega (arith, same 2 (omega arith), same 3 (omega arith)) in ap (λ i. get_or X i 0) e ∙ same (alterations_from w + at) (omega (arith, in_limit))

  length_same : get_or X (lengths_from X + at) 0 ≡ length_there
  length_same = let e : lengths_from X + at ≡ lengths_from w + at = omega (arith, same 2 (omega arith), same 3 (omega arith)) in ap (λ i. get_or X i 0) e ∙ same (lengths_from w + at) (omega (arith, in_limit))

  pub small_words : (p ≤ places) × (a < alterations) × (length_there < length_end)
  small_words =
      let s = words_small X hs at bar tick d mark row in
      (omega (arith, s.0, place_same), omega (arith, s.1, alteration_same), omega (arith, s.2, length_same))

  pub low_bar : bar < ticks_end
  low_bar = bar_low X hs at bar tick d mark row

  -- the words with its onset written
  abbrev pub then : List ℕ
  then = rows_set w (bars_from w) (limit_in w) at bar tick (sign_needed hs p a)

  abbrev front : List ℕ
  front = rows_set (take (marks_from w) w) (bars_from w) (limit_in w) at bar tick (sign_needed hs p a)

  before_marks : bars_from w + n + n + at < length (take (marks_from w) w)
  before_marks = omega (arith, long w t.size zs, in_limit)

  long_front : length front ≡ marks_from w
  long_front = length_rows (take (marks_from w) w) (bars_from w) n at bar tick (sign_needed hs p a) ∙ long w t.size zs

  pub same_header : take counts_from then ≡ take counts_from w
  same_header = take_rows counts_from w (bars_from w) n at bar tick (sign_needed hs p a) (omega arith)

  pub same_length : length then ≡ length w
  same_length = length_rows w (bars_from w) n at bar tick (sign_needed hs p a)

  limit_then : limit_in then ≡ n
  limit_then = header_word then w 3 (omega arith) same_header

  voices_then : voices_in then ≡ voices_in w
  voices_then = header_word then w 2 (omega arith) same_header

  marks_then : marks_from then ≡ marks_from w
  marks_then = omega (arith, limit_then, voices_then)

  split : then ≡ front ++ drop (marks_from w) w
  split =
      ap (λ x. rows_set x (bars_from w) n at bar tick (sign_needed hs p a)) (sym (take-append-drop (marks_from w) w))
      ∙ rows_left (take (marks_from w) w) (drop (marks_from w) w) (bars_from w) n at bar tick (sign_needed hs p a) before_marks

  with_is : with_marks then (at + 1) t.end ≡ front ++ marked (at + 1) t.end (marks_asked n)
  with_is =
      ap₂ (λ xs i. xs ++ marked (at + 1) t.end (marks_asked i))
      (ap₂ take marks_then split ∙ take_at front (drop (marks_from w) w) (marks_from w) long_front) limit_then

  -- the words whose marks are not taken yet
  written_is : onset_written X hs at bar tick d mark row ≡ front ++ zs
  written_is =
      let eb : bars_from X ≡ bars_from w = omega (arith, same 2 (omega arith), same 3 (omega arith)) in
      ap₂ (λ b i. rows_set X b i at bar tick (sign_needed hs (get_or X (places_from X + at) 0) (get_or X (alterations_from X + at) 0))) eb (same 3 (omega arith))
      ∙ (ap (rows_set X (bars_from w) n at bar tick) (ap₂ (sign_needed hs) place_same alteration_same)
      ∙ rows_left (take (marks_from w) w) zs (bars_from w) n at bar tick (sign_needed hs p a) before_marks)

  joined : take (marks_from X) (onset_written X hs at bar tick d mark row) ++ unmarked X hs at bar tick d mark row ≡ with_marks then (at + 1) t.end
  joined =
      let em = marks_same w t.size zs in
      let x : take (marks_from X) (onset_written X hs at bar tick d mark row) ≡ front = ap₂ take em written_is ∙ take_at front zs (marks_from w) long_front in
      let y : drop (marks_from X) (onset_written X hs at bar tick d mark row) ≡ zs = ap₂ drop em written_is ∙ drop_at front zs (marks_from w) long_front in
      let s : suc at ≡ at + 1 = omega arith in
      let u : unmarked X hs at bar tick d mark row ≡ marked (at + 1) t.end (marks_asked n) =
      ap (λ xs. without xs at) y ∙ (unmarked_first at t.end (marks_asked n) (omega (arith, lt, t.up_to)) reach ∙ ap (λ i. marked i t.end (marks_asked n)) s) in
      ap₂ (λ xs ys. xs ++ ys) x u ∙ sym with_is

  abbrev Next : List ℕ → ℕ → ℕ → ℕ → ℕ → ℕ → Type 0
  Next x k b l p a = Deriving x (at + 1) (bar + (tick + l) / b) ((tick + l) % b) (pick (leb b (tick + l)) (key k) (held_in k (then_holding hs p a)))

  derived : Next (with_marks then (at + 1) t.end) (get_or w 0 0) (get_or w 1 0) length_there p a
  derived =
      let o = onward X hs at bar tick d mark row in
      let x : List ℕ = with_marks then (at + 1) t.end in
      let n1 = subst (λ x. Next x (get_or X 0 0) (get_or X 1 0) (get_or X (lengths_from X + at) 0) (get_or X (places_from X + at) 0) (get_or X (alterations_from X + at) 0)) joined o.next in
      let n2 = subst (λ k. Next x k (get_or X 1 0) (get_or X (lengths_from X + at) 0) (get_or X (places_from X + at) 0) (get_or X (alterations_from X + at) 0)) (same 0 (omega arith)) n1 in
      let n3 = subst (λ b. Next x (get_or w 0 0) b (get_or X (lengths_from X + at) 0) (get_or X (places_from X + at) 0) (get_or X (alterations_from X + at) 0)) (same 1 (omega arith)) n2 in
      let n4 = subst (λ l. Next x (get_or w 0 0) (get_or w 1 0) l (get_or X (places_from X + at) 0) (get_or X (alterations_from X + at) 0)) length_same n3 in
      let n5 = subst (λ p. Next x (get_or w 0 0) (get_or w 1 0) length_there p (get_or X (alterations_from X + at) 0)) place_same n4 in
      subst (λ a. Next x (get_or w 0 0) (get_or w 1 0) length_there p a) alteration_same n5

  pub then_ahead : Ahead then whole (at + 1) to (bar + (tick + length_there) / get_or w 1 0) ((tick + length_there) % get_or w 1 0)
      (pick (leb (get_or w 1 0) (tick + length_there)) (key (get_or w 0 0)) (held_in (get_or w 0 0) (then_holding hs p a)))
  then_ahead =
      let o = onward X hs at bar tick d mark row in
      record {
        end = t.end;
        state = derived;
        marks = ap₂ drop marks_then split ∙ (drop_at front (drop (marks_from w) w) (marks_from w) long_front ∙ (t.marks ∙ ap (λ i. marked to t.end (marks_asked i)) (sym limit_then)));
        size = same_length ∙ (t.size ∙ ap₂ words_asked (sym voices_then) (sym limit_then));
        up_to = t.up_to;
        anew = ap kept_anew (sym joined) ∙ (o.anew ∙ t.anew);
      }

  pub positive : 0 < get_or w 1 0
  positive = omega (arith, d.in_bar, same 1 (omega arith))

  pub low_tick : tick < 768
  low_tick = omega (arith, d.in_bar, d.stale.proper.good_layout.2)

-- where all events before `to` are derived, none is ahead of the marks
pub run_ended : (w whole : List ℕ) (to bar tick : ℕ) (st : ℕ → ℕ) → Ahead w whole to to bar tick st → Deriving w to bar tick st × (kept_anew w ≡ whole)
run_ended w whole to bar tick st t =
    let e : with_marks w to t.end ≡ w = ap (λ xs. take (marks_from w) w ++ xs) (sym t.marks) ∙ take-append-drop (marks_from w) w in
    (subst (λ x. Deriving x to bar tick st) e t.state, ap kept_anew (sym e) ∙ t.anew)

-- where the marks of the events before `to` are taken
module _ (w : List ℕ) (at bar tick : ℕ) (st : ℕ → ℕ) (d : Deriving w at bar tick st) where
  abbrev end_of_all : ℕ
  end_of_all = all_events (take d.voice_number (score_of w)) + d.to

  pub run_begun : (to : ℕ) → to ≤ end_of_all → (x : List ℕ) → take (marks_from w) w ++ marked to end_of_all (marks_asked (limit_in w)) ≡ x → Ahead x (kept_anew w) at to bar tick st
  run_begun to le x e =
      let ms : List ℕ = marked to end_of_all (marks_asked (limit_in w)) in
      let V : List ℕ = take (marks_from w) w ++ ms in
      let size = d.stale.proper.size in
      let limit : limit_in V ≡ limit_in w = word_same w size ms 3 (omega arith) in
      let voices : voices_in V ≡ voices_in w = word_same w size ms 2 (omega arith) in
      let back : with_marks V at end_of_all ≡ w =
      ap₂ (λ xs i. xs ++ marked at end_of_all (marks_asked i)) (words_before w size ms) limit
      ∙ (ap (λ xs. take (marks_from w) w ++ xs) (sym (marks_there w at bar tick st d)) ∙ take-append-drop (marks_from w) w) in
      let long_all : length V ≡ length w = length-append (take (marks_from w) w) ms ∙ omega (arith, long w size ms, length_marked to end_of_all (marks_asked (limit_in w)), size) in
      subst (λ x. Ahead x (kept_anew w) at to bar tick st) e (record {
        end = end_of_all;
        state = subst (λ x. Deriving x at bar tick st) (sym back) d;
        marks = other_marks w size ms ∙ ap (λ i. marked to end_of_all (marks_asked i)) (sym limit);
        size = long_all ∙ (size ∙ ap₂ words_asked (sym voices) (sym limit));
        up_to = le;
        anew = ap kept_anew back;
      })

-- in a loop over words that were w₀ when it began
module _ (w₀ w hs : List ℕ) (at bar tick m : ℕ) (d : Deriving w at bar tick (held_in (get_or w₀ 0 0) hs)) (he : take counts_from w ≡ take counts_from w₀) (em : m ≡ marks_from w₀) where
  abbrev L : List ℕ
  L = take (length w - m) (drop m w)

  abbrev E : ℕ
  E = all_events (take d.voice_number (score_of w)) + d.to

  lent_is : L ≡ marked at E (marks_asked (limit_in w))
  lent_is = lent_marks w₀ w hs at bar tick m d he em ∙ marks_there w at bar tick _ d

  long_lent : length L ≡ marks_asked (limit_in w)
  long_lent = ap length lent_is ∙ length_marked at E (marks_asked (limit_in w))

  lent_own : L ≡ marked at E (length L)
  lent_own = lent_is ∙ ap (marked at E) (sym long_lent)

  same_marks : m ≡ marks_from w
  same_marks = omega (arith, em, header_word w w₀ 2 (omega arith) he, header_word w w₀ 3 (omega arith) he)

  pub run_taken : (whole : List ℕ) → kept_anew w ≡ whole → (to : ℕ) (last : List ℕ) → ((e : ℕ) → at ≤ e → L ≡ marked at e (length L) → to ≡ min e (32 * (at / 32 + 1))) → ((e : ℕ) → at ≤ e → L ≡ marked at e (length L) → last ≡ marked to e (length L)) → has L at ≡ true →
      Ahead (put_mid m (length w - m) w last) whole at to bar tick (held_in (get_or w₀ 0 0) hs) × (take counts_from (put_mid m (length w - m) w last) ≡ take counts_from w₀) × (at < to)
  run_taken whole whole_is to last run rest h =
      let le = at_within w at bar tick _ d in
      let r = run E le lent_own in
      let ms : List ℕ = marked to E (marks_asked (limit_in w)) in
      let lt = ltb-true at E (sym (mark_there w at bar tick _ d) ∙ (ap (λ xs. has xs at) (sym (lent_marks w₀ w hs at bar tick m d he em)) ∙ h)) in
      let x : take (marks_from w) w ++ ms ≡ put_mid m (length w - m) w last =
      sym (put_tail w last m ∙ ap₂ (λ xs ys. xs ++ ys) (ap (λ i. take i w) same_marks) (rest E le lent_own ∙ ap (marked to E) long_lent)) in
      let header : take counts_from (take (marks_from w) w ++ ms) ≡ take counts_from w =
      take-append-le counts_from (take (marks_from w) w) ms (omega (arith, long w d.stale.proper.size ms)) ∙ take-take counts_from (marks_from w) w (omega arith) in
      (subst (λ i. Ahead (put_mid m (length w - m) w last) i at to bar tick (held_in (get_or w₀ 0 0) hs)) whole_is (run_begun w at bar tick _ d to (omega (arith, r)) _ x), ap (take counts_from) (sym x) ∙ (header ∙ he), omega (arith, r, lt))
