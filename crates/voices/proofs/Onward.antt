-- One event after the other is given where it begins, as the code does it: what holds lies in a row of words. Assumes nothing.
use Rattle.std.proofs.Common.{◌≡◌, ℕ, suc, ◌+◌, ◌-◌, ◌/◌, ◌%◌, ◌^◌, ◌<◌, ◌≤◌, true, false, leb, List, [], ◌∷◌, ◌++◌, length, get_or, take, drop, set, sym, ap, ◌∙◌, subst, ap₂, arith}
use borrow.Rule.Slice.PartMut.{put_mid}
use Rattle.std.proofs.lemmas.List.{append-nil, drop_all, length-drop, get_or-take, take_rest}
use Rattle.std.proofs.lemmas.Bool.{ltb-true, ltb-false}
use Rattle.score.specs.Calls.{all_events, voice, ticks_end}
use Rattle.score.specs.Music.{pick, places, alterations, length_end, Event, silence, lasts}
use Rattle.score.specs.Print.{key}
use Rattle.laws.specs.Onsets.{sign_at, then_held}
use Rattle.laws.specs.Rows.{event_of}
use Rattle.laws.proofs.Onsets.{sign_words, held_words, held_behind}
use Rattle.laws.proofs.Rows.{lasts_words}
use Rattle.keys.specs.Held.{held_in, sign_needed, then_holding}
use Rattle.keys.proofs.Holding.{needed_is, holding_is}
use Rattle.marks.specs.Marked.{has}
use Rattle.marks.proofs.Bits.{length_marked}
use Rattle.memory.specs.Moves.{rows_set}
use Rattle.memory.specs.Store.{marks_asked, no_marks, limit_in, places_from, alterations_from, lengths_from, counts_from, bars_from, marks_from, score_of}
use Rattle.memory.specs.Words.{Proper, kept_anew, Unkept, Deriving}
use Rattle.voices.specs.declared.regions.Regions.{Regions}
use Rattle.voices.specs.Regions.{regions_in}
use Rattle.memory.proofs.Anew.{all_anew, end_within, at_within, marks_there, mark_there, bar_small, then_is, next_derived, same_anew}
use Rattle.memory.proofs.Scores.{voice_le}
use Rattle.memory.proofs.Midway.{event_midway, words_midway, marks_midway}

-- words of which those from m on became others
pub put_tail : (W last : List ℕ) (m : ℕ) → put_mid m (length W - m) W last ≡ take m W ++ last
put_tail W last m =
    let none : drop (length W - m) (drop m W) ≡ [] = drop_all (length W - m) (drop m W) (simp length-drop (omega arith)) in
    simp (none, append-nil)

-- the regions, one by one
module _ (regions : Regions) (w : List ℕ) (e : regions ≡ regions_in w) where
  pub bars_is : get_or regions.onsets 0 0 ≡ bars_from w
  bars_is = ap (λ (r : Regions). get_or r.onsets 0 0) e

  pub marks_is : regions.marks ≡ marks_from w
  marks_is = ap (λ (r : Regions). r.marks) e

-- words with the same header
pub header_word : (x w : List ℕ) (i : ℕ) → i < counts_from → take counts_from x ≡ take counts_from w → get_or x i 0 ≡ get_or w i 0
header_word x w i lt e = sym (get_or-take counts_from x i 0 lt) ∙ (ap (λ xs. get_or xs i 0) e ∙ get_or-take counts_from w i 0 lt)

-- have the same regions
pub same_regions : (regions : Regions) (w₀ w : List ℕ) → regions ≡ regions_in w₀ → take counts_from w ≡ take counts_from w₀ → regions ≡ regions_in w
same_regions regions w₀ w e he =
    let By : ℕ → ℕ → Regions = λ v n. regions_in (0 ∷ (0 ∷ (v ∷ (n ∷ [])))) in
    e ∙ sym (ap₂ By (header_word w w₀ 2 (omega arith) he) (header_word w w₀ 3 (omega arith) he))

module _ (w hs : List ℕ) (at bar tick : ℕ) (d : Deriving w at bar tick (held_in (get_or w 0 0) hs)) (mark : has (drop (marks_from w) w) at ≡ true) (row : length hs ≡ places) where
  abbrev p : ℕ
  p = get_or w (places_from w + at) 0

  abbrev a : ℕ
  a = get_or w (alterations_from w + at) 0

  abbrev long : ℕ
  long = get_or w (lengths_from w + at) 0

  abbrev k : ℕ
  k = get_or w 0 0

  abbrev b : ℕ
  b = get_or w 1 0

  abbrev st : ℕ → ℕ
  st = held_in (get_or w 0 0) hs

  abbrev end : ℕ
  end = all_events (take d.voice_number (score_of w)) + d.to

  before_end : at < end
  before_end = ltb-true at end (sym (mark_there w at bar tick st d) ∙ mark)

  pub within : at < limit_in w
  within = omega (arith, before_end, end_within w at bar tick st d)

  event_is : get_or (voice (score_of w) d.voice_number) d.from (silence 0) ≡ event_of p a long
  event_is = sym (event_midway w d.voice_number d.from d.to _ d.stale d.from at (omega (arith, before_end, d.at_is, d.within)) d.at_is)

  pub words_small : (p ≤ places) × (a < alterations) × (long < length_end)
  words_small = words_midway w d.voice_number d.from d.to _ d.stale d.from at (omega (arith, before_end, d.at_is, d.within)) d.at_is

  sign_is : sign_at st (event_of p a long) ≡ sign_needed hs p a
  sign_is = sign_words st p a long ∙ sym (needed_is k hs p a words_small.0)

  held_is : then_held st (event_of p a long) ≡ held_in k (then_holding hs p a)
  held_is = held_words st p a long ∙ sym (holding_is k hs p a words_small.0 row)

  -- the words with its onset written, and then with its mark taken away
  abbrev pub onset_written : List ℕ
  onset_written = rows_set w (bars_from w) (limit_in w) at bar tick (sign_needed hs p a)

  abbrev pub unmarked : List ℕ
  unmarked = set (drop (marks_from w) onset_written) (at / 32) (get_or (drop (marks_from w) onset_written) (at / 32) 0 - 2 ^ (at % 32))

  pub record Onward (x : List ℕ) : Type 0 where
    pub next : Deriving x (at + 1) (bar + (tick + long) / b) ((tick + long) % b) (pick (leb b (tick + long)) (key k) (held_in k (then_holding hs p a)))
    pub anew : kept_anew x ≡ kept_anew w
    pub header : take counts_from x ≡ take counts_from w

  pub onward : Onward (take (marks_from w) onset_written ++ unmarked)
  onward =
      let e : Event = event_of p a long in
      let s : at + 1 ≡ suc at = omega arith in
      let Then : ℕ → List ℕ = λ z.
      take (marks_from w) (rows_set w (bars_from w) (limit_in w) at bar tick z)
      ++ set (drop (marks_from w) (rows_set w (bars_from w) (limit_in w) at bar tick z)) (at / 32) (get_or (drop (marks_from w) (rows_set w (bars_from w) (limit_in w) at bar tick z)) (at / 32) 0 - 2 ^ (at % 32)) in
      let n = next_derived w at bar tick st d e event_is before_end in
      let l = lasts_words p a long in
      let n1 = subst (λ i. Deriving (Then (sign_at st e)) i (bar + (tick + lasts e) / b) ((tick + lasts e) % b) (held_behind k b tick st e)) (sym s) n in
      let n2 = subst (λ i. Deriving (Then (sign_at st e)) (at + 1) (bar + (tick + i) / b) ((tick + i) % b) (pick (leb b (tick + i)) (key k) (then_held st e))) l n1 in
      let n3 = subst (λ g. Deriving (Then (sign_at st e)) (at + 1) (bar + (tick + long) / b) ((tick + long) % b) (pick (leb b (tick + long)) (key k) g)) held_is n2 in
      record {
        next = subst (λ z. Deriving (Then z) (at + 1) (bar + (tick + long) / b) ((tick + long) % b) (pick (leb b (tick + long)) (key k) (held_in k (then_holding hs p a)))) sign_is n3;
        anew = subst (λ z. kept_anew (Then z) ≡ kept_anew w) sign_is (same_anew w at bar tick st d e event_is before_end);
        header = subst (λ z. take counts_from (Then z) ≡ take counts_from w) sign_is (ap (take counts_from) (sym (then_is w at bar tick st d e event_is before_end)) ∙ sym (ap (take counts_from) d.stale.is));
      }

  pub bar_low : bar < ticks_end
  bar_low = bar_small w at bar tick st d (event_of p a long) event_is before_end

-- ---- in a loop over words that were w₀ when it began

module _ (w₀ w hs : List ℕ) (at bar tick m : ℕ) (d : Deriving w at bar tick (held_in (get_or w₀ 0 0) hs)) (he : take counts_from w ≡ take counts_from w₀) (em : m ≡ marks_from w₀) where
  same_marks : m ≡ marks_from w
  same_marks = omega (arith, em, header_word w w₀ 2 (omega arith) he, header_word w w₀ 3 (omega arith) he)

  pub lent_marks : take (length w - m) (drop m w) ≡ drop (marks_from w) w
  lent_marks = take_rest w m ∙ ap (λ i. drop i w) same_marks

  pub marks_long : at / 32 < length (take (length w - m) (drop m w))
  marks_long =
      let l = ap length (lent_marks ∙ marks_there w at bar tick _ d) ∙ length_marked at _ (marks_asked (limit_in w)) in
      omega (arith, at_within w at bar tick _ d, end_within w at bar tick _ d)

  pub in_limit : has (take (length w - m) (drop m w)) at ≡ true → at < limit_in w₀
  in_limit h =
      omega (arith, ltb-true at _ (sym (mark_there w at bar tick _ d) ∙ (ap (λ xs. has xs at) (sym lent_marks) ∙ h)), end_within w at bar tick _ d, header_word w w₀ 3 (omega arith) he)

  -- no mark is left
  pub no_mark : has (take (length w - m) (drop m w)) at ≡ false → w ≡ kept_anew w
  no_mark h = all_anew w at bar tick _ d (ltb-false at _ (sym (mark_there w at bar tick _ d) ∙ (ap (λ xs. has xs at) (sym lent_marks) ∙ h)))

-- ---- a voice whose onsets are to be derived

pub record Room (w : List ℕ) (begin count : ℕ) : Type 0 where
  pub inside : begin + count ≤ limit_in w
  pub proper : Proper w

pub room : (w : List ℕ) (begin count from to : ℕ) → Unkept w begin count from to → Room w begin count
room w begin count from to u =
    let c : u.voice_number < length (score_of w) = rw u.stale.proper.kept.so_many u.stale.there in
    record {
      inside = omega (arith, voice_le (score_of w) u.voice_number c, u.stale.proper.kept.fitting, u.lies.begins, u.lies.counts);
      proper = u.stale.proper;
    }

-- no mark is set before
pub unmarked_yet : (w : List ℕ) (begin count from to m : ℕ) → Unkept w begin count from to → m ≡ marks_from w → take (length w - m) (drop m w) ≡ no_marks (limit_in w)
unmarked_yet w begin count from to m u em = take_rest w m ∙ (ap (λ i. drop i w) em ∙ marks_midway w u.voice_number from to (no_marks (limit_in w)) u.stale)
