-- The score in lent words is the one in their rows; and a span of ticks is one of slots. Assumes nothing.
use Rattle.std.proofs.Common.{◌≡◌, ℕ, ◌+◌, ◌-◌, ◌*◌, ◌<◌, ◌≤◌, true, List, map, length, get_or, take, drop, sum, sym, refl, ap, ap₂, ◌∙◌, subst, arith}
use Rattle.std.proofs.lemmas.List.{drop-drop, length-take, length-take-le, length-drop, length-map, get_or-take, get_or-drop, take-map, take-take}
use Rattle.std.proofs.lemmas.List.Sorted.{IsNonDecreasingBy-from_default}
use Rattle.score.specs.Music.{Event, lasts}
use Rattle.score.specs.Calls.{Score, voice, none_too_long, together}
use Rattle.laws.specs.Onsets.{bars_of, ticks_of}
use Rattle.laws.proofs.Onsets.{begins_at, bars_rise, length_bars, length_ticks}
use Rattle.memory.specs.Store.{parted, voices_in, limit_in, places_from, alterations_from, lengths_from, bars_from, beats_from, score_of, all_fines}
use Rattle.memory.specs.Words.{Holds, Spans, events_at}
use Rattle.memory.proofs.Scores.{fines_voice}
use Rattle.memory.proofs.Held.{counts_sum, all_before, spans}
use Rattle.sounds.specs.Spans.{Timed, grain, score_in, Laid, part, AllTimed}
use Rattle.sounds.proofs.Mixed.{mixed_same, together_mixed}
use Rattle.sounds.proofs.Parts.{lasts_voice, total_sum, drop_take_sub, up, begins_slots}

-- ---- the rows of words that hold a score

module _ (w : List ℕ) (h : Holds w) where
  abbrev C : List ℕ
  C = take (voices_in w) (drop 4 w)

  abbrev region : ℕ → List ℕ
  region base = take (limit_in w) (drop base w)

  row_at : (base i : ℕ) → base ≡ 4 + i → region base ≡ take (limit_in w) (drop i (drop 4 w))
  row_at base i e = ap region e ∙ ap (take (limit_in w)) (sym (drop-drop i 4 w))

  rows_score : score_in C (region (places_from w)) (region (alterations_from w)) (region (lengths_from w)) ≡ score_of w
  unfolding parted
  rows_score =
      let a = row_at (places_from w) (2 * voices_in w) refl in
      let b = row_at (alterations_from w) (2 * voices_in w + limit_in w) (omega arith) in
      let d = row_at (lengths_from w) (2 * voices_in w + limit_in w + limit_in w) (omega arith) in
      cc

  region_long : (base : ℕ) → base + limit_in w ≤ length w → length (region base) ≡ limit_in w
  region_long base l = length-take-le (limit_in w) (drop base w) (simp length-drop (omega arith))

  rows_laid : Laid C (region (places_from w)) (region (alterations_from w)) (region (lengths_from w))
  rows_laid =
      let z = h.proper.size in
      let k = h.proper.kept in
      let c = length-take (voices_in w) (drop 4 w) in
      let a = region_long (places_from w) (omega arith) in
      let b = region_long (alterations_from w) (omega arith) in
      let d = region_long (lengths_from w) (omega arith) in
      let all : voices_in w ≡ 4 + voices_in w - 4 = omega arith in
      let n = ap (λ (k : ℕ). sum (take k (drop 4 w))) all ∙ counts_sum w h (voices_in w) (omega arith) in
      let m = all_before w h in
      record {
        few_voices = omega (arith, c, h.proper.good_limits.1);
        few_events = omega (arith, a, h.proper.good_limits.2);
        alterations_too = b ∙ sym a;
        lengths_too = d ∙ sym a;
        fitting = omega (arith, n, m, a, k.fitting);
        short = ap none_too_long rows_score ∙ k.short;
        fines = ap all_fines rows_score ∙ k.fines;
      }

-- the same of rows that are these
pub laid_of : {w ns ps xs ds : List ℕ} → Holds w → ns ≡ take (voices_in w) (drop 4 w) → ps ≡ take (limit_in w) (drop (places_from w) w)
    → xs ≡ take (limit_in w) (drop (alterations_from w) w) → ds ≡ take (limit_in w) (drop (lengths_from w) w) → Laid ns ps xs ds × (score_in ns ps xs ds ≡ score_of w)
laid_of {w} h n p x d = rw (n, p, x, d) (rows_laid w h, rows_score w h)

-- what is kept with the events of a voice says when they begin
onsets_timed : (k m : ℕ) (es : List Event) → 0 < m → Timed m (bars_of k m es) (ticks_of k m es) (map lasts es)
onsets_timed k m es h =
    let n = length-map es lasts in
    record {
      bars_too = length_bars k m es ∙ sym n;
      ticks_too = length_ticks k m es ∙ sym n;
      rise = IsNonDecreasingBy-from_default (λ x. x) (bars_of k m es) 0 (λ i j l q. bars_rise k m es i j h l (omega (arith, length_bars k m es)));
      begins = λ i l.
          let o = begins_at k m es i h (omega arith) in
          (o.0 ∙ total_sum (take i es) ∙ ap sum (sym (take-map lasts i es)), o.1);
    }

-- a part of a row of words
part_row : (w : List ℕ) (from n i k : ℕ) → i + k ≤ n → take k (drop i (take n (drop from w))) ≡ take k (drop (from + i) w)
part_row w from n i k l = ap (take k) (drop_take_sub i n (drop from w)) ∙ take-take k (n - i) (drop i (drop from w)) (omega arith) ∙ ap (take k) (drop-drop i from w)

module _ (w : List ℕ) (h : Holds w) where
  -- of one voice
  module _ (u : ℕ) (there : u < voices_in w) where
    abbrev begin : ℕ
    begin = sum (take u (C w h))

    abbrev count : ℕ
    count = get_or (C w h) u 0

    spans_u : Spans w u begin count
    spans_u =
        let n : 4 + u - 4 ≡ u = omega arith in
        spans w h u begin count there
        (ap sum (take-take u (voices_in w) (drop 4 w) (omega arith) ∙ ap (λ (k : ℕ). take k (drop 4 w)) (sym n)) ∙ counts_sum w h u (omega arith))
        (get_or-take (voices_in w) (drop 4 w) u 0 there ∙ get_or-drop 4 w u 0)

    row_part : (base : ℕ) → part (C w h) u (region w h base) ≡ take count (drop (base + begin) w)
    row_part base = part_row w base (limit_in w) begin count spans_u.within

    many : (base : ℕ) → base + limit_in w ≤ length w → length (take count (drop (base + begin) w)) ≡ count
    many base l = length-take-le count (drop (base + begin) w) (simp length-drop (omega (arith, spans_u.within)))

    lengths_there : map lasts (events_at w begin count) ≡ take count (drop (lengths_from w + begin) w)
    lengths_there =
        let z = h.proper.size in
        let p = many (places_from w) (omega arith) in
        let x = many (alterations_from w) (omega arith) in
        let d = many (lengths_from w) (omega arith) in
        lasts_voice _ _ _ (x ∙ sym p) (d ∙ sym p)

    voice_timed : Timed (get_or w 1 0) (part (C w h) u (region w h (bars_from w))) (part (C w h) u (region w h (beats_from w))) (part (C w h) u (region w h (lengths_from w)))
    voice_timed =
        let k = spans_u.kept_with in
        let all = onsets_timed (get_or w 0 0) (get_or w 1 0) (events_at w begin count) h.proper.good_layout.1 in
        rw (row_part (bars_from w), row_part (beats_from w), row_part (lengths_from w), k.bars, k.beats)
        (subst (Timed (get_or w 1 0) (bars_of (get_or w 0 0) (get_or w 1 0) (events_at w begin count)) (ticks_of (get_or w 0 0) (get_or w 1 0) (events_at w begin count))) lengths_there all)

  rows_timed : AllTimed (C w h) (region w h (lengths_from w)) (get_or w 1 0) (region w h (bars_from w)) (region w h (beats_from w))
  rows_timed =
      let z = h.proper.size in
      let d = region_long w h (lengths_from w) (omega arith) in
      record {
        positive = h.proper.good_layout.1;
        bars_too = region_long w h (bars_from w) (omega arith) ∙ sym d;
        ticks_too = region_long w h (beats_from w) (omega arith) ∙ sym d;
        each = λ u l. voice_timed u (omega (arith, length-take (voices_in w) (drop 4 w)));
      }

pub timed_of : {w ns ps ds bs ts : List ℕ} {m : ℕ} → Holds w → ns ≡ take (voices_in w) (drop 4 w) → ps ≡ take (limit_in w) (drop (places_from w) w)
    → ds ≡ take (limit_in w) (drop (lengths_from w) w) → bs ≡ take (length ps) (drop (bars_from w + 0) w) → ts ≡ take (length ps) (drop (beats_from w + 0) w)
    → m ≡ get_or w 1 0 → AllTimed ns ds m bs ts
timed_of {w} {ns} {ps} {ds} {bs} {ts} h n p d b t m =
    let z = h.proper.size in
    let long : length ps ≡ limit_in w = ap length p ∙ region_long w h (places_from w) (omega arith) in
    let whole = λ (i : ℕ). ap₂ (λ (k j : ℕ). take k (drop j w)) long (let e : i + 0 ≡ i = omega arith in e) in
    let bars : bs ≡ region w h (bars_from w) = b ∙ whole (bars_from w) in
    let ticks : ts ≡ region w h (beats_from w) = t ∙ whole (beats_from w) in
    rw (n, d, bars, ticks, m) (rows_timed w h)

-- ---- slots

together_slots : (s : Score) (a b : ℕ) → all_fines s ≡ true → together s 0 a b ≡ together s 0 (grain * up a) (grain * (up a + (up b - up a)))
together_slots s a b f =
    together_mixed s a b
    ∙ mixed_same _ _ (length s) 0 (λ u _. begins_slots u a b 0 (voice s u) (fines_voice s u f) refl)
    ∙ sym (together_mixed s (grain * up a) (grain * (up a + (up b - up a))))

-- what is heard in a span of ticks, and in the slots that the code takes for it
pub span_heard : (s : Score) (a b first n : ℕ) → all_fines s ≡ true → first ≡ up a → n ≡ up b - up a → together s 0 (grain * first) (grain * (first + n)) ≡ together s 0 a b
span_heard s a b first n h f g = rw (f, g) (sym (together_slots s a b h))
