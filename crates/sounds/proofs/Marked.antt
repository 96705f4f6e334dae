-- The slots and cursors of the voices that have been marked, one voice after the other. Assumes nothing.
use Rattle.std.proofs.Common.{◌≡◌, ℕ, zero, suc, ◌+◌, ◌-◌, ◌*◌, ◌%◌, ◌<◌, ◌≤◌, true, List, [], ◌∷◌, ◌++◌, map, length, get_or, take, drop, set, sum, sym, ap, ◌∙◌, subst, inl, inr, zero-add, arith}
use Rattle.std.proofs.lemmas.List.{get_or-set_same, get_or-set_other, length-drop, take-map}
use Rattle.std.proofs.lemmas.Bool.{cases_eq, cases_lt}
use Rattle.score.specs.Music.{Event, lasts, heard, total, all_fine}
use Rattle.score.specs.Calls.{Score, ticks_end, voice, begins, together}
use Rattle.laws.specs.Rows.{voice_of}
use Rattle.laws.proofs.Events.{total_three}
use Rattle.memory.proofs.Scores.{fines_voice, fine_parts, short_voice}
use Rattle.std.specs.Int.{bit_at}
use Rattle.sounds.specs.Spans.{from_event, until, starts, mixed, passed, note_ticks, ticks_from, grain, begun, marks, score_in, Laid, part, left, Ready, all_left}
use Rattle.std.proofs.lemmas.Nat.Bits.{bit_at-zero, bit_at-lt}
use Rattle.sounds.proofs.Begun.{Free, Rising, begun_none, marks_other, marks_same}
use Rattle.sounds.proofs.Walks.{ticks_no_lengths}
use Rattle.sounds.proofs.Turns.{begun_later, begun_here}
use Rattle.sounds.proofs.Mixed.{mixed_same, together_mixed}
use Rattle.sounds.proofs.Parts.{voice_drop, voice_take, lasts_voice, total_sum, voice_dealt, same_long, part_long, begins_passed, starts_until, rising_starts, rising_later, length_dealt, absent, none_left}

no_bit : (u t m : ℕ) (ms : List ℕ) → begun u t (m ∷ ms) ≡ [] → bit_at m u ≡ 0
no_bit u t m ms h = elim (cases_eq (bit_at m u) 1) [
  | inl e ↦ let f : t ∷ begun u (t + grain) ms ≡ [] = sym (begun_here u t m ms e) ∙ h in cc
  | inr ne ↦ omega (arith, bit_at-lt m u)
]

-- a voice that begins no note has no bit
begun_free : (u t : ℕ) (ms : List ℕ) → begun u t ms ≡ [] → Free u 0 ms
unfolding begun
begun_free u t [] h j l = bit_at-zero u
begun_free u t (m ∷ ms) h zero l = no_bit u t m ms h
begun_free u t (m ∷ ms) h (suc j) l = begun_free u (t + grain) ms (sym (begun_later u t m ms (no_bit u t m ms h)) ∙ h) j (omega arith)

rising_none : (t e : ℕ) → Rising t e []
unfolding Rising
rising_none t e = tt

-- the first k voices are marked, and no other
pub record Marked (ns ps xs ds : List ℕ) (first e : ℕ) (cursors ms : List ℕ) (k : ℕ) : Type 0 where
  pub whole : (u : ℕ) → u < k → left ns ps xs ds e cursors u ≡ begins u (grain * first) e (heard (voice (score_in ns ps xs ds) u) 0)
  pub told : (u : ℕ) → u < k → starts (left ns ps xs ds e cursors u) ≡ begun u (grain * first) ms
  pub reached : (u : ℕ) → u < k → sum (take u ns) ≤ get_or cursors u 0
  pub free : (u : ℕ) → k ≤ u → begun u (grain * first) ms ≡ []

-- the words of the events of voice k
module _ (ns ps xs ds : List ℕ) (laid : Laid ns ps xs ds) (k : ℕ) where
  abbrev Es : List Event
  Es = voice (score_in ns ps xs ds) k

  abbrev own : List ℕ → List ℕ
  own = part ns k

  pub in_rows : Es ≡ voice_of (own ps) (own xs) (own ds)
  in_rows =
      voice_dealt ns (voice_of ps xs ds) k ∙ ap (take (get_or ns k 0)) (voice_drop (sum (take k ns)) ps xs ds)
      ∙ voice_take (get_or ns k 0) (drop (sum (take k ns)) ps) (drop (sum (take k ns)) xs) (drop (sum (take k ns)) ds)

  lengths_are : map lasts Es ≡ own ds
  lengths_are = ap (map lasts) in_rows ∙ lasts_voice (own ps) (own xs) (own ds) (same_long ns k ps xs laid.alterations_too) (same_long ns k ps ds laid.lengths_too)

  pub part_short : sum (own ds) < ticks_end
  part_short = subst (λ (n : ℕ). n < ticks_end) (total_sum Es ∙ ap sum lengths_are) (short_voice (score_in ns ps xs ds) k laid.short)

  -- events that are passed over have so many ticks
  ticks_are : (r : ℕ) → total (take r Es) ≡ sum (take r (own ds))
  ticks_are r = total_sum (take r Es) ∙ ap sum (sym (take-map lasts r Es)) ∙ ap (λ (ws : List ℕ). sum (take r ws)) lengths_are

  -- what is heard from tick a on is heard behind the events that begin before it
  pub heard_behind : (a e r : ℕ) → r ≡ passed a 0 (own ds) → begins k a e (heard Es 0) ≡ until k e (heard (drop r Es) (sum (take r (own ds))))
  heard_behind a e r passes =
      begins_passed k a e 0 Es
      ∙ ap (λ (i : ℕ). until k e (heard (drop i Es) (0 + total (take i Es)))) (ap (passed a 0) lengths_are ∙ sym passes)
      ∙ ap (λ (i : ℕ). until k e (heard (drop r Es) i)) (zero-add (total (take r Es)) ∙ ticks_are r)

  -- One voice more, of which r events are passed over.
  module _ (first E : ℕ) (cursors ms : List ℕ) (begin : ℕ) (there : k < length ns) (begins_at : begin ≡ sum (take k ns)) where
    module _ (r : ℕ) (passes : r ≡ passed (grain * first) 0 (own ds)) where
      abbrev tick : ℕ
      tick = sum (take r (own ds))

      abbrev Ticks : List ℕ
      Ticks = note_ticks E tick (drop r (own ps)) (drop r (own ds))

      row_starts : starts (until k E (heard (drop r Es) tick)) ≡ Ticks
      row_starts =
          ap (λ (es : List Event). starts (until k E (heard (drop r es) tick))) in_rows
          ∙ ap (λ (es : List Event). starts (until k E (heard es tick))) (voice_drop r (own ps) (own xs) (own ds))
          ∙ starts_until k E tick (drop r (own ps)) (drop r (own xs)) (drop r (own ds)) (simp (length-drop, same_long ns k ps xs laid.alterations_too))

      -- the ticks rise, from the first slot on
      module _ (reaches : r < length (own ds) → grain * first ≤ tick) where
        all_fine_voice : all_fine Es ≡ true
        all_fine_voice = fines_voice (score_in ns ps xs ds) k laid.fines

        ticks_rise : Rising (grain * first) E Ticks
        ticks_rise =
            let m : tick % grain ≡ 0 = ap (λ (n : ℕ). n % grain) (sym (ticks_are r)) ∙ total_three (take r Es) (fine_parts r Es all_fine_voice).0 in
            let up : Rising tick E Ticks = subst (Rising tick E) row_starts (rising_starts k E tick (drop r Es) (fine_parts r Es all_fine_voice).1 m) in
            elim (cases_lt r (length (own ds))) [
              | inl l ↦ rising_later (grain * first) tick E Ticks (reaches l) up
              | inr l ↦ subst (Rising (grain * first) E) (sym (no_ticks l)) (rising_none (grain * first) E)
            ]
          where
            no_ticks : length (own ds) ≤ r → Ticks ≡ []
            no_ticks l = ticks_no_lengths E tick (drop r (own ps)) (drop r (own ds)) (simp length-drop (omega arith))

        module _ (ends : E ≤ grain * (first + length ms)) (room : length ns ≤ length cursors) (before : Marked ns ps xs ds first E cursors ms k) where
          abbrev Then : List ℕ
          Then = marks k first Ticks ms

          abbrev Cursors : List ℕ
          Cursors = set cursors k (begin + r)

          own_cursor : get_or Cursors k 0 ≡ begin + r
          own_cursor = get_or-set_same cursors k (begin + r) 0 (omega arith)

          own_left : left ns ps xs ds E Cursors k ≡ until k E (heard (drop r Es) tick)
          own_left =
              let i : get_or Cursors k 0 - sum (take k ns) ≡ r = omega (arith, own_cursor) in
              ap (λ (n : ℕ). until k E (from_event Es n)) i ∙ ap (λ (n : ℕ). until k E (heard (drop r Es) n)) (ticks_are r)

          other_left : (u : ℕ) → (u ≡ k → ⊥) → left ns ps xs ds E Cursors u ≡ left ns ps xs ds E cursors u
          other_left u ne = ap (λ (n : ℕ). until u E (from_event (voice (score_in ns ps xs ds) u) (n - sum (take u ns)))) (get_or-set_other cursors k u (begin + r) 0 ne)

          own_slots : begun k (grain * first) Then ≡ Ticks
          own_slots =
              let none = before.free k (omega arith) in
              let zeroth : grain * first ≡ grain * (first + 0) = omega arith in
              marks_same k first 0 E Ticks ms (begun_free k (grain * first) ms none) ends (subst (λ (n : ℕ). Rising n E Ticks) zeroth ticks_rise)
              ∙ ap (λ (ts : List ℕ). ts ++ Ticks) none

          -- what holds of voice k, and of those before it, holds of all
          each_voice : (P : ℕ → Type 0) → P k → ((u : ℕ) → u < k → P u) → (u : ℕ) → u < k + 1 → P u
          each_voice P here others u l = elim (cases_eq u k) [ inl q ↦ subst P (sym q) here | inr ne ↦ others u (omega arith) ]

          marked_more : Marked ns ps xs ds first E Cursors Then (k + 1)
          marked_more = record {
            whole =
                each_voice (λ u. left ns ps xs ds E Cursors u ≡ begins u (grain * first) E (heard (voice (score_in ns ps xs ds) u) 0))
                (own_left ∙ sym (heard_behind (grain * first) E r passes))
                (λ u l. other_left u (λ q. omega arith) ∙ before.whole u l);
            told =
                each_voice (λ u. starts (left ns ps xs ds E Cursors u) ≡ begun u (grain * first) Then)
                (ap starts own_left ∙ row_starts ∙ sym own_slots)
                (λ u l. ap starts (other_left u (λ q. omega arith)) ∙ before.told u l ∙ sym (marks_other k first u (grain * first) Ticks ms (λ q. omega arith)));
            reached =
                each_voice (λ u. sum (take u ns) ≤ get_or Cursors u 0)
                (omega (arith, own_cursor))
                (λ u l. subst (λ (n : ℕ). sum (take u ns) ≤ n) (sym (get_or-set_other cursors k u (begin + r) 0 (λ q. omega arith))) (before.reached u l));
            free = λ u l. marks_other k first u (grain * first) Ticks ms (λ q. omega arith) ∙ before.free u (omega arith);
          }

-- the same of the slots as the code has them, which end at tick e
pub marked_step :
    {ns ps xs ds : List ℕ} {first e : ℕ} {cursors ms : List ℕ} {k begin : ℕ} (r : ℕ) (slots : List ℕ) → Laid ns ps xs ds → k < length ns → begin ≡ sum (take k ns)
    → length ns ≤ length cursors → e ≤ grain * (first + length ms) → Marked ns ps xs ds first e cursors ms k
    → r ≡ passed (grain * first) 0 (part ns k ds)
    → (r < get_or ns k 0 → grain * first ≤ sum (take r (part ns k ds)))
    → slots ≡ marks k first (ticks_from e (part ns k ps) (part ns k ds) r) ms
    → Marked ns ps xs ds first e (set cursors k (begin + r)) slots (k + 1)
marked_step {ns} {ps} {xs} {ds} {first} {e} {cursors} {ms} {k} {begin} r slots laid there begins_at room ends before passes reaches done =
    let many = part_long ns k ds there (omega (arith, laid.fitting, laid.lengths_too)) in
    rw done (marked_more ns ps xs ds laid k first e cursors ms begin there begins_at r passes (λ l. reaches (omega (arith, many))) ends room before)

-- ---- before the first voice, and after the last

pub marked_none : (ns ps xs ds : List ℕ) (first e : ℕ) (cursors ms : List ℕ) → ((j : ℕ) → get_or ms j 0 ≡ 0) → Marked ns ps xs ds first e cursors ms 0
marked_none ns ps xs ds first e cursors ms empty = record {
  whole = λ u l. absurd (omega arith);
  told = λ u l. absurd (omega arith);
  reached = λ u l. absurd (omega arith);
  free = λ u l. begun_none u (grain * first) ms (λ j q. ap (λ (i : ℕ). bit_at i u) (empty j) ∙ bit_at-zero u);
}

module _ (ns ps xs ds : List ℕ) (first e : ℕ) (cursors ms : List ℕ) (all : Marked ns ps xs ds first e cursors ms (length ns)) where
  abbrev S : Score
  S = score_in ns ps xs ds

  pub marked_ready : Ready ns ps xs ds e cursors (grain * first) ms
  marked_ready = record {
    begin = record {
      told = λ u. elim (cases_lt u (length ns)) [ inl l ↦ all.told u l | inr l ↦ ap starts (none_left ns ps xs ds e cursors u l) ∙ sym (all.free u l) ];
    };
    reached = all.reached;
  }

  pub marked_whole : all_left ns ps xs ds e cursors ≡ together S 0 (grain * first) e
  unfolding begins heard
  marked_whole =
      mixed_same _ _ (length ns) 0 (λ u _. elim (cases_lt u (length ns)) [
        | inl l ↦ all.whole u l
        | inr l ↦ none_left ns ps xs ds e cursors u l ∙ sym (ap (λ (es : List Event). begins u (grain * first) e (heard es 0)) (absent ns ps xs ds u l))
      ])
      ∙ ap (λ (n : ℕ). mixed (λ u. begins u (grain * first) e (heard (voice S u) 0)) n 0) (sym (length_dealt ns (voice_of ps xs ds)))
      ∙ sym (together_mixed S (grain * first) e)
