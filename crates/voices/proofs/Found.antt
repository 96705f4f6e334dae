-- What a put, a cut and a change come to, by what each check finds in words that hold a score. Assumes nothing.
use Rattle.std.proofs.Common.{◌≡◌, ℕ, ◌+◌, ◌-◌, ◌<◌, ◌≤◌, true, false, ◌⊎◌, inl, inr, List, length, get_or, take, sym, ap, ◌∙◌, subst, arith}
use Rattle.std.specs.Prelude.{◌==◌}
use Rattle.std.proofs.lemmas.Bool.{eqb-true, cases_lt}
use Rattle.score.specs.declared.Refusal.TheVariants.{OutOfRange, NoVoice, NoEvent, Full}
use Rattle.score.specs.Music.{Event, silence, fine, lasts, total, length_end}
use Rattle.score.specs.Calls.{Call, put, cut, change, done, voice, all_events, ticks_end, place, told}
use Rattle.memory.specs.Store.{counts_from, voices_in, limit_in, bars_from, score_of}
use Rattle.memory.specs.Words.{Holds, Spans, answer_at, next_words, kept_anew, onsets_in, Unkept, Between}
use Rattle.memory.specs.Moves.{with_event, without_event, with_other}
use Rattle.laws.proofs.Reaching.{no_onset}
use Rattle.memory.proofs.Scores.{fine_fields}
use Rattle.memory.proofs.Held.{count_at, gap_within, place_within, length_there, bars_region, onset_word_at}
use Rattle.memory.proofs.Changes.{total_cut}
use Rattle.memory.proofs.Outcomes.{put_unfine, put_no_voice, put_no_event, put_too_many, put_too_long, put_done, cut_no_voice, cut_no_event, cut_done, change_unfine, change_no_voice, change_no_event, change_too_long, change_done}
use Rattle.memory.proofs.Changing.{put_between, cut_between, change_between}
use Rattle.rows.specs.declared.Row.{Row}
use Rattle.rows.specs.Rows.{row_of}
use Rattle.voices.specs.declared.Span.{Span}
use Rattle.voices.specs.Said.{TurnedAway, Writable, NotWritable}
use Rattle.voices.specs.Rows.{row_in}

-- A call is done, once what is kept of these words is derived anew, which is still wrong from one event of a voice on up to before another.
pub record Done (w : List ℕ) (c : Call) (w' : List ℕ) (begin count from to : ℕ) : Type 0 where
  pub said : done ≡ answer_at w c
  pub unkept : Unkept w' begin count from to
  pub left : (x : List ℕ) → x ≡ kept_anew w' → x ≡ next_words w c
  pub holds : (x : List ℕ) → x ≡ kept_anew w' → Holds x

-- what is done is what lies in between
done_between : {w : List ℕ} {c : Call} {w' : List ℕ} {begin count from to : ℕ} → done ≡ answer_at w c → Holds (next_words w c) → Between w c w' begin count from to → Done w c w' begin count from to
done_between said holds b = record {
  said = said;
  unkept = b.unkept;
  left = λ x e. e ∙ b.anew;
  holds = λ x e. subst Holds (sym (e ∙ b.anew)) holds;
}

pub short_row : (e : Event) (r : Row) → fine e ≡ true → r ≡ row_of e → r.length < length_end
short_row e r f g = let x = fine_fields e f in let l = ap (λ r. r.length) g in omega (arith, x.3)

-- where the event cannot be written, or the voice is not there
module _ (w : List ℕ) (h : Holds w) (v : ℕ) (e : Event) where
  pub unfine : fine e ≡ false → NotWritable w v e OutOfRange
  unfolding place
  unfine f = record {
    no_put = λ k. let a = put_unfine w h v k e f in record { said = sym a.said; left = sym a.left };
    no_change = λ k. let a = change_unfine w h v k e (silence 0) f in record { said = sym a.said; left = sym a.left };
  }

  pub no_voice : fine e ≡ true → voices_in w ≤ v → NotWritable w v e (NoVoice v)
  unfolding place
  no_voice f n = record {
    no_put = λ k. let a = put_no_voice w h v k e f n in record { said = sym a.said; left = sym a.left };
    no_change = λ k. let a = change_no_voice w h v k e (silence 0) f n in record { said = sym a.said; left = sym a.left };
  }

module _ (w : List ℕ) (h : Holds w) (v i : ℕ) where
  abbrev V : List Event
  V = voice (score_of w) v

  pub no_voice_to_cut : voices_in w ≤ v → TurnedAway w (cut v i) (NoVoice v)
  unfolding place
  no_voice_to_cut n = let a = cut_no_voice w h v i n in record { said = sym a.said; left = sym a.left }

  -- an event that can be written, for a voice that is there
  module _ (e : Event) (row : Row) (span : Span) (t : Writable w v e row span) where
    long : row.length ≡ lasts e
    long = ap (λ r. r.length) t.words

    -- it is to be put
    pub no_gap : span.count + 1 ≤ i → TurnedAway w (put v i e) (NoEvent i)
    unfolding place
    no_gap n = let a = put_no_event w h v i e t.can_write t.spans.there (omega (arith, t.spans.counts)) in record { said = sym a.said; left = sym a.left }

    module _ (at : ℕ) (g : (i < span.count + 1) × (at ≡ span.begin + i)) where
      in_it : i ≤ length V
      in_it = omega (arith, t.spans.counts, g.0)

      pub no_room : limit_in w ≤ all_events (score_of w) → TurnedAway w (put v i e) Full
      unfolding place
      no_room n = let a = put_too_many w h v i e t.can_write t.spans.there in_it n in record { said = sym a.said; left = sym a.left }

      pub too_long_to_put : ticks_end ≤ total V - 0 + row.length → TurnedAway w (put v i e) Full
      unfolding place
      too_long_to_put n = let a = put_too_long w h v i e t.can_write t.spans.there in_it (omega (arith, long)) in record { said = sym a.said; left = sym a.left }

      pub gap_in_all : at ≤ all_events (score_of w)
      gap_in_all = omega (arith, gap_within w h v i t.spans.there in_it, g.1, t.spans.begins)

      pub end_in_all : span.begin + span.count ≤ all_events (score_of w)
      end_in_all = let c = t.spans.counts in omega (arith, gap_within w h v span.count t.spans.there (omega (arith, c)), t.spans.begins)

      pub put_is : (used ticks : ℕ) → (used ≡ all_events (score_of w)) × (used < limit_in w) → (ticks ≡ total V - 0 + row.length) × (ticks < ticks_end) →
          Done w (put v i e) (with_event w v used at (span.begin + span.count) ticks row.place row.alteration row.length) span.begin (span.count + 1) i (span.count + 1)
      unfolding told
      put_is used ticks u k =
          let long_then : ticks ≡ total V + lasts e = omega (arith, k.0, long) in
          let room : all_events (score_of w) < limit_in w = omega (arith, u.0, u.1) in
          let d = put_done w h v i e t.can_write t.spans.there in_it room (omega (arith, k.1)) in
          let mid = put_between w h v i at ticks span.begin span.count t.spans.there t.spans g.1 e used t.can_write (omega (arith, g.0)) room k.1 u.0 long_then in
          let words = ap (λ r. with_event w v used at (span.begin + span.count) ticks r.place r.alteration r.length) t.words in
          done_between (sym d.said) d.holds (subst (λ x. Between w (put v i e) x span.begin (span.count + 1) i (span.count + 1)) (sym words) mid)

  -- an event that is there
  module _ (span : Span) (s : Spans w v span.begin span.count) where
    pub no_event_to_cut : span.count ≤ i → TurnedAway w (cut v i) (NoEvent i)
    unfolding place
    no_event_to_cut n = let a = cut_no_event w h v i s.there (omega (arith, s.counts)) in record { said = sym a.said; left = sym a.left }

    pub no_event_to_change : (e : Event) → fine e ≡ true → span.count ≤ i → TurnedAway w (change v i e) (NoEvent i)
    unfolding place
    no_event_to_change e f n = let a = change_no_event w h v i e (silence 0) f s.there (omega (arith, s.counts)) in record { said = sym a.said; left = sym a.left }

    module _ (at : ℕ) (g : (i < span.count) × (at ≡ span.begin + i)) (old : Row) (o : old ≡ row_in w at) where
      is_there : i < length V
      is_there = omega (arith, s.counts, g.0)

      place_is : at ≡ all_events (take v (score_of w)) + i
      place_is = omega (arith, g.1, s.begins)

      length_is : old.length ≡ lasts (get_or V i (silence 0))
      length_is = ap (λ r. r.length) o ∙ length_there w h v i (silence 0) s.there is_there at place_is

      pub not_longer : old.length ≤ total V
      not_longer = omega (arith, length_is, total_cut V i (silence 0) is_there)

      pub in_all : at < all_events (score_of w)
      in_all = omega (arith, place_within w h v i s.there is_there, place_is)

      pub last_in_all : span.begin + (span.count - 1) < all_events (score_of w)
      last_in_all = let c = s.counts in omega (arith, place_within w h v (span.count - 1) s.there (omega (arith, c, g.0)), s.begins, g.0)

      pub some_there : 0 < get_or w (counts_from + v) 0
      some_there = omega (arith, count_at w h v s.there, is_there)

      pub cut_is : (used ticks : ℕ) → used ≡ all_events (score_of w) → ticks ≡ total V - old.length → Done w (cut v i) (without_event w v used at (span.begin + (span.count - 1)) ticks) span.begin (span.count - 1) i (span.count - 1)
      unfolding told
      cut_is used ticks u k =
          let d = cut_done w h v i s.there is_there in
          let mid = cut_between w h v i at ticks span.begin span.count s.there s g.1 (silence 0) used g.0 u (k ∙ ap (λ n. total V - n) length_is) in
          done_between (sym d.said) d.holds mid

      module _ (e : Event) (row : Row) (f : fine e ≡ true) (r : row ≡ row_of e) where
        long_else : total V - old.length + row.length ≡ total V - lasts (get_or V i (silence 0)) + lasts e
        long_else = ap (λ n. total V - n + row.length) length_is ∙ ap (λ r. total V - lasts (get_or V i (silence 0)) + r.length) r

        pub too_long_to_change : ticks_end ≤ total V - old.length + row.length → TurnedAway w (change v i e) Full
        unfolding place
        too_long_to_change n =
            let a = change_too_long w h v i e (silence 0) f s.there is_there (subst (λ n. ticks_end ≤ n) long_else n) in record { said = sym a.said; left = sym a.left }

        -- the bar that is kept with an event of the voice
        kept_bar : (n : ℕ) → n < span.count → get_or w (bars_from w + (span.begin + n)) 0 ≡ (get_or (onsets_in w v) n no_onset).bar
        kept_bar n l =
            ap (λ b. get_or w (bars_from w + (b + n)) 0) s.begins ∙ onset_word_at w h (λ x. x.bar) (bars_from w) v n no_onset (bars_region w h) s.there (omega (arith, l, s.counts))

        -- how far the change reaches
        abbrev Reach : ℕ → Type 0
        Reach to =
            (span.count ≤ to)
            ⊎ ((lasts e ≡ lasts (get_or V i (silence 0))) × (i < to) × ((get_or (onsets_in w v) to no_onset).bar ≡ (get_or (onsets_in w v) i no_onset).bar → ⊥))

        reach : (to : ℕ) → i < to
            → (to ≡ span.count) ⊎ (((row.length == old.length) ≡ true) × (get_or w (bars_from w + (span.begin + to)) 0 ≡ get_or w (bars_from w + (span.begin + i)) 0 → ⊥)) → Reach to
        reach to b (inl z) = inl (omega arith)
        reach to b (inr z) = go (cases_lt to span.count)
          where
            go : (to < span.count) ⊎ (span.count ≤ to) → Reach to
            go (inr q) = inl q
            go (inl q) = inr (sym (ap (λ x. x.length) r) ∙ (eqb-true _ _ z.0 ∙ length_is), b, (λ h. z.1 (kept_bar to q ∙ (h ∙ sym (kept_bar i g.0)))))

        pub change_is : (ticks to : ℕ) → (ticks ≡ total V - old.length + row.length) × (ticks < ticks_end) → i < to
            → (to ≡ span.count) ⊎ (((row.length == old.length) ≡ true) × (get_or w (bars_from w + (span.begin + to)) 0 ≡ get_or w (bars_from w + (span.begin + i)) 0 → ⊥))
            → Done w (change v i e) (with_other w v at ticks row.place row.alteration row.length) span.begin span.count i to
        unfolding told
        change_is ticks to k b o =
            let long_then = k.0 ∙ long_else in
            let d = change_done w h v i e (silence 0) f s.there is_there (subst (λ n. n < ticks_end) long_then k.1) in
            let mid = change_between w h v i at ticks span.begin span.count s.there s g.1 e (silence 0) to f g.0 k.1 long_then (reach to b o) in
            let words = ap (λ x. with_other w v at ticks x.place x.alteration x.length) r in
            done_between (sym d.said) d.holds (subst (λ x. Between w (change v i e) x span.begin span.count i to) (sym words) mid)
