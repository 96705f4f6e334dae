-- What a score keeps over calls, and the engraver over a run of them. Assumes nothing.
use Rattle.std.proofs.Common.{◌≡◌, ℕ, zero, suc, ◌<◌, Bool, true, eqb, leb, List, [], ◌∷◌, ◌++◌, length, take, drop, set, sym, refl, ap, ◌∙◌, subst, arith}
use Rattle.std.proofs.lemmas.List.{length-set}
use Rattle.std.proofs.lemmas.Bool.{and_parts, and_from, eqb-true, leb-true}
use Rattle.score.specs.Music.{Event, total, fine, all_fine}
use Rattle.score.specs.Calls.{Call, put, cut, change, show, heard_in, how_long, Limits, Layout, Score, voice, all_events, none_too_long, empty_voices, good_fields, changed, turned, after, answer, answers, ran}
use Rattle.score.specs.Promise.{Memory, Engraver, told_by, left_by, Right, RefusalKeeps}
use Rattle.score.proofs.Picks.{pick_both}
use Rattle.laws.proofs.Turning.{not_turned, after_turned}
use Rattle.memory.specs.Store.{stored, limits_by, layout_of, score_of, all_fines, KeptIn, Kept}
use Rattle.memory.specs.Words.{answer_by, words_by, engraver_by}
use Rattle.memory.proofs.Scores.{fine_append, fine_parts, fines_voice}
use Rattle.memory.proofs.Back.{score_back}

-- ---- events stay such that they can be written

fines_set : (s : Score) (v : ℕ) (x : List Event) → all_fines s ≡ true → all_fine x ≡ true → all_fines (set s v x) ≡ true
unfolding all_fines
fines_set [] v x h ok = refl
fines_set (y ∷ ys) zero x h ok = and_from _ _ ok (and_parts (all_fine y) _ h).1
fines_set (y ∷ ys) (suc v) x h ok = let p = and_parts (all_fine y) _ h in and_from _ _ p.0 (fines_set ys v x p.1 ok)

fine_change : (v : List Event) (i : ℕ) (e : Event) → all_fine v ≡ true → fine e ≡ true → all_fine (set v i e) ≡ true
unfolding all_fine
fine_change [] i e h ok = refl
fine_change (y ∷ ys) zero e h ok = and_from _ _ ok (and_parts (fine y) _ h).1
fine_change (y ∷ ys) (suc i) e h ok = let p = and_parts (fine y) _ h in and_from _ _ p.0 (fine_change ys i e p.1 ok)

fine_put : (v : List Event) (i : ℕ) (e : Event) → all_fine v ≡ true → fine e ≡ true → all_fine (take i v ++ (e ∷ drop i v)) ≡ true
unfolding all_fine
fine_put v i e h ok = let p = fine_parts i v h in fine_append (take i v) (e ∷ drop i v) ∙ and_from _ _ p.0 (and_from _ _ ok p.1)

fine_cut : (v : List Event) (i : ℕ) → all_fine v ≡ true → all_fine (take i v ++ drop (suc i) v) ≡ true
fine_cut v i h = fine_append (take i v) (drop (suc i) v) ∙ and_from _ _ (fine_parts i v h).0 (fine_parts (suc i) v h).1

fines_changed : (l : Limits) (y : Layout) (s : Score) (c : Call) → good_fields l y c ≡ true → all_fines s ≡ true → all_fines (changed s c) ≡ true
unfolding changed good_fields
fines_changed l y s (put v i e) g h = fines_set s v _ h (fine_put (voice s v) i e (fines_voice s v h) (and_parts (fine e) _ g).0)
fines_changed l y s (cut v i) g h = fines_set s v _ h (fine_cut (voice s v) i (fines_voice s v h))
fines_changed l y s (change v i e) g h = fines_set s v _ h (fine_change (voice s v) i e (fines_voice s v h) (and_parts (fine e) _ g).0)
fines_changed l y s (show v b n) g h = h
fines_changed l y s (heard_in a b) g h = h
fines_changed l y s (how_long v) g h = h

-- ---- what a score keeps

length_changed : (s : Score) (c : Call) → length (changed s c) ≡ length s
unfolding changed
length_changed s (put v i e) = length-set s v _
length_changed s (cut v i) = length-set s v _
length_changed s (change v i e) = length-set s v _
length_changed s (show v b n) = refl
length_changed s (heard_in a b) = refl
length_changed s (how_long v) = refl

pub kept_changed : (l : Limits) (y : Layout) (s : Score) (c : Call) → Kept l s → turned l y s c ≡ 0 → Kept l (changed s c)
kept_changed l y s c k h =
    let z = not_turned l y s c h in
    let f = and_parts (leb (all_events (changed s c)) l.events) (none_too_long (changed s c)) z.2 in
    record {
      so_many = length_changed s c ∙ k.so_many;
      fitting = leb-true _ _ f.0;
      short = f.1;
      fines = fines_changed l y s c (and_parts _ (good_fields l y c) z.0).1 k.fines;
    }

pub kept_after : (l : Limits) (y : Layout) (s : Score) (c : Call) → Kept l s → Kept l (after l y s c)
kept_after l y s c k =
    pick_both (KeptIn l.voices l.events) (eqb (turned l y s c) 0) (changed s c) s
    (λ z. kept_changed l y s c k (eqb-true _ 0 z)) (λ z. k)

pub kept_ran : (l : Limits) (y : Layout) (s : Score) (cs : List Call) → Kept l s → Kept l (ran l y s cs)
unfolding ran
kept_ran l y s [] k = k
kept_ran l y s (c ∷ cs) k = kept_ran l y (after l y s c) cs (kept_after l y s c k)

-- ---- voices without events

length_empty : (n : ℕ) → length (empty_voices n) ≡ n
unfolding empty_voices
length_empty zero = refl
length_empty (suc n) = ap suc (length_empty n)

events_empty : (n : ℕ) → all_events (empty_voices n) ≡ 0
unfolding empty_voices all_events
events_empty zero = refl
events_empty (suc n) = simp (events_empty n)

short_empty : (n : ℕ) → none_too_long (empty_voices n) ≡ true
unfolding empty_voices none_too_long total
short_empty zero = refl
short_empty (suc n) = short_empty n

fines_empty : (n : ℕ) → all_fines (empty_voices n) ≡ true
unfolding empty_voices all_fines all_fine
fines_empty zero = refl
fines_empty (suc n) = fines_empty n

pub kept_empty : (l : Limits) → Kept l (empty_voices l.voices)
kept_empty l = record {
  so_many = length_empty l.voices;
  fitting = rw (events_empty l.voices) (omega arith);
  short = short_empty l.voices;
  fines = fines_empty l.voices;
}

-- ---- the engraver of a stage

module _ (can : ℕ → Bool) (signed : Bool) where
  -- limits as the words have them
  abbrev pub kin : Limits → Limits
  kin l = record { calls_can = can; signs = signed; voices = l.voices; events = l.events }

  abbrev E : Engraver
  E = engraver_by can signed

  kin_is : (l : Limits) → l.calls_can ≡ can → l.signs ≡ signed → kin l ≡ l
  kin_is l p q =
      let mk : (ℕ → Bool) → Bool → Limits = λ f b. record { calls_can = f; signs = b; voices = l.voices; events = l.events } in
      sym (ap (λ f. mk f l.signs) p ∙ ap (λ b. mk can b) q)

  -- one call, then all
  module _ (l : Limits) (y : Layout) where
    pub says_is : (m : Memory) (s : Score) (c : Call) → Kept l s → m.words ≡ stored l y s → E.says m c ≡ answer (kin l) y s c
    unfolding stored answer_by
    says_is m s c k e =
        ap (λ w. answer (limits_by can signed w) (layout_of w) (score_of w) c) e
        ∙ ap (λ t. answer (kin l) y t c) (score_back l y s k)

    pub next_is : (m : Memory) (s : Score) (c : Call) → Kept l s → m.words ≡ stored l y s → (E.next m c).words ≡ stored l y (after (kin l) y s c)
    unfolding stored words_by
    next_is m s c k e =
        ap (λ w. stored (limits_by can signed w) (layout_of w) (after (limits_by can signed w) (layout_of w) (score_of w) c)) e
        ∙ ap (λ t. stored l y (after (kin l) y t c)) (score_back l y s k)

    told_is : (m : Memory) (s : Score) (cs : List Call) → Kept l s → m.words ≡ stored l y s → told_by E m cs ≡ answers (kin l) y s cs
    unfolding told_by answers
    told_is m s [] k e = refl
    told_is m s (c ∷ cs) k e =
        let a = says_is m s c k e in
        let b = told_is (E.next m c) (after (kin l) y s c) cs (kept_after (kin l) y s c k) (next_is m s c k e) in cc

    pub left_is : (m : Memory) (s : Score) (cs : List Call) → Kept l s → m.words ≡ stored l y s → (left_by E m cs).words ≡ stored l y (ran (kin l) y s cs)
    unfolding left_by ran
    left_is m s [] k e = e
    left_is m s (c ∷ cs) k e = left_is (E.next m c) (after (kin l) y s c) cs (kept_after (kin l) y s c k) (next_is m s c k e)

  pub right : Right can signed E
  unfolding Right
  right l y cs gy gl p q r =
      told_is l y (E.opened l y) (empty_voices l.voices) cs (kept_empty l) refl
      ∙ ap (λ n. answers n y (empty_voices l.voices) cs) (kin_is l p q)

  pub keeps : RefusalKeeps can signed E
  unfolding RefusalKeeps
  keeps l y cs c p q gy gl r h =
      let s : Score = ran (kin l) y (empty_voices l.voices) cs in
      let m : Memory = left_by E (E.opened l y) cs in
      let e : m.words ≡ stored l y s = left_is l y (E.opened l y) (empty_voices l.voices) cs (kept_empty l) refl in
      let k : Kept l s = kept_ran (kin l) y (empty_voices l.voices) cs (kept_empty l) in
      let t : 0 < turned (kin l) y s c = subst (λ n. 0 < turned n y (ran n y (empty_voices l.voices) cs) c) (sym (kin_is l p q)) h in
      next_is l y m s c k e ∙ (ap (stored l y) (after_turned (kin l) y s c t) ∙ sym e)
