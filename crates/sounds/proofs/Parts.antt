-- Voices in three rows of words: what is heard of them in a span, and which note comes next. Assumes nothing.
use Rattle.std.proofs.Common.{◌≡◌, ℕ, zero, suc, ◌+◌, ◌-◌, ◌*◌, ◌/◌, ◌%◌, ◌<◌, ◌≤◌, min, Bool, true, false, cond, one-add, ◌&&◌, eqb, ltb, leb, List, [], ◌∷◌, map, length, get_or, take, drop, sum, sym, refl, ap, ap₂, ◌∙◌, inl, inr, suc-add, arith}
use Rattle.std.proofs.lemmas.List.{length-take, length-take-le, length-drop, drop-drop, drop_all, get_or_past}
use Rattle.std.proofs.lemmas.List.Sums.{sum_by-cons, sum_by_more, sum_by-take-le}
use Rattle.std.proofs.lemmas.Grind.{common_steps}
use Rattle.std.proofs.lemmas.Bool.{and_parts, and_from, and_left, and_right, cases_lt, le-leb, lt-leb, lt-ltb, le-ltb, ltb-true}
use Rattle.score.specs.Music.{pick, places, alterations, length_end, Event, note, silence, lasts, tone, Heard, heard, total, fine, all_fine}
use Rattle.score.specs.Calls.{voice, begins}
use Rattle.score.proofs.Picks.{pick_true, pick_false, pick_both}
use Rattle.laws.specs.Rows.{event_of, voice_of}
use Rattle.laws.proofs.Events.{fine_lasts}
use Rattle.laws.proofs.Rows.{lasts_words}
use Rattle.memory.proofs.Scores.{fine_fields, fine_place}
use Rattle.memory.specs.Store.{dealt}
use Rattle.sounds.specs.Spans.{Row, from_event, until, starts, grain, passed, note_ticks, silences, sound_at, score_in, part, left}
use Rattle.sounds.proofs.Begun.{Rising}

-- ---- parts of rows

no_alterations : (ps ds : List ℕ) → voice_of ps [] ds ≡ []
unfolding voice_of
no_alterations [] ds = refl
no_alterations (p ∷ ps) ds = refl

no_lengths : (ps xs : List ℕ) → voice_of ps xs [] ≡ []
unfolding voice_of
no_lengths [] xs = refl
no_lengths (p ∷ ps) [] = refl
no_lengths (p ∷ ps) (x ∷ xs) = refl

pub voice_drop : (k : ℕ) (ps xs ds : List ℕ) → drop k (voice_of ps xs ds) ≡ voice_of (drop k ps) (drop k xs) (drop k ds)
unfolding voice_of
voice_drop zero ps xs ds = refl
voice_drop (suc k) [] xs ds = refl
voice_drop (suc k) (p ∷ ps) [] ds = sym (no_alterations (drop k ps) (drop (suc k) ds))
voice_drop (suc k) (p ∷ ps) (x ∷ xs) [] = sym (no_lengths (drop k ps) (drop k xs))
voice_drop (suc k) (p ∷ ps) (x ∷ xs) (d ∷ ds) = voice_drop k ps xs ds

pub voice_take : (k : ℕ) (ps xs ds : List ℕ) → take k (voice_of ps xs ds) ≡ voice_of (take k ps) (take k xs) (take k ds)
unfolding voice_of
voice_take zero ps xs ds = refl
voice_take (suc k) [] xs ds = refl
voice_take (suc k) (p ∷ ps) [] ds = refl
voice_take (suc k) (p ∷ ps) (x ∷ xs) [] = refl
voice_take (suc k) (p ∷ ps) (x ∷ xs) (d ∷ ds) = ap (λ (r : List Event). event_of p x d ∷ r) (voice_take k ps xs ds)

pub length_voice : (ps xs ds : List ℕ) → length xs ≡ length ps → length ds ≡ length ps → length (voice_of ps xs ds) ≡ length ps
unfolding voice_of
length_voice [] xs ds p q = refl
length_voice (p ∷ ps) [] ds e q = absurd (omega arith)
length_voice (p ∷ ps) (x ∷ xs) [] e q = absurd (omega arith)
length_voice (p ∷ ps) (x ∷ xs) (d ∷ ds) e q = grind (arith, length_voice ps xs ds)

pub lasts_voice : (ps xs ds : List ℕ) → length xs ≡ length ps → length ds ≡ length ps → map lasts (voice_of ps xs ds) ≡ ds
unfolding voice_of
lasts_voice [] xs [] p q = refl
lasts_voice [] xs (d ∷ ds) p q = absurd (omega arith)
lasts_voice (p ∷ ps) [] ds e q = absurd (omega arith)
lasts_voice (p ∷ ps) (x ∷ xs) [] e q = absurd (omega arith)
lasts_voice (p ∷ ps) (x ∷ xs) (d ∷ ds) e q =
    let a = lasts_words p x d in
    let b = lasts_voice ps xs ds (omega arith) (omega arith) in cc

pub total_sum : (es : List Event) → total es ≡ sum (map lasts es)
unfolding total
total_sum [] = refl
total_sum (e ∷ es) = let c = sum_by-cons (λ x. x) (lasts e) (map lasts es) in omega (arith, c, total_sum es)

-- the ticks of a front, in two parts
pub total_take : (i k : ℕ) (es : List Event) → total (take i es) + total (take k (drop i es)) ≡ total (take (i + k) es)
unfolding total
total_take zero k es = grind (arith, common_steps)
total_take (suc i) k [] = grind (arith, common_steps)
total_take (suc i) k (e ∷ es) = rw suc-add (omega (arith, total_take i k es))

-- a note that can be written has fields in range
pub note_fields : (p a d : ℕ) → fine (note p a d) ≡ true → (p < places) × (a < alterations) × (d < length_end)
unfolding lasts
note_fields p a d h = let f = fine_fields (note p a d) h in (fine_place p a d h, f.1, f.3)

-- a voice among those that are dealt out
pub voice_dealt : (ns : List ℕ) (es : List Event) (u : ℕ) → voice (dealt ns es) u ≡ take (get_or ns u 0) (drop (sum (take u ns)) es)
unfolding dealt
voice_dealt [] es u = refl
voice_dealt (n ∷ ns) es zero = refl
voice_dealt (n ∷ ns) es (suc u) =
    voice_dealt ns (drop n es) u
    ∙ ap (λ (xs : List Event). take (get_or ns u 0) xs) (drop-drop (sum (take u ns)) n es ∙ ap (λ (k : ℕ). drop k es) (sym (sum_by-cons (λ x. x) n (take u ns))))

pub length_dealt : (ns : List ℕ) (es : List Event) → length (dealt ns es) ≡ length ns
unfolding dealt
length_dealt [] es = refl
length_dealt (n ∷ ns) es = ap suc (length_dealt ns (drop n es))

pub drop_take_sub : {A : Type 0} (i c : ℕ) (xs : List A) → drop i (take c xs) ≡ take (c - i) (drop i xs)
drop_take_sub zero c xs = grind (arith, common_steps)
drop_take_sub (suc i) zero xs = grind (arith, common_steps)
drop_take_sub (suc i) (suc c) [] = grind (arith, common_steps)
drop_take_sub (suc i) (suc c) (x ∷ xs) = grind (arith, common_steps, drop_take_sub i c xs)

-- the words of voice u's events, as the code takes them: all, and those from the r-th on
module _ (ns : List ℕ) (u : ℕ) {begin count : ℕ} (begins_at : begin ≡ sum (take u ns)) (counts_are : count ≡ get_or ns u 0) where
  pub part_is : (ws : List ℕ) → take (begin + count - begin) (drop begin ws) ≡ part ns u ws
  part_is ws =
      let n : begin + count - begin ≡ get_or ns u 0 = omega arith in
      ap₂ (λ (k i : ℕ). take k (drop i ws)) n begins_at

  pub rest_is : (r : ℕ) (ws : List ℕ) → take (begin + count - (begin + r)) (drop (begin + r) ws) ≡ drop r (part ns u ws)
  rest_is r ws =
      let n : begin + count - (begin + r) ≡ get_or ns u 0 - r = omega arith in
      ap₂ (λ (k i : ℕ). take k (drop (i + r) ws)) n begins_at
      ∙ ap (take (get_or ns u 0 - r)) (sym (drop-drop r (sum (take u ns)) ws)) ∙ sym (drop_take_sub r (get_or ns u 0) (drop (sum (take u ns)) ws))

pub same_long : (ns : List ℕ) (u : ℕ) (ps ws : List ℕ) → length ws ≡ length ps → length (part ns u ws) ≡ length (part ns u ps)
same_long ns u ps ws e = simp (length-take, length-drop, e)

-- which are as many as the voice has events
pub part_long : (ns : List ℕ) (u : ℕ) (ws : List ℕ) → u < length ns → sum ns ≤ length ws → length (part ns u ws) ≡ get_or ns u 0
part_long ns u ws there fitting =
    let more = sum_by_more (λ x. x) ns u 0 there in
    let most = sum_by-take-le (λ x. x) ns (u + 1) in
    length-take-le (get_or ns u 0) (drop (sum (take u ns)) ws) (simp length-drop (omega (arith, more, most)))

-- ---- what begins in a span

pub until_late : (u e t : ℕ) (es : List Event) → e ≤ t → until u e (heard es t) ≡ []
unfolding until heard
until_late u e t [] h = refl
until_late u e t (silence d ∷ es) h = until_late u e (t + d) es (omega arith)
until_late u e t (note p a d ∷ es) h = pick_false (ltb t e) _ _ (le-ltb _ _ h)

begins_late : (u a e t : ℕ) (es : List Event) → e ≤ t → begins u a e (heard es t) ≡ []
unfolding begins heard
begins_late u a e t [] h = refl
begins_late u a e t (silence d ∷ es) h = begins_late u a e (t + d) es (omega arith)
begins_late u a e t (note p q d ∷ es) h =
    pick_false (leb a t && ltb t e) _ _ (and_right (leb a t) (ltb t e) (le-ltb _ _ h)) ∙ begins_late u a e (t + d) es (omega arith)

-- from the beginning of the span on
begins_until : (u a e t : ℕ) (es : List Event) → a ≤ t → begins u a e (heard es t) ≡ until u e (heard es t)
unfolding begins until heard
begins_until u a e t [] h = refl
begins_until u a e t (silence d ∷ es) h = begins_until u a e (t + d) es (omega arith)
begins_until u a e t (note p q d ∷ es) h =
    let rest : begins u a e (heard es (t + d)) ≡ until u e (heard es (t + d)) = begins_until u a e (t + d) es (omega arith) in
    elim (cases_lt t e) [
      | inl l ↦
          pick_true (leb a t && ltb t e) _ _ (and_from _ _ (le-leb _ _ h) (lt-ltb _ _ l))
          ∙ ap (λ (r : Row). (u, record { start = t; long = d; high = tone p q }) ∷ r) rest ∙ sym (pick_true (ltb t e) _ _ (lt-ltb _ _ l))
      | inr l ↦ begins_late u a e t (note p q d ∷ es) l ∙ sym (pick_false (ltb t e) _ _ (le-ltb _ _ l))
    ]

-- events that begin before the span are passed over
begins_before : (u a e t : ℕ) (x : Event) (es : List Event) → t < a → begins u a e (heard (x ∷ es) t) ≡ begins u a e (heard es (t + lasts x))
unfolding begins heard lasts
begins_before u a e t (silence d) es h = refl
begins_before u a e t (note p q d) es h = pick_false (leb a t && ltb t e) _ _ (and_left (leb a t) (ltb t e) (lt-leb _ _ h))

abbrev rest_from : ℕ → ℕ → ℕ → List Event → ℕ → Row
rest_from u e t es k = until u e (heard (drop k es) (t + total (take k es)))

pub begins_passed : (u a e t : ℕ) (es : List Event) → begins u a e (heard es t) ≡ rest_from u e t es (passed a t (map lasts es))
unfolding begins until heard passed total
begins_passed u a e t [] = refl
begins_passed u a e t (x ∷ es) =
    let ih = begins_passed u a e (t + lasts x) es in
    let k = passed a (t + lasts x) (map lasts es) in
    elim (cases_lt t a) [
      | inl l ↦
          begins_before u a e t x es l ∙ ih ∙ ap (λ (n : ℕ). until u e (heard (drop k es) n)) (omega arith)
          ∙ ap (rest_from u e t (x ∷ es)) (sym (pick_true (ltb t a) (suc k) 0 (lt-ltb _ _ l)))
      | inr l ↦
          begins_until u a e t (x ∷ es) l ∙ ap (λ (n : ℕ). until u e (heard (x ∷ es) n)) (omega arith)
          ∙ ap (rest_from u e t (x ∷ es)) (sym (pick_false (ltb t a) (suc k) 0 (le-ltb _ _ l)))
    ]

-- when its notes begin
pub starts_until : (u e t : ℕ) (ps xs ds : List ℕ) → length xs ≡ length ps → starts (until u e (heard (voice_of ps xs ds) t)) ≡ note_ticks e t ps ds
unfolding until heard voice_of note_ticks
starts_until u e t [] xs ds h = refl
starts_until u e t (p ∷ ps) [] ds h = absurd (omega arith)
starts_until u e t (p ∷ ps) (x ∷ xs) [] h = refl
starts_until u e t (p ∷ ps) (x ∷ xs) (d ∷ ds) h = go (eqb p places) (starts_until u e (t + d) ps xs ds (omega arith))
  where
    es : List Event
    es = voice_of ps xs ds

    go :
        (b : Bool) → starts (until u e (heard es (t + d))) ≡ note_ticks e (t + d) ps ds
        → starts (until u e (heard (pick b (silence d) (note p x d) ∷ es) t)) ≡ pick (ltb t e) (pick b (note_ticks e (t + d) ps ds) (t ∷ note_ticks e (t + d) ps ds)) []
    go true ih =
        elim (cases_lt t e) [
          | inl l ↦ ih ∙ sym (pick_true (ltb t e) _ _ (lt-ltb _ _ l))
          | inr l ↦ ap starts (until_late u e (t + d) es (omega arith)) ∙ sym (pick_false (ltb t e) _ _ (le-ltb _ _ l))
        ]
    go false ih =
        elim (cases_lt t e) [
          | inl l ↦ ap starts (pick_true (ltb t e) _ _ (lt-ltb _ _ l)) ∙ ap (λ (r : List ℕ). t ∷ r) ih ∙ sym (pick_true (ltb t e) _ _ (lt-ltb _ _ l))
          | inr l ↦ ap starts (pick_false (ltb t e) _ _ (le-ltb _ _ l)) ∙ sym (pick_false (ltb t e) _ _ (le-ltb _ _ l))
        ]

pub rising_later : (t r e : ℕ) (ts : List ℕ) → t ≤ r → Rising r e ts → Rising t e ts
unfolding Rising
rising_later t r e [] l h = tt
rising_later t r e (x ∷ ts) l h = (omega (arith, h.0), h.1, h.2, h.3)

-- which are ticks of slots
pub rising_starts : (u e t : ℕ) (es : List Event) → all_fine es ≡ true → t % grain ≡ 0 → Rising t e (starts (until u e (heard es t)))
unfolding Rising until heard all_fine lasts
rising_starts u e t [] f m = tt
rising_starts u e t (silence d ∷ es) f m =
    let p = and_parts _ _ f in
    let l = fine_lasts (silence d) p.0 in
    rising_later t (t + d) e _ (omega arith) (rising_starts u e (t + d) es p.1 (omega (arith, l.1)))
rising_starts u e t (note p q d ∷ es) f m =
    let r = and_parts _ _ f in
    let l = fine_lasts (note p q d) r.0 in
    let ih = rising_starts u e (t + d) es r.1 (omega (arith, l.1)) in
    pick_both (λ (ys : Row). Rising t e (starts ys)) (ltb t e) _ _
    (λ h. (omega arith, ltb-true _ _ h, m, rising_later (t + grain) (t + d) e _ (omega (arith, l.0, l.1)) ih))
    (λ _. tt)

-- A span from a up to before b, in slots: from that of number `first` on, up to before that of number `last`.
abbrev pub up : ℕ → ℕ
up t = t / grain + min 1 (t % grain)

same_span : (a b t : ℕ) → t % grain ≡ 0 → (leb a t && ltb t b) ≡ (leb (grain * up a) t && ltb t (grain * (up a + (up b - up a))))
same_span a b t m =
    elim (cases_lt t a) [
      | inl l ↦ and_left (leb a t) (ltb t b) (lt-leb _ _ l) ∙ sym (and_left (leb (grain * up a) t) _ (lt-leb _ _ (omega arith)))
      | inr l ↦
          elim (cases_lt t b) [
            | inl k ↦ and_from (leb a t) (ltb t b) (le-leb _ _ l) (lt-ltb _ _ k) ∙ sym (and_from (leb (grain * up a) t) _ (le-leb _ _ (omega arith)) (lt-ltb _ _ (omega arith)))
            | inr k ↦ and_right (leb a t) (ltb t b) (le-ltb _ _ k) ∙ sym (and_right (leb (grain * up a) t) _ (le-ltb _ _ (omega arith)))
          ]
    ]

pub begins_slots : (u a b t : ℕ) (es : List Event) → all_fine es ≡ true → t % grain ≡ 0 → begins u a b (heard es t) ≡ begins u (grain * up a) (grain * (up a + (up b - up a))) (heard es t)
unfolding begins heard all_fine lasts
begins_slots u a b t [] f m = refl
begins_slots u a b t (silence d ∷ es) f m =
    let p = and_parts _ _ f in
    let l = fine_lasts (silence d) p.0 in
    begins_slots u a b (t + d) es p.1 (omega (arith, l.1))
begins_slots u a b t (note p q d ∷ es) f m =
    let r = and_parts _ _ f in
    let l = fine_lasts (note p q d) r.0 in
    let ih = begins_slots u a b (t + d) es r.1 (omega (arith, l.1)) in
    let more : Bool → Row → Row = λ c ys. pick c ((u, record { start = t; long = d; high = tone p q }) ∷ ys) ys in
    ap (λ (c : Bool). more c (begins u a b (heard es (t + d)))) (same_span a b t m) ∙ ap (more (leb (grain * up a) t && ltb t (grain * (up a + (up b - up a))))) ih

-- ---- the note that comes next

until_first : (u e : ℕ) (h : Heard) (hs : List Heard) (y : ℕ × Heard) (ys : Row) → until u e (h ∷ hs) ≡ y ∷ ys → (y ≡ (u, h)) × (ys ≡ until u e hs)
unfolding until
until_first u e h hs y ys q =
    elim (cases_lt h.start e) [
      | inl l ↦ let f : (u, h) ∷ until u e hs ≡ y ∷ ys = sym (pick_true (ltb h.start e) _ _ (lt-ltb _ _ l)) ∙ q in (cc, cc)
      | inr l ↦ let f : [] ≡ y ∷ ys = sym (pick_false (ltb h.start e) _ _ (le-ltb _ _ l)) ∙ q in (cc, cc)
    ]

-- The note of voice u that comes next before tick e: of events in three rows, it is the one of index k, behind the silences that come first.
pub record Next (es : List Event) (ps xs ds : List ℕ) (k t u e : ℕ) (y : ℕ × Heard) (ys : Row) : Type 0 where
  pub in_voice : k < length es
  pub event : get_or es k (silence 0) ≡ note (get_or ps k 0) (get_or xs k 0) (get_or ds k 0)
  pub sound : y ≡ (u, sound_at ps xs ds k y.1.start)
  pub rest : ys ≡ until u e (heard (drop (suc k) es) (t + total (take (suc k) es)))

next_step :
    (p x d : ℕ) (ps xs ds : List ℕ) (es : List Event) (k t u e : ℕ) (y : ℕ × Heard) (ys : Row) (b : Bool) → (until u e (heard es (t + d)) ≡ y ∷ ys → Next es ps xs ds k (t + d) u e y ys)
    → until u e (heard (pick b (silence d) (note p x d) ∷ es) t) ≡ y ∷ ys → Next (pick b (silence d) (note p x d) ∷ es) (p ∷ ps) (x ∷ xs) (d ∷ ds) (cond b (suc k) 0) t u e y ys
unfolding heard total lasts
next_step p x d ps xs ds es k t u e y ys true later h =
    let c = later h in
    let n : t + d + total (take (suc k) es) ≡ t + (d + total (take (suc k) es)) = omega arith in
    record { in_voice = omega (arith, c.in_voice); event = c.event; sound = c.sound; rest = c.rest ∙ ap (λ (i : ℕ). until u e (heard (drop (suc k) es) i)) n }
next_step p x d ps xs ds es k t u e y ys false later h =
    let f = until_first u e (record { start = t; long = d; high = tone p x }) (heard es (t + d)) y ys h in
    let n : t + d ≡ t + (d + 0) = omega arith in
    record {
      in_voice = omega arith;
      event = refl;
      sound = f.0 ∙ ap (λ (i : ℕ). (u, record { start = i; long = d; high = tone p x })) (sym (ap (λ (z : ℕ × Heard). z.1.start) f.0));
      rest = f.1 ∙ ap (λ (i : ℕ). until u e (heard es i)) n;
    }

pub next_heard :
    (ps xs ds : List ℕ) (n t u e : ℕ) (y : ℕ × Heard) (ys : Row) → until u e (heard (take n (voice_of ps xs ds)) t) ≡ y ∷ ys
    → Next (take n (voice_of ps xs ds)) ps xs ds (silences ps) t u e y ys
unfolding until heard voice_of
next_heard ps xs ds zero t u e y ys h = cc
next_heard [] xs ds (suc n) t u e y ys h = cc
next_heard (p ∷ ps) [] ds (suc n) t u e y ys h = cc
next_heard (p ∷ ps) (x ∷ xs) [] (suc n) t u e y ys h = cc
next_heard (p ∷ ps) (x ∷ xs) (d ∷ ds) (suc n) t u e y ys h =
    rw (one-add (silences ps)) (next_step p x d ps xs ds (take n (voice_of ps xs ds)) (silences ps) t u e y ys (eqb p places) (next_heard ps xs ds n (t + d) u e y ys) h)

-- ---- a voice that is not there

pub absent : (ns ps xs ds : List ℕ) (u : ℕ) → length ns ≤ u → voice (score_in ns ps xs ds) u ≡ []
absent ns ps xs ds u l = get_or_past (score_in ns ps xs ds) u [] (omega (arith, length_dealt ns (voice_of ps xs ds)))

-- and of which nothing is left
pub none_left : (ns ps xs ds : List ℕ) (e : ℕ) (cursors : List ℕ) (u : ℕ) → length ns ≤ u → left ns ps xs ds e cursors u ≡ []
unfolding until heard
none_left ns ps xs ds e cursors u l =
    let i : ℕ = get_or cursors u 0 - sum (take u ns) in
    ap (λ (es : List Event). until u e (from_event es i)) (absent ns ps xs ds u l) ∙ ap (λ (es : List Event). until u e (heard es (total (take i [])))) (drop_all i [] (omega arith))
