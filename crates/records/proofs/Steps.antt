-- What a put last does to words that hold a score, by what it is answered. Assumes nothing.
use Rattle.std.proofs.Common.{◌≡◌, ℕ, suc, ◌<◌, Bool, true, false, eqb, ltb, leb, List, [], ◌∷◌, ◌++◌, length, take, drop, set, sym, refl, ap, ◌∙◌, arith}
use Rattle.std.specs.List.{insert}
use Rattle.std.proofs.lemmas.List.{append-nil, get_or-set_same, get_or-set_other, take_all, drop_all}
use Rattle.std.proofs.lemmas.Bool.{eqb-true, eqb-false, eq-eqb, ltb-true}
use Rattle.score.specs.Music.{pick, Event}
use Rattle.score.specs.Calls.{Call, put, Answer, done, refused, symbols, sounds, number, Limits, Layout, Score, voice, all_events, turned_by, turned, changed, after, told, place, answer}
use Rattle.score.proofs.Picks.{pick_true, pick_false}
use Rattle.laws.proofs.Turning.{not_turned, after_turned}
use Rattle.memory.specs.Store.{stored, limits_of, layout_of, score_of}
use Rattle.memory.specs.Words.{Holds, answer_by, answer_at, words_by, next_words}
use Rattle.memory.proofs.Back.{score_back}
use Rattle.memory.proofs.Changes.{events_put}
use Rattle.memory.proofs.Run.{kept_after}
use Rattle.records.specs.Records.{put_last, events_for}
use Rattle.rows.specs.Rows.{event_in}
use Rattle.records.specs.declared.Record.{Record}

-- ---- the words that a call leaves

module _ (w : List ℕ) (h : Holds w) (c : Call) where
  pub score_next : score_of (next_words w c) ≡ after (limits_of w) (layout_of w) (score_of w) c
  unfolding words_by
  score_next = score_back (limits_of w) (layout_of w) _ (kept_after (limits_of w) (layout_of w) (score_of w) c h.proper.kept)

  pub limits_next : limits_of (next_words w c) ≡ limits_of w
  unfolding words_by stored
  limits_next = refl

  pub layout_next : layout_of (next_words w c) ≡ layout_of w
  unfolding words_by stored
  layout_next = refl

-- ---- what was answered says whether a put was turned away

abbrev kind : Answer → ℕ
kind done = 0
kind (refused f p) = 1
kind (symbols xs) = 2
kind (sounds hs) = 3
kind (number n) = 4

said_done : (t p : ℕ) → pick (eqb t 0) done (refused t p) ≡ done → t ≡ 0
said_done t p = go (eqb t 0) refl
  where
    go : (b : Bool) → eqb t 0 ≡ b → pick b done (refused t p) ≡ done → t ≡ 0
    go true z a = eqb-true t 0 z
    go false z a = let k = ap kind a in absurd (omega arith)

said_refused : (t p f q : ℕ) → pick (eqb t 0) done (refused t p) ≡ refused f q → 0 < t
said_refused t p f q = go (eqb t 0) refl
  where
    go : (b : Bool) → eqb t 0 ≡ b → pick b done (refused t p) ≡ refused f q → 0 < t
    go true z a = let k = ap kind a in absurd (omega arith)
    go false z a = let n = eqb-false t 0 z in omega (arith, n)

module _ (l : Limits) (y : Layout) (s : Score) (v i : ℕ) (e : Event) where
  not_away : answer l y s (put v i e) ≡ done → turned l y s (put v i e) ≡ 0
  unfolding told
  not_away = said_done (turned l y s (put v i e)) (place (put v i e) (turned l y s (put v i e)))

  away : (f p : ℕ) → answer l y s (put v i e) ≡ refused f p → 0 < turned l y s (put v i e)
  unfolding told
  away = said_refused (turned l y s (put v i e)) (place (put v i e) (turned l y s (put v i e)))

  changed_so : turned l y s (put v i e) ≡ 0 → after l y s (put v i e) ≡ changed s (put v i e)
  changed_so t = pick_true (eqb (turned l y s (put v i e)) 0) _ _ (eq-eqb (turned l y s (put v i e)) 0 t)

  there : turned l y s (put v i e) ≡ 0 → v < length s
  unfolding turned_by
  there t = go (ltb v (length s)) refl (not_turned l y s (put v i e) t).1
    where
      go : (b : Bool) → ltb v (length s) ≡ b → ◌≡◌ {A = ℕ} (pick b (pick (leb i (length (voice s v))) 0 5) 4) 0 → v < length s
      go true z n = ltb-true v (length s) z
      go false z n = absurd (omega arith)

-- ---- a put last

module _ (s : Score) (r : Record) (lt : r.voice < length s) where
  last_in : insert (voice s r.voice) (length (voice s r.voice)) (event_in r.row) ≡ voice s r.voice ++ (event_in r.row ∷ [])
  last_in =
      let V : List Event = voice s r.voice in
      let a : take (length V) V ≡ V = take_all (length V) V (omega arith) in
      let b : drop (length V) V ≡ [] = drop_all (length V) V (omega arith) in
      ap (λ (x : List Event). x ++ (event_in r.row ∷ drop (length V) V)) a ∙ ap (λ (x : List Event). V ++ (event_in r.row ∷ x)) b

  -- every voice is what it was, followed by the record's event if that is for it
  voice_last : (v : ℕ) → voice (changed s (put_last s r)) v ≡ voice s v ++ events_for v (r ∷ [])
  unfolding changed events_for
  voice_last v = go (eqb r.voice v) refl
    where
      go : (b : Bool) → eqb r.voice v ≡ b →
          voice (set s r.voice (insert (voice s r.voice) (length (voice s r.voice)) (event_in r.row))) v ≡ voice s v ++ pick (eqb r.voice v) (event_in r.row ∷ []) []
      go true z =
          let same : r.voice ≡ v = eqb-true r.voice v z in
          ap (λ (u : ℕ). voice (set s r.voice (insert (voice s r.voice) (length (voice s r.voice)) (event_in r.row))) u) (sym same)
          ∙ get_or-set_same s r.voice _ [] lt ∙ last_in ∙ ap (λ (u : ℕ). voice s u ++ (event_in r.row ∷ [])) same
          ∙ ap (λ (x : List Event). voice s v ++ x) (sym (pick_true _ _ _ z))
      go false z =
          get_or-set_other s r.voice v _ [] (λ q. eqb-false r.voice v z (sym q)) ∙ sym (append-nil (voice s v)) ∙ ap (λ (x : List Event). voice s v ++ x) (sym (pick_false _ _ _ z))

module _ (w : List ℕ) (h : Holds w) (r : Record) where
  abbrev C : Call
  C = put_last (score_of w) r

  module _ (a : answer_at w C ≡ done) where
    not_turned_away : turned (limits_of w) (layout_of w) (score_of w) C ≡ 0
    unfolding answer_by
    not_turned_away = not_away (limits_of w) (layout_of w) (score_of w) r.voice _ (event_in r.row) a

    score_put : score_of (next_words w C) ≡ changed (score_of w) C
    score_put = score_next w h C ∙ changed_so (limits_of w) (layout_of w) (score_of w) r.voice _ (event_in r.row) not_turned_away

    voice_there : r.voice < length (score_of w)
    voice_there = there (limits_of w) (layout_of w) (score_of w) r.voice _ (event_in r.row) not_turned_away

    pub one_event_more : all_events (score_of (next_words w C)) ≡ suc (all_events (score_of w))
    one_event_more = ap all_events score_put ∙ events_put (score_of w) r.voice _ (event_in r.row) voice_there (omega arith)

    pub voices_put : (v : ℕ) → voice (score_of (next_words w C)) v ≡ voice (score_of w) v ++ events_for v (r ∷ [])
    voices_put v = ap (λ (s : Score). voice s v) score_put ∙ voice_last (score_of w) r voice_there v

  pub words_stay : (f p : ℕ) → answer_at w C ≡ refused f p → next_words w C ≡ w
  unfolding words_by answer_by
  words_stay f p a =
      ap (stored (limits_of w) (layout_of w)) (after_turned (limits_of w) (layout_of w) (score_of w) C (away (limits_of w) (layout_of w) (score_of w) r.voice _ (event_in r.row) f p a)) ∙ sym h.is
