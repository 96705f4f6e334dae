-- What comes of records is what so many puts leave. Assumes nothing.
use Rattle.std.proofs.Common.{◌≡◌, ℕ, suc, Bool, true, false, eqb, List, [], ◌∷◌, ◌++◌, length, get_or, take, replicate, sym, refl, ap, ◌∙◌, arith}
use Rattle.std.proofs.lemmas.List.{append-nil, append_assoc}
use Rattle.score.specs.Music.{pick, Event}
use Rattle.score.specs.Calls.{Call, Answer, done, refused, symbols, sounds, number, Limits, Layout, Score, voice, after, answers, ran}
use Rattle.memory.specs.Store.{limits_of, layout_of, score_of}
use Rattle.memory.specs.Words.{Holds, answer_by, answer_at, next_words}
use Rattle.memory.proofs.Outcomes.{holds_next}
use Rattle.records.specs.Records.{put_last, Outcome, one_more, if_done, put_all, puts, events_for, SoManyPuts}
use Rattle.rows.specs.Rows.{event_in}
use Rattle.records.specs.declared.Record.{Record}
use Rattle.records.proofs.Steps.{score_next, limits_next, layout_next, voices_put}

abbrev stop : List ℕ → Answer → Outcome
stop w a = record { words = w; count = 0; next = a }

-- of a record and those behind it
events_more : (v : ℕ) (r : Record) (rs : List Record) → events_for v (r ∷ rs) ≡ events_for v (r ∷ []) ++ events_for v rs
unfolding events_for
events_more v r rs = go (eqb r.voice v)
  where
    go : (b : Bool) → pick b (event_in r.row ∷ events_for v rs) (events_for v rs) ≡ pick b (event_in r.row ∷ []) [] ++ events_for v rs
    go true = refl
    go false = refl

-- nothing is put
none : (w : List ℕ) (rs : List Record) (a : Answer) → ((r : Record) (later : List Record) → rs ≡ r ∷ later → a ≡ answer_at w (put_last (score_of w) r)) → SoManyPuts w rs w 0 a
unfolding ran puts answers events_for
none w rs a h = record {
  few = omega arith;
  limits = refl;
  layout = refl;
  score = refl;
  all_done = refl;
  voices = λ v. sym (append-nil (voice (score_of w) v));
  stopped = h;
}

-- one more is put before all others
module _ (w : List ℕ) (h : Holds w) (r : Record) (rs : List Record) (a : answer_at w (put_last (score_of w) r) ≡ done) where
  abbrev C : Call
  C = put_last (score_of w) r

  -- what is said of the score by the words that it left is said of it by the words before
  said_before : {A : Type 0} (F : Limits → Layout → Score → A) →
      F (limits_of (next_words w C)) (layout_of (next_words w C)) (score_of (next_words w C)) ≡ F (limits_of w) (layout_of w) (after (limits_of w) (layout_of w) (score_of w) C)
  said_before F =
      ap (λ (l : Limits). F l (layout_of (next_words w C)) (score_of (next_words w C))) (limits_next w h C)
      ∙ ap (λ (y : Layout). F (limits_of w) y (score_of (next_words w C))) (layout_next w h C)
      ∙ ap (λ (s : Score). F (limits_of w) (layout_of w) s) (score_next w h C)

  one : (w' : List ℕ) (n : ℕ) (next : Answer) → SoManyPuts (next_words w C) rs w' n next → SoManyPuts w (r ∷ rs) w' (suc n) next
  unfolding ran puts answers answer_by
  one w' n next p =
      let ran_of : Limits → Layout → Score → Score = λ l y s. ran l y s (puts l y s (take n rs)) in
      let told_of : Limits → Layout → Score → List Answer = λ l y s. answers l y s (puts l y s (take n rs)) in
      let rest : told_of (limits_of w) (layout_of w) (after (limits_of w) (layout_of w) (score_of w) C) ≡ replicate n done = sym (said_before told_of) ∙ p.all_done in
      record {
        few = omega (arith, p.few);
        limits = p.limits ∙ limits_next w h C;
        layout = p.layout ∙ layout_next w h C;
        score = p.score ∙ said_before ran_of;
        all_done = ap (λ (x : Answer). x ∷ told_of (limits_of w) (layout_of w) (after (limits_of w) (layout_of w) (score_of w) C)) a ∙ ap (λ (xs : List Answer). done ∷ xs) rest;
        voices = λ v. p.voices v ∙ ap (λ (x : List Event). x ++ events_for v (take n rs)) (voices_put w h r a v)
            ∙ append_assoc (voice (score_of w) v) _ _ ∙ ap (λ (x : List Event). voice (score_of w) v ++ x) (sym (events_more v r (take n rs)));
        stopped = p.stopped;
      }

abbrev Lawful : List ℕ → List Record → Outcome → Type 0
Lawful w rs o = SoManyPuts w rs o.words o.count o.next

first_same : (r s : Record) (rs ss : List Record) → r ∷ rs ≡ s ∷ ss → r ≡ s
first_same r s rs ss e = ap (λ (xs : List Record). get_or xs 0 r) e

-- the first of all records, whatever it is answered
first : (w : List ℕ) (h : Holds w) (r : Record) (rs : List Record) (o : Outcome) → Lawful (next_words w (put_last (score_of w) r)) rs o →
    (a : Answer) → answer_at w (put_last (score_of w) r) ≡ a → Lawful w (r ∷ rs) (if_done a (one_more o) (stop w a))
first w h r rs o p done e = one w h r rs e o.words o.count o.next p
first w h r rs o p (refused f q) e = none w (r ∷ rs) (refused f q) (λ s ss z. sym e ∙ ap (λ (x : Record). answer_at w (put_last (score_of w) x)) (first_same r s rs ss z))
first w h r rs o p (symbols xs) e = none w (r ∷ rs) (symbols xs) (λ s ss z. sym e ∙ ap (λ (x : Record). answer_at w (put_last (score_of w) x)) (first_same r s rs ss z))
first w h r rs o p (sounds hs) e = none w (r ∷ rs) (sounds hs) (λ s ss z. sym e ∙ ap (λ (x : Record). answer_at w (put_last (score_of w) x)) (first_same r s rs ss z))
first w h r rs o p (number m) e = none w (r ∷ rs) (number m) (λ s ss z. sym e ∙ ap (λ (x : Record). answer_at w (put_last (score_of w) x)) (first_same r s rs ss z))

pub so_many_puts : (w : List ℕ) → Holds w → (rs : List Record) (end : Answer) → Lawful w rs (put_all w rs end)
unfolding put_all
so_many_puts w h [] end = none w [] end (λ r later e. absurd (let n = ap length e in omega arith))
so_many_puts w h (r ∷ rs) end =
    let c : Call = put_last (score_of w) r in
    first w h r rs (put_all (next_words w c) rs end) (so_many_puts (next_words w c) (holds_next w h c) rs end) (answer_at w c) refl
