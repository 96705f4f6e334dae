-- Records that are put one after the other, turn by turn. Assumes nothing.
use Rattle.std.proofs.Common.{◌≡◌, ℕ, suc, ◌+◌, ◌/◌, ◌<◌, ◌≤◌, List, [], ◌∷◌, length, get_or, drop, sym, ap, ◌∙◌, subst, arith}
use Rattle.std.proofs.Math.Seq.{drop-cons}
use Rattle.std.proofs.lemmas.List.{drop_all}
use Rattle.score.specs.Calls.{Call, Answer, done, refused, all_events}
use Rattle.memory.specs.Store.{score_of}
use Rattle.memory.specs.Words.{Holds, answer_at, next_words}
use Rattle.records.specs.Records.{put_last, records_of, end_of, Outcome, one_more, if_done, put_all, entered, SoManyPuts}
use Rattle.records.specs.declared.Record.{Record}
use Rattle.records.proofs.Numbers.{many_records}
use Rattle.records.proofs.Steps.{one_event_more, words_stay}
use Rattle.records.proofs.Law.{so_many_puts}

-- so many were put before
abbrev pub so_far : ℕ → Outcome → Outcome
so_far n o = record { words = o.words; count = n + o.count; next = o.next }

-- n records were put, which left these words
pub record Going (w ns w' : List ℕ) (n : ℕ) : Type 0 where
  pub all : entered w ns ≡ so_far n (put_all w' (drop n (records_of ns)) (end_of ns))
  pub events : n ≤ all_events (score_of w')

-- what has come of all
pub record Over (w ns w' : List ℕ) (n : ℕ) (next : Answer) : Type 0 where
  pub count : n ≡ (entered w ns).count
  pub says : next ≡ (entered w ns).next
  pub left : w' ≡ (entered w ns).words
  pub puts : SoManyPuts w (records_of ns) w' n next

over : (w ns w' : List ℕ) (n : ℕ) (next : Answer) → Holds w → entered w ns ≡ record { words = w'; count = n; next = next } → Over w ns w' n next
over w ns w' n next h e = record {
  count = sym (ap (λ (o : Outcome). o.count) e);
  says = sym (ap (λ (o : Outcome). o.next) e);
  left = sym (ap (λ (o : Outcome). o.words) e);
  puts = subst (λ (o : Outcome). SoManyPuts w (records_of ns) o.words o.count o.next) e (so_many_puts w h (records_of ns) (end_of ns));
}

module _ (w ns w' : List ℕ) (n : ℕ) (h : Holds w') (g : Going w ns w' n) where
  -- not more were put than there may be
  pub few : n ≤ 65536
  few = omega (arith, g.events, h.proper.kept.fitting, h.proper.good_limits.2)

  -- no record is left
  pub ends : n ≡ length (records_of ns) → Holds w → Over w ns w' (length ns / 4) (end_of ns)
  unfolding put_all
  ends e hw =
      let z : n + 0 ≡ length ns / 4 = omega (arith, e, many_records ns) in
      let none : drop n (records_of ns) ≡ [] = drop_all n (records_of ns) (omega arith) in
      over w ns w' (length ns / 4) (end_of ns) hw (g.all ∙ ap (λ (rs : List Record). so_far n (put_all w' rs (end_of ns))) none ∙ ap (λ (m : ℕ). record { words = w'; count = m; next = end_of ns }) z)

  -- a record is left
  module _ (r : Record) (lt : n < length (records_of ns)) (e : r ≡ get_or (records_of ns) n r) where
    abbrev C : Call
    C = put_last (score_of w') r

    again : entered w ns ≡ so_far n (put_all w' (r ∷ drop (suc n) (records_of ns)) (end_of ns))
    again =
        let first : drop n (records_of ns) ≡ r ∷ drop (suc n) (records_of ns) = drop-cons (records_of ns) n r lt ∙ ap (λ x. x ∷ drop (suc n) (records_of ns)) (sym e) in
        g.all ∙ ap (λ rs. so_far n (put_all w' rs (end_of ns))) first

    -- by what it is answered
    abbrev outcome : Answer → Outcome
    outcome a = so_far n (if_done a (one_more (put_all (next_words w' C) (drop (suc n) (records_of ns)) (end_of ns))) (record { words = w'; count = 0; next = a }))

    answered : entered w ns ≡ outcome (answer_at w' C)
    unfolding put_all
    answered = again

    pub goes_on : (w'' : List ℕ) (m : ℕ) → m ≡ suc n → done ≡ answer_at w' C → w'' ≡ next_words w' C → Going w ns w'' m
    goes_on w'' m em a l =
        let k = one_event_more w' h r (sym a) in
        let s = ap (λ (x : List ℕ). all_events (score_of x)) l in
        let o : Outcome = put_all (next_words w' C) (drop (suc n) (records_of ns)) (end_of ns) in
        let count : n + suc o.count ≡ suc n + o.count = omega arith in
        let now : Going w ns w'' (suc n) = record {
          all = answered ∙ ap outcome (sym a) ∙ ap (λ (c : ℕ). record { words = o.words; count = c; next = o.next }) count
              ∙ ap (λ (x : List ℕ). so_far (suc n) (put_all x (drop (suc n) (records_of ns)) (end_of ns))) (sym l);
          events = omega (arith, k, s, g.events);
        } in
        subst (λ x. Going w ns w'' x) (sym em) now

    pub stops : (w'' : List ℕ) (m f p : ℕ) → m ≡ n → refused f p ≡ answer_at w' C → w'' ≡ next_words w' C → Holds w → Over w ns w'' m (refused f p)
    stops w'' m f p em a l hw =
        let same : w' ≡ w'' = sym (l ∙ words_stay w' h r f p (sym a)) in
        let count : n + 0 ≡ m = omega (arith, em) in
        over w ns w'' m (refused f p) hw
        (answered ∙ ap outcome (sym a) ∙ ap (λ (c : ℕ). record { words = w'; count = c; next = refused f p }) count ∙ ap (λ (x : List ℕ). record { words = x; count = m; next = refused f p }) same)
