-- What is shown is read as what is told. Assumes nothing.
use Rattle.std.proofs.Common.{◌≡◌, ℕ, ◌+◌, ◌*◌, true, List, sym, refl, ap, ◌∙◌}
use Rattle.score.specs.Music.{Event, heard}
use Rattle.score.specs.Print.{printed, read_from, from_bar, so_many}
use Rattle.score.specs.Calls.{Call, show, heard_in, Score, empty_voices, together, told, voice, ran}
use Rattle.score.specs.Promise.{Memory, left_by, whole, later, begun_in}
use Rattle.laws.proofs.Together.{nothing_lost}
use Rattle.laws.proofs.Shown.{bars_heard}
use Rattle.memory.specs.Store.{stored, Kept}
use Rattle.memory.specs.Words.{Holds, answer_at}
use Rattle.memory.proofs.Back.{score_back}
use Rattle.memory.proofs.Scores.{fines_voice}
use Rattle.memory.proofs.Held.{holds_stored}
use Rattle.memory.proofs.Run.{kept_empty, kept_ran, left_is}
use Rattle.memory.proofs.Outcomes.{Done, show_done, heard_done}
use Rattle.session.specs.Session.{engraver, limits_for, layout_for, opens}
use Rattle.session.specs.Promises.{WholeWay}
use Rattle.score.specs.declared.Opening.{Opening}
use Rattle.session.proofs.Openings.{opens_good}

-- a score as calls left it, and the memory in which it lies
module _ (o : Opening) (cs : List Call) where
  abbrev pub score_left : Score
  score_left = ran (limits_for o) (layout_for o) (empty_voices o.voices) cs

  abbrev pub memory_left : Memory
  memory_left = left_by engraver (engraver.opened (limits_for o) (layout_for o)) cs

  abbrev pub words_left : List ℕ
  words_left = stored (limits_for o) (layout_for o) score_left

  kept_left : Kept (limits_for o) score_left
  kept_left = kept_ran (limits_for o) (layout_for o) (empty_voices o.voices) cs (kept_empty (limits_for o))

  holds_left : opens o ≡ true → Holds words_left
  holds_left ok = let g = opens_good o ok in holds_stored (limits_for o) (layout_for o) score_left g.1 g.0 kept_left

  -- a question that is not turned away is answered from it
  says_told : (c : Call) → Done words_left c → engraver.says memory_left c ≡ told (layout_for o) score_left c
  unfolding stored
  says_told c d =
      ap (λ (w : List ℕ). answer_at w c) (left_is whole true (limits_for o) (layout_for o) (engraver.opened (limits_for o) (layout_for o)) (empty_voices o.voices) cs (kept_empty (limits_for o)) refl)
      ∙ (d.said ∙ ap (λ (s : Score). told (layout_for o) s c) (score_back (limits_for o) (layout_for o) score_left kept_left))

pub whole_way : WholeWay
unfolding told stored
whole_way o cs v b n ok there few e f = record {
  page = so_many (from_bar b (printed o.key o.bar es)) n;
  shown = says_told o cs (show v b n) (show_done (words_left o cs) (holds_left o cs ok) v b n few there);
  means = heard_so;
  sounding = λ near. record {
    notes = together (score_left o cs) 0 from to;
    told = says_told o cs (heard_in from to) (heard_done (words_left o cs) (holds_left o cs ok) from to near);
    of_it = nothing_lost (score_left o cs) v from to ∙ sym heard_so;
  };
}
  where
    es : List Event
    es = voice (score_left o cs) v

    from : ℕ
    from = b * o.bar

    to : ℕ
    to = (b + n) * o.bar

    heard_so : later from (read_from o.key (so_many (from_bar b (printed o.key o.bar es)) n)) ≡ begun_in from to (heard es 0)
    heard_so =
        let good = (opens_good o ok).0 in
        bars_heard o.key o.bar b n es good.1 good.3 (fines_voice (score_left o cs) v (kept_left o cs).fines) e f
