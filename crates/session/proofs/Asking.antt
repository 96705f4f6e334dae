-- A question leaves the words as they were. Assumes nothing.
use Rattle.std.proofs.Common.{◌≡◌, ℕ, eqb, List, sym, refl, ap, ◌∙◌}
use Rattle.score.specs.Music.{pick}
use Rattle.score.specs.Calls.{Call, Score, show, heard_in, how_long, changed, turned}
use Rattle.score.proofs.Picks.{pick_same}
use Rattle.memory.specs.Store.{limits_of, layout_of, score_of, stored}
use Rattle.memory.specs.Words.{Holds, words_by, next_words}

module _ (w : List ℕ) (h : Holds w) where
  asked : (c : Call) → changed (score_of w) c ≡ score_of w → w ≡ next_words w c
  unfolding words_by
  asked c e =
      h.is
      ∙ ap (stored (limits_of w) (layout_of w))
      (sym (ap (λ (s : Score). pick (eqb (turned (limits_of w) (layout_of w) (score_of w) c) 0) s (score_of w)) e ∙ pick_same _ (score_of w)))

  -- of each question, however the call is written
  pub shown : (c : Call) (v from n : ℕ) → c ≡ show v from n → w ≡ next_words w c
  unfolding changed
  shown c v from n e = asked (show v from n) refl ∙ ap (next_words w) (sym e)

  pub heard : (c : Call) (from to : ℕ) → c ≡ heard_in from to → w ≡ next_words w c
  unfolding changed
  heard c from to e = asked (heard_in from to) refl ∙ ap (next_words w) (sym e)

  pub measured : (c : Call) (v : ℕ) → c ≡ how_long v → w ≡ next_words w c
  unfolding changed
  measured c v e = asked (how_long v) refl ∙ ap (next_words w) (sym e)
