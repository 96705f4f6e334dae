-- Word by word.
use Rattle.std.proofs.Common.{◌≤◌, length, sym, ap, ◌∙◌, arith}
use Rattle.std.proofs.lemmas.Bool.{lt-ltb, le-ltb}
use Rattle.score.proofs.Picks.{pick_true, pick_false}
use Rattle.words.proofs.Steps.{word_fits, word_unfit, words_over}
use Rattle.words.proofs.read_one_of.Goals as goal
use Rattle.words.proofs.read_one_of.Goals.{then-rest-furthest, else-rest-furthest}

pub returns-in-Ok-clause-read : goal.returns-in-Ok-clause-read
returns-in-Ok-clause-read g c =
    word_fits c.args.words.now _ _ _ _ _ _ _ c.loop-word-test.true c.loop-word-item.is c.as_bytes.ensures.value c.in-Ok.ensures ∙ c.loop-word.invariant

pub loop-word-preserved : goal.loop-word-preserved
loop-word-preserved g c =
    word_unfit c.args.words.now _ _ _ _ _ _ _ c.loop-word-test.true c.loop-word-item.is c.as_bytes.ensures.value c.in-Err.ensures
    (elim c.if-rest-furthest.branch [
      | then-rest-furthest w ↦ ap (λ x. x.now) w.furthest-is ∙ sym (pick_true _ _ _ (lt-ltb _ _ w.if-rest-furthest.true))
      | else-rest-furthest w ↦ ap (λ x. x.now) w.furthest-is ∙ sym (pick_false _ _ _ (le-ltb _ _ w.if-rest-furthest.false))
    ])
    ∙ c.loop-word.invariant

pub returns-clause-read : goal.returns-clause-read
returns-clause-read g c =
    let h : length c.args.words.now ≤ c.loop-word.word-index = omega arith in
    words_over c.args.words.now _ _ _ h ∙ c.loop-word.invariant
