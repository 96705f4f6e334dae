-- The call is written, the session answers it, and its answer is spelled.
use Rattle.std.proofs.Common.{ℕ, List, take, Ok, string_bytes, ap, ◌∙◌}
use Rattle.score.specs.Meaning.{call_meant}
use Rattle.score.specs.Spelling.{spelled_answer, spelled_bytes}
use Rattle.wire.specs.Reading.{answer_of}
use Rattle.spelling.proofs.Rows.{retold}
use Rattle.script.specs.Desk.{score_words, line_answer_in, words_after}
use Rattle.script.proofs.Answering.{told, left, back}
use Rattle.script.proofs.desk.Desk.answer_call.Goals as goal

pub returns-clause-said : goal.returns-clause-said
returns-clause-said c =
    retold c.spell_answer.result (string_bytes c.spell_answer.new.out) (string_bytes c.args.out.now) _ _
    (ap (λ (b : List ℕ). spelled_bytes (answer_of (take c.call-answered.result b)))
    (c.deref.ensures.value ∙ back c.call-answered.new.bytes c.args.self.now.bytes.items _ (c.call-answered.auto.bytes ∙ c.deref_mut-2.ensures.len))
    ∙ ap spelled_bytes
    (told _ _ _ _ _ _ (call_meant c.args.asked) _ _ c.write_call-length.ensures.wrote c.write_call-length.ensures.many c.call-answered.ensures)
    ∙ ap (λ (w : List ℕ). spelled_answer (line_answer_in w (Ok (call_meant c.args.asked)))) c.deref_mut.ensures.value) c.spell_answer.ensures

pub returns-clause-left : goal.returns-clause-left
returns-clause-left c =
    ap score_words (back c.call-answered.new.words c.args.self.now.words.items _ (c.call-answered.auto.words ∙ c.deref_mut.ensures.len))
    ∙ left _ _ _ _ _ _ (call_meant c.args.asked) _ _ c.write_call-length.ensures.wrote c.write_call-length.ensures.many c.call-answered.ensures
    ∙ ap (λ (w : List ℕ). words_after w (Ok (call_meant c.args.asked))) c.deref_mut.ensures.value
