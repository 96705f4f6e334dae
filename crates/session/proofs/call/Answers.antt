-- The parts that the score takes are lent on, and are back.
use Rattle.std.proofs.Common.{◌≡◌, ℕ, ◌-◌, ◌≤◌, List, ◌++◌, length, take, drop, sym, ap, ◌∙◌, subst, arith}
use Rattle.std.proofs.lemmas.List.{length-take-le}
use Rattle.score.specs.Meaning.{call_meant, refusal_meant}
use Rattle.wire.specs.Bytes.{answer_bytes}
use Rattle.memory.specs.Words.{Holds, next_words}
use Rattle.session.specs.Session.{words_taken, bytes_taken, Says}
use Rattle.session.specs.declared.Sizes.{Sizes}
use Rattle.session.proofs.Answering.{held_room, called, refused}
use Rattle.session.proofs.call.Goals as goal

-- the first k of a slice, as the code has them
front : (xs : List ℕ) (n k : ℕ) → n ≡ k → take (n - 0) xs ≡ take k xs
front xs n k e = let z : n - 0 ≡ k = omega arith in ap (λ (j : ℕ). take j xs) z

pub answer_in-requires : goal.answer_in-requires
answer_in-requires c =
    let w = c.args.words.now in
    let b = c.args.bytes.now in
    let fw = front w _ _ (ap (λ (s : Sizes). s.words) c.taken-asked.ensures) in
    let fb = front b _ _ (ap (λ (s : Sizes). s.bytes) c.taken-asked.ensures) in record {
      holds = subst Holds (sym fw) c.requires.holds;
      room = subst (λ (x : List ℕ). bytes_taken x ≤ length (take (c.taken-asked.result.bytes - 0) b)) (sym fw)
          (subst (λ (x : List ℕ). bytes_taken (take (words_taken w) w) ≤ length x) (sym fb) (held_room w b c.args.input.now c.requires));
    }

pub returns-in-Ok : goal.returns-in-Ok
returns-in-Ok c =
    let w = c.args.words.now in
    let b = c.args.bytes.now in
    let q = call_meant c.in-Ok.call in
    let en = (ap (λ (s : Sizes). s.words) c.taken-asked.ensures) in
    let em = (ap (λ (s : Sizes). s.bytes) c.taken-asked.ensures) in
    let fw = front w _ _ en in
    let fb = front b _ _ em in
    let lw : length c.answer_in.new.words ≡ c.taken-asked.result.words = c.answer_in.auto.words ∙ ap length fw ∙ length-take-le _ w c.requires.words_room ∙ sym en in
    let lb : length c.answer_in.new.bytes ≡ c.taken-asked.result.bytes = c.answer_in.auto.bytes ∙ ap length fb ∙ length-take-le _ b c.requires.bytes_room ∙ sym em in
    called w b c.args.input.now c.requires q _ _ c.answer_in.result _ _ en em c.in-Ok.ensures c.answer_in.ensures.holds lw lb
    (subst (λ (x : List ℕ). c.answer_in.new.words ≡ next_words x q) fw c.answer_in.ensures.left)
    (subst (λ (x : List ℕ). Says x (take (bytes_taken w) b) c.answer_in.new.bytes q c.answer_in.result) fw
    (subst (λ (y : List ℕ). Says (take (c.taken-asked.result.words - 0) w) y c.answer_in.new.bytes q c.answer_in.result) fb c.answer_in.ensures.said))

pub returns-in-Err : goal.returns-in-Err
returns-in-Err c =
    let w = c.args.words.now in
    let b = c.args.bytes.now in
    let a = refusal_meant c.in-Err.refusal in
    let em = (ap (λ (s : Sizes). s.bytes) c.taken-asked.ensures) in
    let fb = front b _ _ em in
    let lb : length c.write_refused.new.out ≡ c.taken-asked.result.bytes = c.write_refused.auto.out ∙ ap length fb ∙ length-take-le _ b c.requires.bytes_room ∙ sym em in
    refused w b c.args.input.now c.requires a _ c.write_refused.result _ em c.in-Err.ensures lb
    (c.write_refused.ensures.wrote ∙ ap (λ (x : List ℕ). answer_bytes a ++ drop c.write_refused.result x) fb) c.write_refused.ensures.many
