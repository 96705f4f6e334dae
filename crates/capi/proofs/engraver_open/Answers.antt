-- An opening that is refused.
use Rattle.std.proofs.Common.{◌≡◌, length, ap, ◌∙◌, subst, w64}
use borrow.Author.Rules.{to_z-of_z_to, sfits_of}
use Rattle.score.specs.Calls.{Answer}
use Rattle.score.specs.Meaning.{refusal_meant}
use Rattle.session.specs.Session.{open_answer, Opened, Unchanged}
use Rattle.score.specs.declared.Opening.{Opening}
use Rattle.capi.specs.Signed.{signed, opening_of, if_done}
use Rattle.capi.proofs.engraver_open.Goals as goal

pub returns-in-Err : goal.returns-in-Err
returns-in-Err c =
    let o = opening_of c.args.key c.args.bar c.args.voices c.args.events in
    let is = c.opening_of.ensures in
    let e = c.in-Err.ensures in
    let said : refusal_meant c.in-Err.refusal ≡ open_answer o (length c.args.words.now) (length c.args.bytes.now) =
    e.said ∙ ap (λ (x : Opening). open_answer x (length c.args.words.now) (length c.args.bytes.now)) is in
    record {
      says = to_z-of_z_to w64 _ _ (sfits_of c.refuse.type_inv) (c.refuse.ensures ∙ ap (signed 0) said);
      left =
          subst (λ (a : Answer). if_done a (Opened o c.args.words.now c.args.bytes.now c.open.new.words c.open.new.bytes) (Unchanged c.args.words.now c.args.bytes.now c.open.new.words c.open.new.bytes))
          said e.left;
    }
