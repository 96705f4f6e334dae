-- What opening leaves in lent memory. Assumes nothing.
use Rattle.std.proofs.Common.{◌≡◌, ℕ, ◌-◌, ◌≤◌, Bool, true, false, ◌&&◌, leb, List, ◌++◌, length, drop, replicate, Ok, Err, sym, refl, ap, ◌∙◌, subst, arith}
use borrow.Rule.Slice.PartMut.{post_of, Post-is}
use lib.ListN.{length-replicate}
use Rattle.std.proofs.lemmas.List.{length-append}
use Rattle.std.proofs.lemmas.Bool.{and_parts, leb-true, ltb-true, eqb-true}
use Rattle.score.specs.Music.{pick}
use Rattle.score.specs.Calls.{Limits, Layout, Score, done, empty_voices}
use Rattle.score.proofs.Picks.{pick_true}
use Rattle.score.specs.Promise.{GoodLayout, GoodLimits}
use Rattle.memory.specs.Store.{bytes_asked, words_asked, stored}
use Rattle.memory.specs.Words.{Holds}
use Rattle.memory.proofs.Run.{kept_empty}
use Rattle.memory.proofs.Stored.{length_stored}
use Rattle.memory.proofs.Held.{holds_stored}
use Rattle.session.specs.Session.{limits_for, layout_for, opens, sizes_of, open_answer, bytes_taken, Opened}
use Rattle.score.specs.declared.Opening.{Opening}
use Rattle.score.specs.declared.Refusal.TheVariants.{TooLittleMemory}
use Rattle.session.specs.declared.Sizes.{Sizes}
use Rattle.session.proofs.Lent.{memory_front, untouched, ready}

-- an opening in range has a layout and limits that a score may have
pub opens_good : (o : Opening) → opens o ≡ true → GoodLayout (layout_for o) × GoodLimits (limits_for o)
opens_good o e =
    let k = and_parts _ _ e in
    let b = and_parts _ _ k.1 in
    let m = and_parts _ _ b.1 in
    let t = and_parts _ _ m.1 in
    let v = and_parts _ _ t.1 in
    let x = and_parts _ _ v.1 in
    ((leb-true _ _ k.0, ltb-true _ _ b.0, leb-true _ _ m.0, eqb-true _ _ t.0), (ltb-true _ _ v.0, leb-true _ _ x.0, leb-true _ _ x.1))

pub holds_blank : (o : Opening) → opens o ≡ true → Holds (stored (limits_for o) (layout_for o) (empty_voices o.voices))
holds_blank o e = let g = opens_good o e in holds_stored (limits_for o) (layout_for o) (empty_voices o.voices) g.1 g.0 (kept_empty (limits_for o))

-- sizes that were found, and that there is room for
ok_picked : {A E : Type 0} (x : Bool) (a b : A) (f : E) → Ok a ≡ pick x (Ok b) (Err f) → (x ≡ true) × (a ≡ b)
ok_picked true a b f e = (refl, cc)
ok_picked false a b f e = absurd (let z : ◌≡◌ {A = ℕ} 0 1 = cc in omega arith)

pub record Sized (o : Opening) (t : Sizes) (words bytes : ℕ) : Type 0 where
  pub fits : opens o ≡ true
  pub words_are : t.words ≡ words_asked o.voices o.events
  pub bytes_are : t.bytes ≡ bytes_asked o.events
  pub words_room : t.words ≤ words
  pub bytes_room : t.bytes ≤ bytes
  pub said : done ≡ open_answer o words bytes

pub sized :
    (o : Opening) (s t : Sizes) (words bytes : ℕ) → Ok s ≡ sizes_of o → Ok t ≡ pick (leb s.words words && leb s.bytes bytes) (Ok s) (Err TooLittleMemory)
    → Sized o t words bytes
sized o s t words bytes e f =
    let p = ok_picked _ _ _ _ e in
    let q = ok_picked _ _ _ _ f in
    let r = and_parts _ _ q.0 in
    let w : t.words ≡ words_asked o.voices o.events = ap (λ (x : Sizes). x.words) (q.1 ∙ p.1) in
    let b : t.bytes ≡ bytes_asked o.events = ap (λ (x : Sizes). x.bytes) (q.1 ∙ p.1) in
    let there : (leb (words_asked o.voices o.events) words && leb (bytes_asked o.events) bytes) ≡ true =
    ap (λ (x : Sizes). leb x.words words && leb x.bytes bytes) (sym p.1) ∙ q.0 in
    record {
      fits = p.0;
      words_are = w;
      bytes_are = b;
      words_room = subst (λ (x : Sizes). x.words ≤ words) (sym q.1) (leb-true _ _ r.0);
      bytes_room = subst (λ (x : Sizes). x.bytes ≤ bytes) (sym q.1) (leb-true _ _ r.1);
      said = sym (pick_true _ _ _ p.0 ∙ pick_true _ _ _ there);
    }

pub room_stored : (l : Limits) (y : Layout) (s : Score) → bytes_taken (stored l y s) ≡ bytes_asked l.events
unfolding stored
room_stored l y s = refl

pub opened :
    (o : Opening) (w b W B : List ℕ) (n m : ℕ) → opens o ≡ true → n ≡ words_asked o.voices o.events → m ≡ bytes_asked o.events
    → W ≡ stored (limits_for o) (layout_for o) (empty_voices o.voices) → B ≡ replicate m 0
    → Opened o w b (W ++ post_of 0 (n - 0) w) (B ++ post_of 0 (m - 0) b)
opened o w b W B n m e en em eW eB =
    let h : Holds W = subst Holds (sym eW) (holds_blank o e) in
    let taken : bytes_taken W ≡ m = ap bytes_taken eW ∙ room_stored (limits_for o) (layout_for o) (empty_voices o.voices) ∙ sym em in
    let lb : length B ≡ bytes_taken W = ap length eB ∙ length-replicate {A = ℕ} m 0 ∙ sym taken in
    let lw : n ≡ length W = en ∙ sym (length_stored (limits_for o) (layout_for o) _ (kept_empty (limits_for o))) ∙ ap length (sym eW) in
    let pw : post_of 0 (n - 0) w ≡ drop (length W) w = Post-is 0 n w (omega arith) ∙ ap (λ x. drop x w) lw in
    let pb : post_of 0 (m - 0) b ≡ drop (length B) b = Post-is 0 m b (omega arith) ∙ ap (λ x. drop x b) (sym taken ∙ sym lb) in
    subst (λ (x : List ℕ). Opened o w b (W ++ x) (B ++ post_of 0 (m - 0) b)) (sym pw)
    (subst (λ (x : List ℕ). Opened o w b (W ++ drop (length W) w) (B ++ x)) (sym pb)
    (record {
      memory =
          memory_front W (drop (length W) w) B (drop (length B) b) h lb
          ∙ ap (λ (x : List ℕ). record { words = x; bytes = B }) eW
          ∙ ap (λ (x : List ℕ). record { words = stored (limits_for o) (layout_for o) (empty_voices o.voices); bytes = x }) (eB ∙ ap (λ x. replicate x 0) em);
      past = untouched w b W B h lb;
      ready = ready W (drop (length W) w) (B ++ drop (length B) b) h (rw length-append (omega arith));
    }))
