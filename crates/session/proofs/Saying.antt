-- What is written for a call is its answer. Assumes nothing.
use Rattle.std.proofs.Common.{◌≡◌, ℕ, ◌+◌, ◌-◌, ◌*◌, ◌/◌, ◌<◌, ◌≤◌, Bool, true, false, leb, Some, None, refl, List, ◌++◌, length, get_or, take, drop, sym, ap, ◌∙◌, arith, length-append}
use borrow.Rule.Slice.PartMut.{put_mid}
use Rattle.std.proofs.lemmas.Bool.{leb-true, leb-false}
use Rattle.std.specs.Bool.{then_some}
use Rattle.score.specs.Music.{Event, Heard}
use Rattle.score.specs.Print.{Symbol}
use Rattle.score.specs.Calls.{Call, show, heard_in, Answer, symbols, sounds, most_bars, widest_span, voice, together, told}
use Rattle.wire.specs.Bytes.{symbols_head, symbols_bytes, sounds_head, sounds_bytes, answer_bytes}
use Rattle.wire.proofs.Rows.{length_symbols, length_sounds}
use Rattle.wire.proofs.Written.{put_before}
use Rattle.memory.specs.Store.{score_of}
use Rattle.memory.specs.Words.{Holds, Spans, events_at, answer_at}
use Rattle.memory.proofs.Outcomes.{show_done, heard_done}
use Rattle.engraving.specs.Shown.{shown, asked_for}
use Rattle.session.specs.Session.{Says}

-- a number that is handed on if another is small enough
pub kept : (d n m most : ℕ) → Some m ≡ then_some (leb d most) n → (m ≡ n) × (d ≤ most)
kept d n m most e = go (leb d most) refl e
  where
    go : (b : Bool) → leb d most ≡ b → Some m ≡ then_some b n → (m ≡ n) × (d ≤ most)
    go true l e = (cc, leb-true d most l)
    go false l e = absurd (cc)

pub not_kept : (d n most : ℕ) → None ≡ then_some (leb d most) n → most < d
not_kept d n most e = go (leb d most) refl e
  where
    go : (b : Bool) → leb d most ≡ b → None ≡ then_some b n → most < d
    go true l e = absurd (cc)
    go false l e = leb-false d most l

-- an answer is known, and it was written
pub says : (w b b' : List ℕ) (c : Call) (a : Answer) (r : ℕ) → answer_at w c ≡ a → b' ≡ answer_bytes a ++ drop r b → r ≡ length (answer_bytes a) → Says w b b' c r
says w b b' c a r e p q =
    record {
      wrote = p ∙ ap (λ (x : Answer). answer_bytes x ++ drop r b) (sym e);
      many = q ∙ ap (λ (x : Answer). length (answer_bytes x)) (sym e);
    }

-- a row was written behind the first five bytes, and then its head over them
pub headed :
    (b b' head row last : List ℕ) (h n : ℕ) → 5 ≤ length b → last ≡ row ++ drop n (take (length b - 5) (drop 5 b)) → h ≡ 5
    → b' ≡ head ++ drop h (put_mid 5 (length b - 5) b last) → b' ≡ (head ++ row) ++ drop (h + n) b
headed b b' head row last h n room e five is =
    is
    ∙ ap (λ (k : ℕ). head ++ drop k (put_mid 5 (length b - 5) b last)) five
    ∙ put_before b head row last 5 n room e
    ∙ ap (λ (k : ℕ). (head ++ row) ++ drop (k + n) b) (sym five)

-- bars of a voice that is there
module _ (w b b' : List ℕ) (v from n begin count long h : ℕ) (last : List ℕ) (hw : Holds w) (sp : Spans w v begin count) (few : n ≤ most_bars) where
  row : List ℕ
  row = shown (get_or w 0 0) (get_or w 1 0) (events_at w begin count) from n

  asked : List Symbol
  asked = asked_for (get_or w 0 0) (get_or w 1 0) (voice (score_of w) v) from n

  answered : answer_at w (show v from n) ≡ symbols asked
  unfolding told asked
  answered = (show_done w hw v from n few sp.there).said

  row_is : row ≡ symbols_bytes asked
  unfolding row asked
  row_is = ap (λ (es : List Event). shown (get_or w 0 0) (get_or w 1 0) es from n) sp.events

  pub show_says :
      5 ≤ length b → last ≡ shown (get_or w 0 0) (get_or w 1 0) (events_at w begin count) from n ++ drop long (take (length b - 5) (drop 5 b))
      → long ≡ length (shown (get_or w 0 0) (get_or w 1 0) (events_at w begin count) from n) → h ≡ 5
      → b' ≡ symbols_head (long / 5) ++ drop h (put_mid 5 (length b - 5) b last) → Says w b b' (show v from n) (h + long)
  unfolding row
  show_says room e l five is =
      let wide : long ≡ 5 * length asked = l ∙ ap length row_is ∙ length_symbols asked in
      let many : long / 5 ≡ length asked = omega arith in
      let whole : symbols_head (long / 5) ++ row ≡ answer_bytes (symbols asked) =
      ap (λ (k : ℕ). symbols_head k ++ row) many ∙ ap (λ (r : List ℕ). symbols_head (length asked) ++ r) row_is in
      says w b b' (show v from n) (symbols asked) (h + long) answered
      (headed b b' (symbols_head (long / 5)) row last h long room e five is ∙ ap (λ (r : List ℕ). r ++ drop (h + long) b) whole)
      (ap (λ (k : ℕ). k + long) five ∙ ap (λ (k : ℕ). 5 + k) l ∙ sym (length-append (symbols_head (long / 5)) row) ∙ ap length whole)

-- what is heard in a span
module _ (w b b' : List ℕ) (from to count h : ℕ) (last : List ℕ) (hw : Holds w) (near : to ≤ from + widest_span) where
  begun : List (ℕ × Heard)
  begun = together (score_of w) 0 from to

  told_heard : answer_at w (heard_in from to) ≡ sounds begun
  unfolding told begun
  told_heard = (heard_done w hw from to near).said

  pub hear_says :
      5 ≤ length b → last ≡ sounds_bytes (together (score_of w) 0 from to) ++ drop (8 * count) (take (length b - 5) (drop 5 b))
      → count ≡ length (together (score_of w) 0 from to) → h ≡ 5
      → b' ≡ sounds_head count ++ drop h (put_mid 5 (length b - 5) b last) → Says w b b' (heard_in from to) (h + 8 * count)
  unfolding begun
  hear_says room e many five is =
      let whole : sounds_head count ++ sounds_bytes begun ≡ answer_bytes (sounds begun) = ap (λ (k : ℕ). sounds_head k ++ sounds_bytes begun) many in
      let long : 8 * count ≡ length (sounds_bytes begun) = ap (λ (k : ℕ). 8 * k) many ∙ sym (length_sounds begun) in
      says w b b' (heard_in from to) (sounds begun) (h + 8 * count) told_heard
      (headed b b' (sounds_head count) (sounds_bytes begun) last h (8 * count) room e five is ∙ ap (λ (r : List ℕ). r ++ drop (h + 8 * count) b) whole)
      (ap (λ (k : ℕ). k + 8 * count) five ∙ ap (λ (k : ℕ). 5 + k) long ∙ sym (length-append (sounds_head count) (sounds_bytes begun)) ∙ ap length whole)
