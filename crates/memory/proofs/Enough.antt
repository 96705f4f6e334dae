-- The memory that is asked for at opening is enough for ever, and each number fits its word or byte. Assumes nothing.
use Rattle.std.proofs.Common.{◌≡◌, ℕ, ◌≤◌, Bool, true, List, [], ◌∷◌, length, sym, refl, ap, ◌∙◌, subst, arith}
use Rattle.std.proofs.lemmas.List.{length-append, length-drop, length-replicate}
use Rattle.std.proofs.lemmas.Bool.{and_parts}
use Rattle.score.specs.Calls.{Call, Answer, Limits, Layout, Score, empty_voices, after, ran}
use Rattle.score.specs.Promise.{Memory, Engraver, left_by, EnoughMemory, GoodLayout, GoodLimits, field_end, readable, all_readable, all_below}
use Rattle.wire.specs.Bytes.{answer_bytes, written}
use Rattle.wire.specs.Fits.{answer_fits}
use Rattle.wire.proofs.Fitting.{answer_below}
use Rattle.wire.proofs.Rows.{all_below-++}
use Rattle.memory.specs.Store.{bytes_asked, stored, Kept}
use Rattle.memory.specs.Words.{engraver_by}
use Rattle.memory.proofs.Below.{below_drop, below_zeros}
use Rattle.memory.proofs.Stored.{length_stored, words_fit}
use Rattle.memory.proofs.Run.{kin, says_is, next_is, left_is, kept_after, kept_ran, kept_empty}
use Rattle.memory.proofs.Fields.{answers_fit, answers_short}

-- ---- an answer over the front of the bytes

length_written : (xs bs : List ℕ) → length xs ≤ length bs → length (written xs bs) ≡ length bs
unfolding written
length_written xs bs h = simp (length-append, length-drop) (omega arith)

below_written : (xs bs : List ℕ) → all_below 256 xs ≡ true → all_below 256 bs ≡ true → all_below 256 (written xs bs) ≡ true
unfolding written
below_written xs bs h k = all_below-++ 256 xs _ h (below_drop 256 _ bs k)

-- ---- over a run of calls

module _ (can : ℕ → Bool) (signed : Bool) where
  abbrev E : Engraver
  E = engraver_by can signed

  module _ (l : Limits) (y : Layout) (gy : GoodLayout y) (gl : GoodLimits l) where
    bytes_left : (m : Memory) (s : Score) (cs : List Call) → all_readable cs ≡ true → Kept l s → m.words ≡ stored l y s → length m.bytes ≡ bytes_asked l.events → all_below 256 m.bytes ≡ true →
        (length (left_by E m cs).bytes ≡ bytes_asked l.events) × (all_below 256 (left_by E m cs).bytes ≡ true)
    unfolding left_by all_readable
    bytes_left m s [] r k e n h = (n, h)
    bytes_left m s (c ∷ cs) r k e n h =
        let a : Answer = E.says m c in
        let p = and_parts (readable c) (all_readable cs) r in
        let is = sym (says_is can signed l y m s c k e) in
        let short : length (answer_bytes a) ≤ bytes_asked l.events = subst (λ x. length (answer_bytes x) ≤ bytes_asked l.events) is (answers_short (kin can signed l) y s c gy k) in
        let small : answer_fits a ≡ true = subst (λ x. answer_fits x ≡ true) is (answers_fit (kin can signed l) y s c gy gl k p.0) in
        bytes_left (E.next m c) (after (kin can signed l) y s c) cs p.1 (kept_after (kin can signed l) y s c k) (next_is can signed l y m s c k e)
        (length_written (answer_bytes a) m.bytes (omega arith) ∙ n) (below_written (answer_bytes a) m.bytes (answer_below a small) h)

  pub enough : EnoughMemory E
  unfolding EnoughMemory
  enough l y cs gy gl r =
      let s : Score = ran (kin can signed l) y (empty_voices l.voices) cs in
      let e = left_is can signed l y (E.opened l y) (empty_voices l.voices) cs (kept_empty l) refl in
      let k : Kept l s = kept_ran (kin can signed l) y (empty_voices l.voices) cs (kept_empty l) in
      let b =
      bytes_left l y gy gl (E.opened l y) (empty_voices l.voices) cs r (kept_empty l) refl (length-replicate {A = ℕ} (bytes_asked l.events) 0)
      (below_zeros 256 (bytes_asked l.events) (omega arith)) in (
        omega (arith, ap length e, length_stored l y s k),
        ap (all_below field_end) e ∙ words_fit l y s gy gl k,
        omega (arith, b.0),
        b.1,
      )
