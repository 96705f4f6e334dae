-- The number of an answer is found from its bytes, and every answer is short. Assumes nothing.
use Rattle.std.proofs.Common.{◌≡◌, ℕ, ◌<◌, ◌≤◌, List, ◌++◌, length, take, drop, ℤ, Ok, Err, Result, sym, refl, ap, ◌∙◌, subst, arith}
use Rattle.std.proofs.lemmas.List.{take-append-drop}
use Rattle.score.specs.Calls.{Call, Answer, done, refused, symbols, sounds, number}
use Rattle.wire.specs.Bytes.{answer_bytes}
use Rattle.wire.specs.Reading.{said_of}
use Rattle.wire.specs.ReadingCalls.{read_call}
use Rattle.wire.proofs.Numbers.{of_four_four}
use Rattle.wire.proofs.PlaceRight.{place_right}
use Rattle.memory.specs.Store.{limits_of, layout_of, score_of}
use Rattle.memory.specs.Words.{answer_by}
use Rattle.memory.proofs.Fields.{answers_short}
use Rattle.session.specs.Session.{words_taken, memory_in, Ready, said_to, Answered}
use Rattle.capi.specs.Signed.{turned_away, signed, signed_by, Replied}

number_by : (a : Answer) (rest : List ℕ) (n : ℕ) → signed_by n (said_of (answer_bytes a ++ rest)) ≡ signed n a
number_by done rest n = refl
number_by (refused f p) rest n = ap (turned_away f) (of_four_four p)
number_by (symbols xs) rest n = refl
number_by (sounds xs) rest n = refl
number_by (number m) rest n = refl

module _ (w b input w' b' : List ℕ) (long : ℕ) (ready : Ready w b) (is : Answered w b input w' b' long) where
  pub replied : (r : ℤ) → r ≡ signed_by long (said_of b') → Replied w b input w' b' r
  replied r e =
      let a : Answer = said_to (memory_in w b) (read_call input) in
      let apart : b' ≡ answer_bytes a ++ drop long b' = sym (take-append-drop long b') ∙ ap (λ (x : List ℕ). x ++ drop long b') is.answer in
      record {
        answered = subst (Answered w b input w' b') is.long is;
        says = e ∙ ap (λ (x : List ℕ). signed_by long (said_of x)) apart ∙ number_by a (drop long b') long ∙ ap (λ (n : ℕ). signed n a) is.long;
      }

  short : (o : Result Call Answer) → read_call input ≡ o → length (answer_bytes (said_to (memory_in w b) o)) ≤ 1000000
  unfolding answer_by
  short (Ok c) e =
      let W : List ℕ = take (words_taken w) w in
      let few = answers_short (limits_of W) (layout_of W) (score_of W) c ready.holds.proper.good_layout ready.holds.proper.kept in
      let limit = ready.holds.proper.good_limits.2 in omega (arith, few, limit)
  short (Err a) e =
      let six : length (answer_bytes a) ≡ 6 = ap (λ (x : Answer). length (answer_bytes x)) (place_right input a e).1 in omega (arith, six)

  pub small : long < 4294967296
  small = let s = short (read_call input) refl in omega (arith, s, is.long)
