-- A call on the part of lent memory that a score takes is a call on all of it. Assumes nothing.
use Rattle.std.proofs.Common.{◌≡◌, ℕ, ◌-◌, ◌≤◌, List, ◌++◌, length, take, drop, Ok, Err, Result, sym, ap, ◌∙◌, subst, append_assoc, arith}
use borrow.Rule.Slice.PartMut.{post_of, Post-is}
use Rattle.std.proofs.lemmas.List.{take_at, take-append-drop, length-take-le, length-append}
use Rattle.score.specs.Calls.{Call, Answer, after}
use Rattle.wire.specs.Bytes.{answer_bytes, written}
use Rattle.wire.specs.ReadingCalls.{read_call}
use Rattle.memory.specs.Store.{limits_of, layout_of, score_of}
use Rattle.memory.specs.Words.{Holds, words_by, answer_at, next_words}
use Rattle.session.specs.Session.{words_taken, bytes_taken, memory_in, Ready, said_to, left_in, Says, Untouched, Answered}
use Rattle.session.proofs.Lent.{room, memory_front, untouched, ready}
use Rattle.session.proofs.Openings.{room_stored}

module _ (w b input : List ℕ) (rd : Ready w b) where
  -- the bytes that are taken
  B : List ℕ
  B = take (bytes_taken w) b

  long_bytes : length B ≡ bytes_taken w
  unfolding B
  long_bytes = length-take-le (bytes_taken w) b rd.bytes_room

  pub same_room : bytes_taken (take (words_taken w) w) ≡ bytes_taken w
  same_room = sym (room (take (words_taken w) w) (drop (words_taken w) w) rd.holds) ∙ ap bytes_taken (take-append-drop (words_taken w) w)

  pub held_room : bytes_taken (take (words_taken w) w) ≤ length (take (bytes_taken w) b)
  unfolding B
  held_room = let e = same_room in let l = long_bytes in omega arith

  -- whatever the bytes were, by what is left of words and bytes and by what was written
  by_parts :
      (o : Result Call Answer) (W' B' : List ℕ) (r : ℕ) → o ≡ read_call input → Holds W' → length W' ≡ words_taken w → length B' ≡ bytes_taken w → bytes_taken W' ≡ bytes_taken w
      → record { words = W'; bytes = B' } ≡ left_in (memory_in w b) o → B' ≡ answer_bytes (said_to (memory_in w b) o) ++ drop r (take (bytes_taken w) b)
      → r ≡ length (answer_bytes (said_to (memory_in w b) o))
      → Answered w b input (W' ++ drop (words_taken w) w) (B' ++ drop (bytes_taken w) b) r
  by_parts o W' B' r is h lw lb same left wrote many =
      let A : List ℕ = answer_bytes (said_to (memory_in w b) o) in
      let read : answer_bytes (said_to (memory_in w b) o) ≡ answer_bytes (said_to (memory_in w b) (read_call input)) = ap (λ (x : Result Call Answer). answer_bytes (said_to (memory_in w b) x)) is in
      let apart : B' ++ drop (bytes_taken w) b ≡ A ++ (drop r (take (bytes_taken w) b) ++ drop (bytes_taken w) b) =
      ap (λ (x : List ℕ). x ++ drop (bytes_taken w) b) wrote ∙ append_assoc A (drop r (take (bytes_taken w) b)) (drop (bytes_taken w) b) in
      let past : Untouched w b (W' ++ drop (length W') w) (B' ++ drop (length B') b) = untouched w b W' B' h (lb ∙ sym same) in
      record {
        memory = memory_front W' (drop (words_taken w) w) B' (drop (bytes_taken w) b) h (lb ∙ sym same) ∙ left ∙ ap (left_in (memory_in w b)) is;
        long = many ∙ ap length read;
        answer = ap (take r) apart ∙ take_at A _ r (sym many) ∙ read;
        past =
            subst (λ (k : ℕ). Untouched w b (W' ++ drop k w) (B' ++ drop (bytes_taken w) b)) lw
            (subst (λ (k : ℕ). Untouched w b (W' ++ drop (length W') w) (B' ++ drop k b)) lb past);
        ready = ready W' (drop (words_taken w) w) (B' ++ drop (bytes_taken w) b) h (rw length-append (omega (arith, same, lb)));
      }

  -- what a slice of the first k is when it is back
  back : (k : ℕ) (xs : List ℕ) → post_of 0 (k - 0) xs ≡ drop k xs
  back k xs = Post-is 0 k xs (omega arith)

  -- bytes that are a call
  pub called :
      (c : Call) (n m r : ℕ) (W' B' : List ℕ) → n ≡ words_taken w → m ≡ bytes_taken w → Ok c ≡ read_call input → Holds W' → length W' ≡ n → length B' ≡ m
      → W' ≡ next_words (take (words_taken w) w) c → Says (take (words_taken w) w) (take (bytes_taken w) b) B' c r
      → Answered w b input (W' ++ post_of 0 (n - 0) w) (B' ++ post_of 0 (m - 0) b) r
  unfolding written words_by
  called c n m r W' B' en em is h lw lb next says =
      let T : List ℕ = take (words_taken w) w in
      let same : bytes_taken W' ≡ bytes_taken w =
      ap bytes_taken next ∙ room_stored (limits_of T) (layout_of T) (after (limits_of T) (layout_of T) (score_of T) c) ∙ same_room in
      let whole : B' ≡ written (answer_bytes (answer_at T c)) (take (bytes_taken w) b) =
      says.wrote ∙ ap (λ (k : ℕ). answer_bytes (answer_at T c) ++ drop k (take (bytes_taken w) b)) says.many in
      subst (λ (x : List ℕ). Answered w b input (W' ++ x) (B' ++ post_of 0 (m - 0) b) r) (sym (back n w ∙ ap (λ (k : ℕ). drop k w) en))
      (subst (λ (x : List ℕ). Answered w b input (W' ++ drop (words_taken w) w) (B' ++ x) r) (sym (back m b ∙ ap (λ (k : ℕ). drop k b) em))
      (by_parts (Ok c) W' B' r is h (lw ∙ en) (lb ∙ em) same
      (ap (λ (x : List ℕ). record { words = x; bytes = B' }) next ∙ ap (λ (x : List ℕ). record { words = next_words T c; bytes = x }) whole)
      says.wrote says.many))

  -- and bytes that are none
  pub refused :
      (a : Answer) (m r : ℕ) (B' : List ℕ) → m ≡ bytes_taken w → Err a ≡ read_call input → length B' ≡ m
      → B' ≡ answer_bytes a ++ drop r (take (bytes_taken w) b) → r ≡ length (answer_bytes a)
      → Answered w b input w (B' ++ post_of 0 (m - 0) b) r
  unfolding written
  refused a m r B' em is lb wrote many =
      let T : List ℕ = take (words_taken w) w in
      let whole : B' ≡ written (answer_bytes a) (take (bytes_taken w) b) = wrote ∙ ap (λ (k : ℕ). answer_bytes a ++ drop k (take (bytes_taken w) b)) many in
      subst (λ (x : List ℕ). Answered w b input x (B' ++ post_of 0 (m - 0) b) r) (take-append-drop (words_taken w) w)
      (subst (λ (x : List ℕ). Answered w b input (T ++ drop (words_taken w) w) (B' ++ x) r) (sym (back m b ∙ ap (λ (k : ℕ). drop k b) em))
      (by_parts (Err a) T B' r is rd.holds (length-take-le (words_taken w) w rd.words_room) (lb ∙ em) same_room
      (ap (λ (x : List ℕ). record { words = T; bytes = x }) whole) wrote many))
