-- Lent memory that is longer than what a score takes. Assumes nothing.
use Rattle.std.proofs.Common.{◌≡◌, ℕ, ◌<◌, ◌≤◌, List, ◌++◌, length, take, drop, sym, ap, ◌∙◌, subst, arith}
use Rattle.std.proofs.lemmas.List.{get_or_append_left, take_at, drop_at, length-append}
use Rattle.memory.specs.Store.{words_asked, bytes_asked, voices_in, limit_in}
use Rattle.memory.specs.Words.{Holds}
use Rattle.session.specs.Session.{words_taken, bytes_taken, memory_in, Ready, Untouched}

-- a score's words W, and whatever stands behind them
taken : (W R : List ℕ) → Holds W → words_taken (W ++ R) ≡ length W
taken W R h =
    let few : 3 < length W = omega (arith, h.proper.size) in
    let v : voices_in (W ++ R) ≡ voices_in W = get_or_append_left W R 0 2 (omega arith) in
    let n : limit_in (W ++ R) ≡ limit_in W = get_or_append_left W R 0 3 (omega arith) in
    ap (λ x. words_asked x (limit_in (W ++ R))) v ∙ ap (λ x. words_asked (voices_in W) x) n ∙ sym h.proper.size

pub room : (W R : List ℕ) → Holds W → bytes_taken (W ++ R) ≡ bytes_taken W
room W R h =
    let few : 3 < length W = omega (arith, h.proper.size) in
    ap bytes_asked (get_or_append_left W R 0 3 (omega arith))

pub words_front : (W R : List ℕ) → Holds W → take (words_taken (W ++ R)) (W ++ R) ≡ W
words_front W R h = take_at W R _ (sym (taken W R h))

pub ready : (W R b : List ℕ) → Holds W → bytes_taken W ≤ length b → Ready (W ++ R) b
ready W R b h l =
    record {
      holds = subst Holds (sym (words_front W R h)) h;
      words_room = rw (taken W R h, length-append) (omega arith);
      bytes_room = rw (room W R h) l;
    }

-- bytes B, as many as are taken, and whatever stands behind them
pub memory_front : (W R B S : List ℕ) → Holds W → length B ≡ bytes_taken W → memory_in (W ++ R) (B ++ S) ≡ record { words = W; bytes = B }
memory_front W R B S h e =
    let f : take (bytes_taken (W ++ R)) (B ++ S) ≡ B = take_at B S _ (e ∙ sym (room W R h)) in
    ap (λ (x : List ℕ). record { words = x; bytes = take (bytes_taken (W ++ R)) (B ++ S) }) (words_front W R h) ∙ ap (λ (x : List ℕ). record { words = W; bytes = x }) f

pub untouched : (w b W B : List ℕ) → Holds W → length B ≡ bytes_taken W → Untouched w b (W ++ drop (length W) w) (B ++ drop (length B) b)
untouched w b W B h e =
    let R : List ℕ = drop (length W) w in
    let S : List ℕ = drop (length B) b in
    record {
      words = drop_at W R _ (sym (taken W R h)) ∙ ap (λ n. drop n w) (sym (taken W R h));
      bytes = drop_at B S _ (e ∙ sym (room W R h)) ∙ ap (λ n. drop n b) (e ∙ sym (room W R h));
    }
