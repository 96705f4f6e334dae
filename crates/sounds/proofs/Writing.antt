-- What is written of all voices so far and what is still left of them come to the same in every turn. Assumes nothing.
use Rattle.std.proofs.Common.{◌≡◌, ℕ, ◌+◌, ◌-◌, ◌*◌, ◌^◌, ◌<◌, ◌≤◌, List, [], ◌∷◌, ◌++◌, length, get_or, take, drop, set, ap, subst, arith}
use borrow.Rule.Slice.PartMut.{put_mid}
use lib.Bits.{bit_xor}
use lib.Count.{count_trailing_zeros}
use Rattle.std.proofs.lemmas.List.{length-set}
use Rattle.score.specs.Music.{Heard}
use Rattle.wire.specs.Bytes.{sound_bytes, sounds_bytes}
use Rattle.sounds.specs.Spans.{grain, silences, sound_at, Laid, left, Begin, Ready, all_left}
use Rattle.sounds.proofs.Bits.{trailing_lowest}
use Rattle.sounds.proofs.Turns.{begin_later, begin_none}
use Rattle.sounds.proofs.Turned.{Turned, turned}
use Rattle.sounds.proofs.Written.{Written, next_written, written_on, all_written}

-- out of n notes that are left at the start, with the bytes as they came then, to here
pub record Writing (ns ps xs ds : List ℕ) (e : ℕ) (start : List ℕ) (came : List ℕ) (from : ℕ) (cursors out : List ℕ) (count t : ℕ) (ms : List ℕ) : Type 0 where
  pub ready : Ready ns ps xs ds e cursors t ms
  pub enough : length ns ≤ length cursors
  pub written : Written came from (all_left ns ps xs ds e start) out count (all_left ns ps xs ds e cursors)

module _ {ns ps xs ds : List ℕ} {e : ℕ} where
  -- while the slot has bits, the lowest says whose turn it is
  pub writing_next :
      {start came : List ℕ} {from : ℕ} {cursors out : List ℕ} {count t m : ℕ} {ms : List ℕ} → Laid ns ps xs ds
      → Writing ns ps xs ds e start came from cursors out count t (m ∷ ms) → (m ≡ 0 → ⊥) → m < 2 ^ 64
      → (at : ℕ) → at ≡ get_or cursors (count_trailing_zeros 64 m) 0 + silences (drop (get_or cursors (count_trailing_zeros 64 m) 0) ps) → Turned ns ps xs ds e cursors t m (count_trailing_zeros 64 m) ms at
  writing_next {start} {came} {from} {cursors} {out} {count} {t} {m} {ms} l w ne h at q =
      turned ns ps xs ds e cursors t m (count_trailing_zeros 64 m) ms l w.enough w.ready (trailing_lowest m (omega arith) h) at q

  -- a note is written behind those that are there
  pub writing_turn :
      {start came : List ℕ} {from : ℕ} {cursors out : List ℕ} {count t m : ℕ} {ms : List ℕ} {v at n : ℕ} {note : ℕ × Heard} (last : List ℕ) → Writing ns ps xs ds e start came from cursors out count t (m ∷ ms)
      → Turned ns ps xs ds e cursors t m v ms at → 8 * count ≤ length out → note ≡ (v, sound_at ps xs ds at t) → n ≡ 8
      → last ≡ sound_bytes note ++ drop n (take (length out - 8 * count) (drop (8 * count) out))
      → Writing ns ps xs ds e start came from (set cursors v (at + 1)) (put_mid (8 * count) (length out - 8 * count) out last) (count + 1) t (bit_xor m (2 ^ v) ∷ ms)
  writing_turn {start} {came} {from} {cursors} {out} {count} {t} {m} {ms} {v} {at} {n} {note} last w tu h is many l = record {
    ready = tu.ready;
    enough = omega (arith, w.enough, length-set cursors v (at + 1));
    written = next_written last (subst (Written came from (all_left ns ps xs ds e start) out count) tu.next w.written) h is many l;
  }

  -- there is room for it
  pub writing_room :
      {start came : List ℕ} {was out : List ℕ} {begun cursors : List ℕ} {before count t s m : ℕ} {ms ls : List ℕ} {v at : ℕ} (n : ℕ)
      → Writing ns ps xs ds e start came 0 begun was before s ls → Writing ns ps xs ds e begun was before cursors out count t (m ∷ ms) → Turned ns ps xs ds e cursors t m v ms at
      → 8 * length (all_left ns ps xs ds e start) ≤ n → 8 * count + 8 ≤ n
  writing_room n w i u h = let g = ap length u.next in omega (arith, w.written.many, i.written.many, g, h)

  -- an empty slot is passed
  pub writing_empty :
      {start came : List ℕ} {from : ℕ} {cursors out : List ℕ} {count t m r : ℕ} {ms : List ℕ}
      → Writing ns ps xs ds e start came from cursors out count t (m ∷ ms) → m ≡ 0 → t + grain ≡ r → Writing ns ps xs ds e start came from cursors out count r ms
  writing_empty {start} {came} {from} {cursors} {out} {count} {t} {m} {r} {ms} w z q = record {
    ready = record {
      begin = subst (λ (k : ℕ). Begin (left ns ps xs ds e cursors) k ms) q (begin_later _ t m ms z w.ready.begin);
      reached = w.ready.reached;
    };
    enough = w.enough;
    written = w.written;
  }

  -- after the last voice of a slot comes the next slot
  pub writing_slot :
      {start came : List ℕ} {was out : List ℕ} {begun cursors : List ℕ} {before count t s m : ℕ} {ms ls : List ℕ} (r : ℕ)
      → Writing ns ps xs ds e start came 0 begun was before s ls → Writing ns ps xs ds e begun was before cursors out count t (m ∷ ms) → m ≡ 0 → t + grain ≡ r
      → Writing ns ps xs ds e start came 0 cursors out count r ms
  writing_slot {start} {came} {was} {out} {begun} {cursors} {before} {count} {t} {s} {m} {ms} r w i z q =
      let after = writing_empty i z q in record { ready = after.ready; enough = after.enough; written = written_on w.written i.written }

  -- and after the last slot all is written
  pub writing_all : {start came cursors out : List ℕ} {count t : ℕ} {ms : List ℕ} → Writing ns ps xs ds e start came 0 cursors out count t ms → ms ≡ []
      → (out ≡ sounds_bytes (all_left ns ps xs ds e start) ++ drop (8 * count) came) × (count ≡ length (all_left ns ps xs ds e start))
  writing_all {start} {came} {cursors} {out} {count} {t} {ms} w z =
      all_written w.written (begin_none _ t (length ns) (subst (Begin (left ns ps xs ds e cursors) t) z w.ready.begin))
