-- Notes are written over lent bytes, one behind the other: what is written so far and what is still left come to the same in every turn. Assumes nothing.
use Rattle.std.proofs.Common.{◌≡◌, ℕ, ◌+◌, ◌-◌, ◌*◌, ◌≤◌, List, [], ◌∷◌, ◌++◌, length, take, drop, sym, refl, ap, ◌∙◌, arith}
use borrow.Rule.Slice.PartMut.{put_mid}
use Rattle.std.proofs.lemmas.List.{append_assoc, append-nil, length-append, length-take-le, take-append-drop, take_at, drop_at, drop-drop}
use Rattle.score.specs.Music.{Heard}
use Rattle.wire.specs.Bytes.{sound_bytes, each, sounds_bytes}
use Rattle.wire.proofs.Written.{put_rest}
use Rattle.sounds.specs.Spans.{Row}

-- the notes `all` go behind the first `from` of the bytes that came: of them `rest` is left, and `count` notes stand in front
pub record Written (came : List ℕ) (from : ℕ) (all : Row) (out : List ℕ) (count : ℕ) (rest : Row) : Type 0 where
  pub front : take (8 * count) out ++ sounds_bytes rest ≡ take (8 * from) came ++ sounds_bytes all
  pub back : drop (8 * count) out ≡ drop (8 * count) came
  pub more : from ≤ count
  pub many : count + length rest ≡ from + length all

-- before the first of them
pub none_written : (came : List ℕ) (from : ℕ) (all : Row) → Written came from all came from all
none_written came from all = record { front = refl; back = refl; more = omega arith; many = refl }

module _ {came : List ℕ} {all : Row} {out : List ℕ} {count : ℕ} where
  -- the next is written behind those that are there
  pub next_written :
      {from : ℕ} {y note : ℕ × Heard} {rest : Row} {n : ℕ} (last : List ℕ) → Written came from all out count (y ∷ rest) → 8 * count ≤ length out → note ≡ y → n ≡ 8
      → last ≡ sound_bytes note ++ drop n (take (length out - 8 * count) (drop (8 * count) out))
      → Written came from all (put_mid (8 * count) (length out - 8 * count) out last) (count + 1) rest
  unfolding each
  next_written {from} {y} {note} {rest} {n} last w h is many l =
      let behind : List ℕ = take (length out - 8 * count) (drop (8 * count) out) in
      let wrote = l ∙ ap (λ (z : ℕ × Heard). sound_bytes z ++ drop n behind) is ∙ ap (λ (k : ℕ). sound_bytes y ++ drop k behind) many in
      let eight : 8 * (count + 1) ≡ 8 * count + 8 = omega arith in
      let now : put_mid (8 * count) (length out - 8 * count) out last ≡ take (8 * count) out ++ (sound_bytes y ++ drop (8 * count + 8) out) = put_rest out (sound_bytes y) last (8 * count) 8 wrote in
      let part : List ℕ = take (8 * count) out ++ sound_bytes y in
      let long : length part ≡ 8 * (count + 1) = length-append (take (8 * count) out) (sound_bytes y) ∙ ap (λ (k : ℕ). k + 8) (length-take-le (8 * count) out h) ∙ sym eight in
      let parts : put_mid (8 * count) (length out - 8 * count) out last ≡ part ++ drop (8 * count + 8) out = now ∙ sym (append_assoc (take (8 * count) out) (sound_bytes y) (drop (8 * count + 8) out)) in
      record {
        front =
            ap (λ (bs : List ℕ). take (8 * (count + 1)) bs ++ sounds_bytes rest) parts
            ∙ ap (λ (bs : List ℕ). bs ++ sounds_bytes rest) (take_at part (drop (8 * count + 8) out) (8 * (count + 1)) long)
            ∙ append_assoc (take (8 * count) out) (sound_bytes y) (sounds_bytes rest)
            ∙ w.front;
        back =
            ap (drop (8 * (count + 1))) parts ∙ drop_at part (drop (8 * count + 8) out) (8 * (count + 1)) long ∙ sym (drop-drop 8 (8 * count) out) ∙ ap (drop 8) w.back
            ∙ drop-drop 8 (8 * count) came ∙ ap (λ (k : ℕ). drop k came) (sym eight);
        more = omega (arith, w.more);
        many = omega (arith, w.many);
      }

  -- in two goes
  pub written_on : {next : List ℕ} {more : ℕ} {left rest : Row} → Written came 0 all out count left → Written out count left next more rest → Written came 0 all next more rest
  written_on {next} {more} {left} {rest} w i =
      let d : 8 * count + 8 * (more - count) ≡ 8 * more = omega (arith, i.more) in
      record {
        front = i.front ∙ w.front;
        back =
            i.back ∙ ap (λ (k : ℕ). drop k out) (sym d) ∙ sym (drop-drop (8 * (more - count)) (8 * count) out) ∙ ap (drop (8 * (more - count))) w.back
            ∙ drop-drop (8 * (more - count)) (8 * count) came ∙ ap (λ (k : ℕ). drop k came) d;
        more = omega arith;
        many = i.many ∙ w.many;
      }

  -- and where none is left all are written
  pub all_written : {rest : Row} → Written came 0 all out count rest → rest ≡ [] → (out ≡ sounds_bytes all ++ drop (8 * count) came) × (count ≡ length all)
  unfolding each
  all_written {rest} w none =
      let f : take (8 * count) out ≡ sounds_bytes all = sym (append-nil (take (8 * count) out)) ∙ ap (λ (ys : Row). take (8 * count) out ++ sounds_bytes ys) (sym none) ∙ w.front in
      let g = ap length none in (
        sym (take-append-drop (8 * count) out) ∙ ap (λ (bs : List ℕ). bs ++ drop (8 * count) out) f ∙ ap (λ (bs : List ℕ). sounds_bytes all ++ bs) w.back,
        omega (arith, w.many, g),
      )
