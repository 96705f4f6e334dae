-- Notes that were written down so far, and what is still to be heard: together they are all. Assumes nothing.
use Rattle.std.proofs.Common.{◌≡◌, ℕ, ◌+◌, ◌-◌, ◌≤◌, true, List, [], ◌∷◌, ◌++◌, map, length, take, drop, Some, None, Option, sym, refl, ap, ◌∙◌, append_assoc, arith, length-append}
use borrow.Rule.Slice.PartMut.{put_mid}
use Rattle.std.proofs.lemmas.List.{append-nil, drop-drop, drop_at, take_at, length-take-le, length-map, map-append}
use Rattle.score.specs.Music as music
use Rattle.score.specs.Music.{places}
use Rattle.score.specs.Print.{Symbol}
use Rattle.wire.proofs.Written.{put_rest}
use Rattle.reading.specs.declared.Heard.{Heard}
use Rattle.reading.specs.Player.{State, can_play, after, ends}
use Rattle.reading.specs.Told.{heard_meant, listed, notes}
use Rattle.reading.proofs.Steps.{to_hear, step}

-- what is heard of notes as they are listed
pub one_note : (o : Option Heard) → notes o ≡ map heard_meant (listed o)
one_note None = refl
one_note (Some h) = refl

two_notes : (o p : Option Heard) → notes o ++ notes p ≡ map heard_meant (listed o ++ listed p)
two_notes None p = one_note p
two_notes (Some h) p = ap (λ (hs : List music.Heard). heard_meant h ∷ hs) (one_note p)

-- one symbol is played: what ends by it, and what is to be heard behind it
pub plays_on : (k : ℕ) (x : Symbol) (xs : List Symbol) (y z : State) (o p : Option Heard) → can_play x ≡ true → length y.holds ≡ places → z ≡ after k x y → notes o ++ notes p ≡ ends x y →
    to_hear k (x ∷ xs) y ≡ map heard_meant (listed o ++ listed p) ++ to_hear k xs z
plays_on k x xs y z o p f l e n =
    step k x xs y f l
    ∙ ap (λ (hs : List music.Heard). hs ++ to_hear k xs (after k x y)) (sym n ∙ two_notes o p)
    ∙ ap (λ (w : State). map heard_meant (listed o ++ listed p) ++ to_hear k xs w) (sym e)

-- of `whole`, the first `at` are in `out`, whose rest is as it was, and `owed` are still to come
pub record Noted (whole : List music.Heard) (was out : List Heard) (at : ℕ) (owed : List music.Heard) : Type 0 where
  pub front : map heard_meant (take at out) ++ owed ≡ whole
  pub back : drop at out ≡ drop at was
  pub within : at ≤ length out

pub starts : (whole : List music.Heard) (was : List Heard) (owed : List music.Heard) → owed ≡ whole → Noted whole was was 0 owed
starts whole was owed e = record { front = e; back = refl; within = omega arith }

-- there is room for the next notes
pub room : {whole : List music.Heard} {was out : List Heard} {at : ℕ} {owed : List music.Heard} (ws : List Heard) (then : List music.Heard) →
    Noted whole was out at owed → owed ≡ map heard_meant ws ++ then → length whole ≤ length was → length out ≡ length was → at + length ws ≤ length out
room {whole} {was} {out} {at} {owed} ws then n e l o =
    let t = length-take-le at out n.within in
    let a : length (map heard_meant (take at out)) + length owed ≡ length whole = sym (length-append (map heard_meant (take at out)) owed) ∙ ap length n.front in
    let b : length owed ≡ length (map heard_meant ws) + length then = ap length e ∙ length-append (map heard_meant ws) then in
    omega (arith, length-map (take at out) heard_meant, length-map ws heard_meant)

-- and once they are written
pub write : {whole : List music.Heard} {was out : List Heard} {at : ℕ} {owed : List music.Heard} (ws last : List Heard) (many : ℕ) (then : List music.Heard) →
    Noted whole was out at owed → owed ≡ map heard_meant ws ++ then → length whole ≤ length was → length out ≡ length was → many ≡ length ws
    → last ≡ ws ++ drop many (take (length out - at) (drop at out))
    → Noted whole was (put_mid at (length out - at) out last) (at + many) then
write {whole} {was} {out} {at} {owed} ws last many then n e l o m w =
    let t = length-take-le at out n.within in
    let r = room ws then n e l o in
    let z : length (take at out ++ ws) ≡ at + many = length-append (take at out) ws ∙ (omega arith) in
    let q : put_mid at (length out - at) out last ≡ (take at out ++ ws) ++ drop (at + many) out = put_rest out ws last at many w ∙ sym (append_assoc (take at out) ws (drop (at + many) out)) in
    record {
      front =
          ap (λ (hs : List Heard). map heard_meant (take (at + many) hs) ++ then) q
          ∙ ap (λ (hs : List Heard). map heard_meant hs ++ then) (take_at (take at out ++ ws) (drop (at + many) out) (at + many) z)
          ∙ ap (λ (hs : List music.Heard). hs ++ then) (map-append heard_meant (take at out) ws)
          ∙ append_assoc (map heard_meant (take at out)) (map heard_meant ws) then ∙ ap (λ (hs : List music.Heard). map heard_meant (take at out) ++ hs) (sym e) ∙ n.front;
      back =
          ap (drop (at + many)) q ∙ drop_at (take at out ++ ws) (drop (at + many) out) (at + many) z
          ∙ sym (drop-drop many at out) ∙ ap (drop many) n.back ∙ drop-drop many at was;
      within = (let y : length (put_mid at (length out - at) out last) ≡ at + many + length (drop (at + many) out) = ap length q ∙ length-append (take at out ++ ws) (drop (at + many) out) ∙ ap (λ (i : ℕ). i + length (drop (at + many) out)) z in omega arith);
    }

-- all is written
pub all : {whole : List music.Heard} {was out : List Heard} {at : ℕ} → Noted whole was out at [] → (map heard_meant (take at out) ≡ whole) × (at ≡ length whole)
all {whole} {was} {out} {at} n =
    let f : map heard_meant (take at out) ≡ whole = sym (append-nil _) ∙ n.front in
    (f, sym (length-take-le at out n.within) ∙ sym (length-map (take at out) heard_meant) ∙ ap length f)
