-- Symbols that were written so far, and those that are still owed: together they are all. Assumes nothing.
use Rattle.std.proofs.Common.{◌≡◌, ℕ, ◌+◌, ◌-◌, ◌≤◌, List, [], ◌∷◌, ◌++◌, length, take, drop, sym, refl, ap, ◌∙◌, append_assoc, arith, length-append, length-drop}
use borrow.Rule.Slice.PartMut.{put_mid}
use Rattle.std.proofs.lemmas.List.{append-nil, drop-drop, drop_at, take_at, take_rest, length-take-le, take-append-drop}
use Rattle.score.specs.Print.{Symbol}
use Rattle.wire.specs.Bytes.{symbol_bytes, symbols_bytes, each}
use Rattle.wire.proofs.Rows.{length_symbol}
use Rattle.wire.proofs.Written.{put_rest}

-- the bytes of `whole` are the first `at` of `out`, whose rest is as it was, and then those of `owed`
pub record Page (whole : List Symbol) (was out : List ℕ) (at : ℕ) (owed : List Symbol) : Type 0 where
  pub front : take at out ++ symbols_bytes owed ≡ symbols_bytes whole
  pub back : drop at out ≡ drop at was
  pub within : at ≤ length out

pub starts : (whole : List Symbol) (was : List ℕ) (owed : List Symbol) → owed ≡ whole → Page whole was was 0 owed
starts whole was owed e = record { front = ap symbols_bytes e; back = refl; within = omega arith }

-- what is owed, said otherwise
pub owing : {whole : List Symbol} {was out : List ℕ} {at : ℕ} {owed : List Symbol} (other : List Symbol) → Page whole was out at owed → owed ≡ other → Page whole was out at other
owing {whole} {was} {out} {at} {owed} other g e = record { front = ap (λ (xs : List Symbol). take at out ++ symbols_bytes xs) (sym e) ∙ g.front; back = g.back; within = g.within }

-- an inner loop begins with the bytes as they are, and ends
pub enter : {whole : List Symbol} {was out : List ℕ} {at : ℕ} {owed : List Symbol} → Page whole was out at owed → Page whole out out at owed
enter g = record { front = g.front; back = refl; within = g.within }

pub leave : {whole : List Symbol} {was mid out : List ℕ} {at : ℕ} {owed : List Symbol} (a : ℕ) → Page whole mid out at owed → drop a mid ≡ drop a was → a ≤ at → Page whole was out at owed
leave {whole} {was} {mid} {out} {at} a g e h =
    let s : a + (at - a) ≡ at = omega arith in
    let d : drop at mid ≡ drop at was = rw (← s, ← drop-drop (at - a) a mid, ← drop-drop (at - a) a was) (ap (drop (at - a)) e) in
    record { front = g.front; back = g.back ∙ d; within = g.within }

-- there is room for the next symbol
room_at : {whole : List Symbol} {was out : List ℕ} {at : ℕ} {owed : List Symbol} (x : Symbol) (then : List Symbol) →
    Page whole was out at owed → owed ≡ x ∷ then → length (symbols_bytes whole) ≤ length out → at + 5 ≤ length out
unfolding each
room_at {whole} {was} {out} {at} {owed} x then g e l =
    let t = length-take-le at out g.within in
    let a : length (take at out) + length (symbols_bytes owed) ≡ length (symbols_bytes whole) = sym (length-append (take at out) (symbols_bytes owed)) ∙ ap length g.front in
    let b : length (symbols_bytes owed) ≡ length (symbol_bytes x) + length (symbols_bytes then) = ap (λ (xs : List Symbol). length (symbols_bytes xs)) e ∙ length-append (symbol_bytes x) (symbols_bytes then) in
    omega (arith, length_symbol x)

pub room : {whole : List Symbol} {was out : List ℕ} {at : ℕ} {owed : List Symbol} (x : Symbol) (then : List Symbol) →
    Page whole was out at owed → owed ≡ x ∷ then → length (symbols_bytes whole) ≤ length out → 5 ≤ length (take (length out - at) (drop at out))
room x then g e l = let r = room_at x then g e l in simp (take_rest, length-drop) (omega arith)

-- and once it is written
pub write : {whole : List Symbol} {was out : List ℕ} {at : ℕ} {owed : List Symbol} (x : Symbol) (then : List Symbol) (last : List ℕ) (many : ℕ) →
    Page whole was out at owed → owed ≡ x ∷ then → length (symbols_bytes whole) ≤ length out → many ≡ 5
    → last ≡ symbol_bytes x ++ drop many (take (length out - at) (drop at out))
    → Page whole was (put_mid at (length out - at) out last) (at + many) then
unfolding each
write {whole} {was} {out} {at} {owed} x then last many g e l m w =
    let t = length-take-le at out g.within in
    let r = room_at x then g e l in
    let z : length (take at out ++ symbol_bytes x) ≡ at + many = length-append (take at out) (symbol_bytes x) ∙ (omega (arith, length_symbol x)) in
    let q : put_mid at (length out - at) out last ≡ (take at out ++ symbol_bytes x) ++ drop (at + many) out = put_rest out (symbol_bytes x) last at many w ∙ sym (append_assoc (take at out) (symbol_bytes x) (drop (at + many) out)) in
    record {
      front =
          ap (λ (bs : List ℕ). take (at + many) bs ++ symbols_bytes then) q
          ∙ ap (λ (bs : List ℕ). bs ++ symbols_bytes then) (take_at (take at out ++ symbol_bytes x) (drop (at + many) out) (at + many) z)
          ∙ append_assoc (take at out) (symbol_bytes x) (symbols_bytes then) ∙ ap (λ (xs : List Symbol). take at out ++ symbols_bytes xs) (sym e) ∙ g.front;
      back =
          ap (drop (at + many)) q ∙ drop_at (take at out ++ symbol_bytes x) (drop (at + many) out) (at + many) z
          ∙ sym (drop-drop many at out) ∙ ap (drop many) g.back ∙ drop-drop many at was;
      within = (let y : length (put_mid at (length out - at) out last) ≡ at + many + length (drop (at + many) out) = ap length q ∙ length-append (take at out ++ symbol_bytes x) (drop (at + many) out) ∙ ap (λ (i : ℕ). i + length (drop (at + many) out)) z in omega arith);
    }

-- all is written
pub all : {whole : List Symbol} {was out : List ℕ} {at : ℕ} {owed : List Symbol} → Page whole was out at owed → owed ≡ [] → (out ≡ symbols_bytes whole ++ drop at was) × (at ≡ length (symbols_bytes whole))
unfolding each
all {whole} {was} {out} {at} {owed} g e =
    let f : take at out ≡ symbols_bytes whole = sym (append-nil (take at out)) ∙ ap (λ (xs : List Symbol). take at out ++ symbols_bytes xs) (sym e) ∙ g.front in (
      sym (take-append-drop at out) ∙ ap (λ (bs : List ℕ). bs ++ drop at out) f ∙ ap (λ (bs : List ℕ). symbols_bytes whole ++ bs) g.back,
      sym (length-take-le at out g.within) ∙ ap length f,
    )
