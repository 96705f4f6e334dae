-- One number more is written behind those before.
use Rattle.std.proofs.Common.{◌≡◌, ℕ, ◌+◌, ◌-◌, ◌*◌, ◌/◌, ◌%◌, ◌^◌, ◌<◌, ◌∷◌, ◌++◌, List, [], length, take, get_or, drop, length-take, add-one, refl, ap, ◌∙◌, sym, arith}
use Rattle.std.proofs.Math.Seq.{take-suc}
use borrow.Rule.Slice.PartMut.{put_mid}
use Rattle.wire.specs.Bytes.{four, each}
use Rattle.wire.proofs.Rows.{each-++, length_each}
use Rattle.wire.proofs.Written.{put_next}
use Rattle.wire.proofs.write_fields.Goals as goal

-- a number's bytes, as the library has them
bytes_of : (n : ℕ) (ws : List ℕ) → n < 2 ^ 32 → ws ≡ n % 256 ∷ (n / 256 % 256 ∷ (n / 65536 % 256 ∷ (n / 16777216 % 256 ∷ []))) → ws ≡ four n
bytes_of n ws h e = let last : n / 16777216 % 256 ≡ n / 16777216 = omega arith in e ∙ ap (λ d. n % 256 ∷ (n / 256 % 256 ∷ (n / 65536 % 256 ∷ (d ∷ [])))) last

-- one number more behind the kind and those before
one_more :
    (out was vs ws last : List ℕ) (k i at n : ℕ) → i < length vs → at ≡ 4 * i + 1 → out ≡ (k ∷ each four (take i vs)) ++ drop at was
    → ws ≡ four (get_or vs i 0) → last ≡ ws ++ drop n (take (length out - at) (drop at out))
    → put_mid at (length out - at) out last ≡ (k ∷ each four (take (i + 1) vs)) ++ drop (at + n) was
unfolding each
one_more out was vs ws last k i at n h a o p e =
    let long : length (take i vs) ≡ i = omega (arith, length-take {A = ℕ} i vs) in
    let wide : length (each four (take i vs)) ≡ 4 * i = length_each four 4 (λ _. refl) (take i vs) ∙ ap (λ l. 4 * l) long in
    let more : each four (take (i + 1) vs) ≡ each four (take i vs) ++ ws =
    ap (each four) (rw add-one (take-suc vs i 0 h)) ∙ each-++ four (take i vs) (get_or vs i 0 ∷ []) ∙ ap (λ r. each four (take i vs) ++ r) (sym p) in
    put_next out was (k ∷ each four (take i vs)) ws last at n o (omega arith) e
    ∙ ap (λ r. (k ∷ r) ++ drop (at + n) was) (sym more)

pub loop-field-init : goal.loop-field-init
unfolding each
loop-field-init c = record { wrote = c.write_row-at.ensures.wrote; many = c.write_row-at.ensures.many }

pub loop-field-preserved : goal.loop-field-preserved
loop-field-preserved c =
    record {
      wrote = one_more c.loop-field.out c.args.out.now c.args.fields.now c.to_le_bytes.result _ c.args.kind c.loop-field.field-index c.loop-field.at _ c.loop-field-test.true c.loop-field.invariant.many c.loop-field.invariant.wrote
          (bytes_of _ _ (c.type_inv.fields c.loop-field.field-index).fits c.to_le_bytes.ensures) c.write_row-at-in-loop-field.ensures.wrote;
      many = omega (arith, c.write_row-at-in-loop-field.ensures.many, ap length c.to_le_bytes.ensures);
    }
