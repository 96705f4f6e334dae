-- The key holds in one octave more, and at last in all of them.
use Rattle.std.proofs.Common.{◌≡◌, ℕ, ◌+◌, ◌-◌, ◌*◌, ◌<◌, ◌≤◌, ◌⊎◌, List, ◌++◌, length, get_or, take, drop, ap, ◌∙◌, inl, inr, arith}
use borrow.Rule.Slice.PartMut.{put_mid, same_len_mid}
use Rattle.std.proofs.lemmas.List.{length-take, length-drop, get_or-take, get_or_append_left, get_or-append_right}
use Rattle.std.proofs.lemmas.List.FromFn.{fill_by_all}
use Rattle.std.proofs.lemmas.Bool.{cases_lt}
use Rattle.score.specs.Music.{places}
use Rattle.score.specs.Print.{key}
use Rattle.keys.specs.Held.{key_row}
use Rattle.keys.proofs.Order.{key_octave}
use Rattle.keys.proofs.begin_bar.Goals as goal

pub loop-octave-preserved : goal.loop-octave-preserved
loop-octave-preserved c = ((λ q lt. go q lt (cases_lt q n)), same_len_mid n k ws ys c.copy_from_slice.ensures.len ∙ c.loop-octave.invariant.1)
  where
    n : ℕ
    n = 7 * c.loop-octave.octave

    k : ℕ
    k = n + 7 - n

    ws : List ℕ
    ws = c.loop-octave.holds

    -- the octave's seven places as they are written
    ys : List ℕ
    ys = c.copy_from_slice.new.self

    seven : length ys ≡ 7
    seven = omega (arith, c.copy_from_slice.ensures.len, length-take k (drop n ws), length-drop n ws, c.loop-octave.invariant.1)

    before : length (take n ws) ≡ n
    before = omega (arith, length-take n ws, c.loop-octave.invariant.1)

    go : (q : ℕ) → q < 7 * (c.loop-octave.octave + 1) → (q < n) ⊎ (n ≤ q) → get_or (put_mid n k ws ys) q 0 ≡ key c.args.signature q
    go q lt (inl l) = get_or_append_left (take n ws) (ys ++ drop k (drop n ws)) 0 q (omega (arith, before)) ∙ (get_or-take n ws q 0 l ∙ c.loop-octave.invariant.0 q l)
    go q lt (inr l) =
        let step : q - n < 7 = omega (arith, lt, l) in
        let here : n + (q - n) ≡ q = omega (arith, l) in
        get_or-append_right (take n ws) (ys ++ drop k (drop n ws)) n q 0 before l
        ∙ (get_or_append_left ys (drop k (drop n ws)) 0 (q - n) (omega (arith, seven, step))
        ∙ (ap (λ xs. get_or xs (q - n) 0) c.copy_from_slice.ensures.after
        ∙ (c.alter_steps-steps.ensures (q - n) step ∙ (key_octave c.args.signature c.loop-octave.octave (q - n) step ∙ ap (key c.args.signature) here))))

pub returns : goal.returns
unfolding key_row
returns c = fill_by_all (key c.args.signature) c.loop-octave.holds places 0 c.loop-octave.invariant.1 (λ k h. c.loop-octave.invariant.0 k (omega arith))
