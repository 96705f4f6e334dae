-- From where printing begins, with the signs of the voice, what is left is what is asked for. Assumes nothing.
use Rattle.std.proofs.Common.{◌≡◌, ℕ, ◌+◌, ◌-◌, ◌*◌, ◌%◌, ◌<◌, ◌≤◌, true, List, ◌++◌, length, get_or, take, drop, sym, refl, ap, ◌∙◌, subst, ap₂, arith}
use Rattle.std.proofs.lemmas.List.{take_at}
use Rattle.score.specs.declared.Layout.{Layout}
use Rattle.score.specs.Music.{alterations, Event, total, all_fine}
use Rattle.score.specs.Print.{Symbol, key, from_bar, so_many}
use Rattle.laws.specs.Onsets.{signs_of}
use Rattle.laws.specs.Owed.{rest_from}
use Rattle.laws.proofs.Events.{fine_split, total_three}
use Rattle.laws.proofs.Onsets.{length_bars, length_ticks, length_signs, signs_small, begins_at, begins_before, bars_rise}
use Rattle.laws.proofs.Rows.{length_voice}
use Rattle.laws.proofs.Signed.{printed_signed}
use Rattle.laws.proofs.Walk.{from_bar_walks, rest_passed}
use Rattle.rows.specs.declared.Onsets.{Onsets}
use Rattle.rows.specs.declared.Rows.{Rows}
use Rattle.rows.specs.Rows.{voice_in}
use Rattle.wire.specs.Bytes.{symbols_bytes}
use Rattle.engraving.specs.Kept.{Keeps, NeverFalls, Before, Begins}
use Rattle.engraving.specs.Shown.{asked_for, left_of}
use Rattle.engraving.specs.Voice.{Ready, SignsFit}
use Rattle.engraving.proofs.Turns.{times_three}

-- the signs of a voice fit it
pub signs_fit : (r : Rows) (y : Layout) (ss : List ℕ) → Ready r y → ss ≡ signs_of y.key y.bar (voice_in r) → SignsFit r ss
signs_fit r y ss g e = record {
  same_signs = ap length e ∙ length_signs y.key y.bar (voice_in r) ∙ length_voice r.places.now r.alterations.now r.lengths.now g.same_places g.same_alterations;
  small = λ i. subst (λ (ws : List ℕ). get_or ws i 0 ≤ alterations) (sym e) (signs_small y.key y.bar 0 0 (key y.key) (voice_in r) i g.fine);
}

-- as they lie over the front of a row that is longer
pub signs_front : (r : Rows) (y : Layout) (ws was : List ℕ) → Ready r y → ws ≡ signs_of y.key y.bar (voice_in r) ++ drop (length r.lengths.now) was → take (length r.lengths.now - 0) ws ≡ signs_of y.key y.bar (voice_in r)
signs_front r y ws was g e =
    let z : length r.lengths.now - 0 ≡ length r.lengths.now = omega arith in
    let l = signs_fit r y (signs_of y.key y.bar (voice_in r)) g refl in
    ap₂ (λ (i : ℕ) (xs : List ℕ). take i xs) z e ∙ take_at (signs_of y.key y.bar (voice_in r)) (drop (length r.lengths.now) was) (length r.lengths.now) l.same_signs

-- from the first event on
all_left : (k b : ℕ) (es : List Event) (ss : List ℕ) (from n : ℕ) → 0 < b → b % 3 ≡ 0 → all_fine es ≡ true → ss ≡ signs_of k b es → left_of b es ss 0 (from * b) n ≡ asked_for k b es from n
all_left k b es ss from n h b3 f e =
    ap (λ (ws : List ℕ). so_many (rest_from b (from * b) 0 es ws) n) e
    ∙ ap (λ (xs : List Symbol). so_many xs n) (sym (from_bar_walks b from es (signs_of k b es) h b3 f) ∙ ap (from_bar from) (sym (printed_signed k b es h f)))

-- and from one that begins before the first bar
part_left : (k b : ℕ) (es : List Event) (ss : List ℕ) (i from n : ℕ) → 0 < b → b % 3 ≡ 0 → all_fine es ≡ true → ss ≡ signs_of k b es → i ≤ length es → total (take i es) ≤ from * b →
    left_of b es ss i (from * b - total (take i es)) n ≡ asked_for k b es from n
part_left k b es ss i from n h b3 f e l m =
    ap (λ (xs : List Symbol). so_many xs n) (sym (rest_passed b (from * b) 0 i es ss l m)) ∙ all_left k b es ss from n h b3 f e

-- printing begins rightly with the first event
pub begins_first : (r : Rows) (y : Layout) (ss : List ℕ) (m : ℕ) → Ready r y → ss ≡ signs_of y.key y.bar (voice_in r) → Begins r ss y m (record { event = 0; skip = m * y.bar })
begins_first r y ss m g e = record {
  asked = λ n. all_left y.key y.bar (voice_in r) ss m n g.some g.thirds g.fine e;
  thirds = times_three m y.bar g.thirds;
}

-- what was written, by what was asked for
pub wrote_so : (xs ys : List Symbol) (out was : List ℕ) (r : ℕ) → xs ≡ ys → out ≡ symbols_bytes xs ++ drop r was → r ≡ length (symbols_bytes xs) → (out ≡ symbols_bytes ys ++ drop r was) × (r ≡ length (symbols_bytes ys))
wrote_so xs ys out was r e w m = (w ∙ ap (λ (zs : List Symbol). symbols_bytes zs ++ drop r was) e, m ∙ ap (λ (zs : List Symbol). length (symbols_bytes zs)) e)

-- of a voice that is kept, and of which n events begin before bar m
pub record Found (r : Rows) (x : Onsets) (y : Layout) (m n : ℕ) : Type 0 where
  pub ready : Ready r y
  pub keeps : Keeps x y (voice_in r)
  pub before : Before x.bars.now m n

-- the bars never fall
pub kept_rise : (x : Onsets) (y : Layout) (es : List Event) → 0 < y.bar → Keeps x y es → NeverFalls x.bars.now
kept_rise x y es h k = subst NeverFalls (sym k.kept_bars) (λ i j l m. bars_rise y.key y.bar es i j h l (subst (λ (n : ℕ). j < n) (length_bars y.key y.bar es) m))

pub kept_long : (x : Onsets) (y : Layout) (es : List Event) → Keeps x y es → (length x.bars.now ≡ length es) × (length x.ticks.now ≡ length es)
kept_long x y es k = (ap length k.kept_bars ∙ length_bars y.key y.bar es, ap length k.kept_ticks ∙ length_ticks y.key y.bar es)

-- each of those events begins where it is kept
pub found_at : {r : Rows} {x : Onsets} {y : Layout} {m n : ℕ} → Found r x y m n → (i : ℕ) → i < n →
    (get_or x.bars.now i 0 * y.bar + get_or x.ticks.now i 0 ≡ total (take i (voice_in r))) × (total (take i (voice_in r)) < m * y.bar)
found_at {r} {x} {y} {m} {n} g i l =
    let k = g.keeps in
    let w = kept_long x y (voice_in r) k in
    let q : i < length (voice_in r) = omega (arith, w.0, g.before.within) in (
      ap₂ (λ (bs ts : List ℕ). get_or bs i 0 * y.bar + get_or ts i 0) k.kept_bars k.kept_ticks ∙ (begins_at y.key y.bar (voice_in r) i g.ready.some q).0,
      begins_before y.key y.bar (voice_in r) i m g.ready.some q (subst (λ (bs : List ℕ). get_or bs i 0 < m) k.kept_bars (g.before.less i l)),
    )

-- so printing begins rightly with each of them
pub begins_later : (r : Rows) (x : Onsets) (y : Layout) (m n i : ℕ) → Found r x y m n → i < n → Begins r x.signs.now y m (record { event = i; skip = m * y.bar - (get_or x.bars.now i 0 * y.bar + get_or x.ticks.now i 0) })
begins_later r x y m n i g l =
    let q = found_at g i l in
    let w = kept_long x y (voice_in r) g.keeps in
    let t = times_three m y.bar g.ready.thirds in
    let f = total_three (take i (voice_in r)) (fine_split i (voice_in r) g.ready.fine).0 in
    record {
      asked = λ count.
          ap (λ (t : ℕ). left_of y.bar (voice_in r) x.signs.now i (m * y.bar - t) count) q.0
          ∙ part_left y.key y.bar (voice_in r) x.signs.now i m count g.ready.some g.ready.thirds g.ready.fine g.keeps.kept_signs (omega (arith, w.0, g.before.within)) (omega (arith, q.1));
      thirds = ap (λ (t : ℕ). (m * y.bar - t) % 3) q.0 ∙ (omega (arith, t, f, q.1));
    }
