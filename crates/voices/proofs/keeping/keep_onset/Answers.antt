-- The onset of the event is written: the next one is to be derived.
use Rattle.std.proofs.Common.{◌≡◌, ℕ, ◌+◌, ◌/◌, ◌%◌, leb, List, get_or, take, sym, ap, ◌∙◌, subst, ap₂, arith}
use Rattle.score.specs.Music.{pick}
use Rattle.score.specs.Print.{key}
use Rattle.keys.specs.Held.{held_in, sign_needed, then_holding}
use Rattle.memory.specs.Moves.{rows_set}
use Rattle.memory.specs.Store.{limit_in, places_from, alterations_from, lengths_from, counts_from, bars_from}
use Rattle.rows.specs.declared.Row.{Row}
use Rattle.voices.specs.declared.holding.Holding.{Holding}
use Rattle.voices.specs.Ahead.{Ahead}
use Rattle.voices.specs.Holding.{holds_in}
use Rattle.voices.specs.Rows.{row_in}
use Rattle.voices.proofs.Altered.{length_holds, next_holds, up_to_later}
use Rattle.voices.proofs.Ahead.{in_limit, small_words, low_bar, low_tick, positive, then, same_header, then_ahead}
use Rattle.voices.proofs.keeping.keep_onset.Goals as goal

module _ (row : Row) (w : List ℕ) (at : ℕ) (e : row ≡ row_in w at) where
  place_is : row.place ≡ get_or w (places_from w + at) 0
  place_is = ap (λ (r : Row). r.place) e

  alteration_is : row.alteration ≡ get_or w (alterations_from w + at) 0
  alteration_is = ap (λ (r : Row). r.alteration) e

  long_is : row.length ≡ get_or w (lengths_from w + at) 0
  long_is = ap (λ (r : Row). r.length) e

pub row_at-row-requires : goal.row_at-row-requires
row_at-row-requires c = record {
  regions = c.requires.regions;
  size = c.requires.state.3.size;
  within = in_limit _ _ _ _ _ _ _ c.requires.state.3 c.requires.state.2 (length_holds c.args.holding.now c.args.bar);
}

pub sign_in-sign-requires : goal.sign_in-sign-requires
sign_in-sign-requires c =
    let row = length_holds c.args.holding.now c.args.bar in
    let s = small_words _ _ _ _ _ _ _ c.requires.state.3 c.requires.state.2 row in
    record {
      place = omega (arith, place_is _ c.args.words.now c.args.at c.row_at-row.ensures, s.0);
      alteration = omega (arith, alteration_is _ c.args.words.now c.args.at c.row_at-row.ensures, s.1);
    }

pub write_onset-requires : goal.write_onset-requires
write_onset-requires c = record {
  regions = c.requires.regions;
  size = c.requires.state.3.size;
  within = in_limit _ _ _ _ _ _ _ c.requires.state.3 c.requires.state.2 (length_holds c.args.holding.now c.args.bar);
}

pub returns : goal.returns
returns c =
    let w : List ℕ = c.args.words.now in
    let hs : List ℕ = holds_in c.args.holding.now c.args.bar in
    let at : ℕ = c.args.at in
    let k : ℕ = get_or w 0 0 in
    let b : ℕ = get_or w 1 0 in
    let p : ℕ = get_or w (places_from w + at) 0 in
    let a : ℕ = get_or w (alterations_from w + at) 0 in
    let bar : ℕ = c.args.bar in
    let tick : ℕ = c.args.tick in
    let r : ℕ = c.row_at-row.result.length in
    let h : Holding = c.sign_in-sign.new.self in
    let row = length_holds c.args.holding.now c.args.bar in
    let pe = place_is _ w at c.row_at-row.ensures in
    let ae = alteration_is _ w at c.row_at-row.ensures in
    let le = long_is _ w at c.row_at-row.ensures in
    let u = c.sign_in-sign.ensures.up_to k c.requires.up_to in
    let lt = c.requires.state.2 in
    let t = c.requires.state.3 in
    let pos = positive _ _ _ _ _ _ _ t lt row in
    let written : c.write_onset.new.words ≡ then w _ hs at _ bar tick t lt row =
    c.write_onset.ensures ∙ ap (rows_set w (bars_from w) (limit_in w) at bar tick) (c.sign_in-sign.ensures.sign ∙ ap₂ (sign_needed hs) pe ae) in
    let holds : then_holding hs p a ≡ holds_in h bar = sym (c.sign_in-sign.ensures.holds ∙ ap₂ (then_holding hs) pe ae) in
    record {
      next = λ to whole lt t.
          let Next : List ℕ → ℕ → List ℕ → Type 0 = λ x l hs. Ahead x whole (at + 1) to (bar + (tick + l) / b) ((tick + l) % b) (pick (leb b (tick + l)) (key k) (held_in k hs)) in
          let n1 : Next c.write_onset.new.words (get_or w (lengths_from w + at) 0) (then_holding hs p a) = subst (λ x. Next x (get_or w (lengths_from w + at) 0) (then_holding hs p a)) (sym written) (then_ahead w whole hs at to bar tick t lt row) in
          let n2 : Next c.write_onset.new.words r (holds_in h bar) = subst (λ z. Next c.write_onset.new.words r z) holds (subst (λ l. Next c.write_onset.new.words l (then_holding hs p a)) (sym le) n1) in
          subst (λ g. Ahead c.write_onset.new.words whole (at + 1) to (bar + (tick + r) / b) ((tick + r) % b) g) (next_holds k h bar (tick + r) b u pos (omega (arith, le, (small_words _ _ _ _ _ _ _ t lt row).2, low_bar _ _ _ _ _ _ _ t lt row, low_tick _ _ _ _ _ _ _ t lt row))) n2;
      up_to = up_to_later k h bar (bar + (tick + r) / b) u (omega arith);
      header = ap (take counts_from) written ∙ same_header w _ hs at _ bar tick t lt row;
      small = omega (arith, le, (small_words _ _ _ _ _ _ _ t lt row).2, low_bar _ _ _ _ _ _ _ t lt row, low_tick _ _ _ _ _ _ _ t lt row);
    }
