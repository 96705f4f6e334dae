-- What the checks say of a voice that passes them. Assumes nothing.
use Rattle.std.proofs.Common.{◌≡◌, ℕ, ◌+◌, ◌*◌, ◌/◌, ◌%◌, ◌^◌, ◌<◌, ◌≤◌, Bool, true, false, ◌&&◌, ltb, leb, length, Ok, Err, sym, refl, subst, mul-le-mul_left, arith}
use Rattle.std.proofs.lemmas.Bool.{and_parts, leb-true, ltb-true, eqb-true}
use Rattle.score.specs.declared.Refusal.{Refusal}
use Rattle.score.specs.declared.Refusal.TheVariants.{BadOpening, OutOfRange, TooLittleMemory, Full}
use Rattle.score.specs.Meaning.{good_layout}
use Rattle.score.specs.Calls.{ticks_end}
use Rattle.score.specs.Music.{pick, total}
use Rattle.score.specs.declared.Layout.{Layout}
use Rattle.rows.specs.declared.Rows.{Rows}
use Rattle.engraving.specs.Voice.{Ready}
use Rattle.rows.specs.Rows.{voice_in}
use Rattle.readback.specs.Checked.{writable, measured, bars_for, page_for, in_bars, bars_or_refusal}

pub record Good (y : Layout) : Type 0 where
  pub in_key : y.key ≤ 14
  pub some : 0 < y.bar
  pub most : y.bar ≤ 768
  pub thirds : y.bar % 3 ≡ 0

pub good : (y : Layout) → good_layout y ≡ true → Good y
good y h =
    let a = and_parts _ _ h in
    let b = and_parts _ _ a.1 in
    let c = and_parts _ _ b.1 in
    record { in_key = leb-true _ _ a.0; some = ltb-true _ _ b.0; most = leb-true _ _ c.0; thirds = eqb-true _ _ c.1 }

-- the bytes of bars are a number of 64 bits
pub page_small : (b n : ℕ) → b ≤ 768 → n ≤ 4294967296 → page_for b n < 2 ^ 64
page_small b n h l = let m : n * (b / 3 + 1) ≤ n * 257 = mul-le-mul_left n (let k : b / 3 + 1 ≤ 257 = omega arith in k) in omega arith

-- of a voice that is so many bars long
pub record Checked (r : Rows) (y : Layout) (page signs notes n : ℕ) : Type 0 where
  pub fits : Good y
  pub ready : Ready r y
  pub short : total (voice_in r) < ticks_end
  pub bars : n ≡ bars_for y.bar (total (voice_in r))
  pub room : page_for y.bar n ≤ page
  pub row : length r.lengths.now ≤ signs
  pub many : length r.lengths.now ≤ notes

ready_of : (r : Rows) (y : Layout) → Good y → writable r ≡ true → Ready r y
ready_of r y g w =
    let a = and_parts _ _ w in
    let b = and_parts _ _ a.0 in
    record { same_places = eqb-true _ _ b.0; same_alterations = eqb-true _ _ b.1; fine = a.1; some = g.some; thirds = g.thirds }

no_refusal : {A : Type 0} (n : ℕ) (e : Refusal) → Ok n ≡ Err e → A
no_refusal n e h = let z : ◌≡◌ {A = ℕ} 0 1 = cc in absurd (omega arith)

pub checked : (r : Rows) (y : Layout) (page signs notes n : ℕ) → Ok n ≡ bars_or_refusal r y page signs notes → Checked r y page signs notes n
checked r y page signs notes n e = by_layout (good_layout y) refl e
  where
    by_room : Good y → writable r ≡ true → ltb (total (voice_in r)) ticks_end ≡ true → (c : Bool) → (leb (page_for y.bar (bars_for y.bar (total (voice_in r)))) page && (leb (length r.lengths.now) signs && leb (length r.lengths.now) notes)) ≡ c →
        Ok n ≡ pick c (Ok (bars_for y.bar (total (voice_in r)))) (Err TooLittleMemory) → Checked r y page signs notes n
    by_room g w l true t e =
        let m : n ≡ bars_for y.bar (total (voice_in r)) = cc in
        let a = and_parts _ _ t in
        let d = and_parts _ _ a.1 in
        let p = leb-true _ _ a.0 in
        record {
          fits = g;
          ready = ready_of r y g w;
          short = ltb-true _ _ l;
          bars = m;
          room = subst (λ (i : ℕ). page_for y.bar i ≤ page) (sym m) p;
          row = leb-true _ _ d.0;
          many = leb-true _ _ d.1;
        }
    by_room g w l false t e = no_refusal n TooLittleMemory e

    by_length : Good y → writable r ≡ true → (c : Bool) → ltb (total (voice_in r)) ticks_end ≡ c →
        Ok n ≡ in_bars y (length r.lengths.now) page signs notes (pick c (Ok (total (voice_in r))) (Err Full)) → Checked r y page signs notes n
    by_length g w true l e = by_room g w l _ refl e
    by_length g w false l e = no_refusal n Full e

    by_events : Good y → (c : Bool) → writable r ≡ c →
        Ok n ≡ in_bars y (length r.lengths.now) page signs notes (pick c (pick (ltb (total (voice_in r)) ticks_end) (Ok (total (voice_in r))) (Err Full)) (Err OutOfRange)) → Checked r y page signs notes n
    by_events g true w e = by_length g w _ refl e
    by_events g false w e = no_refusal n OutOfRange e

    by_layout : (c : Bool) → good_layout y ≡ c → Ok n ≡ pick c (in_bars y (length r.lengths.now) page signs notes (measured r)) (Err BadOpening) → Checked r y page signs notes n
    by_layout true g e = by_events (good y g) _ refl e
    by_layout false g e = no_refusal n BadOpening e
