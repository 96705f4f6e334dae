-- The events of a voice, one after the other: whether each can be written, and how long they are. Assumes nothing.
use Rattle.std.proofs.Common.{◌≡◌, ℕ, ◌+◌, ◌<◌, ◌≤◌, Bool, true, false, ◌&&◌, List, [], ◌∷◌, map, length, Ok, Err, sym, ap, ◌∙◌, arith}
use Rattle.std.proofs.lemmas.Bool.{eq-eqb, lt-ltb, le-ltb, and_right, and_from}
use Rattle.score.specs.declared.Refusal.TheVariants.{OutOfRange, Full}
use Rattle.score.specs.Calls.{ticks_end}
use Rattle.score.specs.Music.{Event, fine, all_fine, total}
use Rattle.score.proofs.Picks.{pick_true, pick_false}
use Rattle.laws.proofs.Rows.{lasts_words}
use Rattle.rows.specs.declared.Row.{Row}
use Rattle.rows.specs.declared.Rows.{Rows}
use Rattle.rows.specs.Rows.{event_in, voice_in, zipped}
use Rattle.rows.proofs.Zipped.{voice_zipped}
use Rattle.readback.specs.Checked.{writable, measured}

abbrev pub rows_in : Rows → List Row
rows_in r = zipped r.places.now r.alterations.now r.lengths.now

-- one event, and those behind it
pub next_event : (r r' : Rows) (w : Row) → rows_in r ≡ w ∷ rows_in r' → voice_in r ≡ event_in w ∷ voice_in r'
next_event r r' w e = voice_zipped _ _ _ ∙ ap (map event_in) e ∙ ap (λ (es : List Event). event_in w ∷ es) (sym (voice_zipped _ _ _))

-- it is fine, or is not; and the ticks up to it
pub fine_more : (r r' : Rows) (w : Row) → rows_in r ≡ w ∷ rows_in r' → true ≡ fine (event_in w) → all_fine (voice_in r') ≡ all_fine (voice_in r)
unfolding all_fine
fine_more r r' w e g = sym (ap all_fine (next_event r r' w e) ∙ ap (λ (t : Bool). t && all_fine (voice_in r')) (sym g))

pub fine_not : (r r' : Rows) (w : Row) → rows_in r ≡ w ∷ rows_in r' → false ≡ fine (event_in w) → all_fine (voice_in r) ≡ false
unfolding all_fine
fine_not r r' w e g = ap all_fine (next_event r r' w e) ∙ ap (λ (t : Bool). t && all_fine (voice_in r')) (sym g)

pub total_more : (r r' : Rows) (w : Row) → rows_in r ≡ w ∷ rows_in r' → total (voice_in r) ≡ w.length + total (voice_in r')
unfolding total
total_more r r' w e = ap total (next_event r r' w e) ∙ ap (λ d. d + total (voice_in r')) (lasts_words w.place w.alteration w.length)

pub none_left : (r : Rows) → rows_in r ≡ [] → (all_fine (voice_in r) ≡ true) × (total (voice_in r) ≡ 0)
unfolding all_fine total
none_left r e = let v : voice_in r ≡ [] = voice_zipped _ _ _ ∙ ap (map event_in) e in (ap all_fine v, ap total v)

-- so a voice is measured
pub not_writable : (r : Rows) → all_fine (voice_in r) ≡ false → Err OutOfRange ≡ measured r
not_writable r f = sym (pick_false _ _ _ (and_right _ _ f))

is_writable : (r : Rows) → length r.places.now ≡ length r.lengths.now → length r.alterations.now ≡ length r.lengths.now → all_fine (voice_in r) ≡ true → writable r ≡ true
is_writable r e f g = and_from _ _ (and_from _ _ (eq-eqb _ _ e) (eq-eqb _ _ f)) g

pub too_long : (r : Rows) → length r.places.now ≡ length r.lengths.now → length r.alterations.now ≡ length r.lengths.now → all_fine (voice_in r) ≡ true → ticks_end ≤ total (voice_in r) → Err Full ≡ measured r
too_long r e f g h = sym (pick_true _ _ _ (is_writable r e f g) ∙ pick_false _ _ _ (le-ltb (total (voice_in r)) ticks_end h))

pub is_measured : (r : Rows) (t : ℕ) → length r.places.now ≡ length r.lengths.now → length r.alterations.now ≡ length r.lengths.now → all_fine (voice_in r) ≡ true → t ≡ total (voice_in r) → t < ticks_end → Ok t ≡ measured r
is_measured r t e f g w h =
    let l : total (voice_in r) < ticks_end = omega arith in
    ap Ok w ∙ sym (pick_true _ _ _ (is_writable r e f g) ∙ pick_true _ _ _ (lt-ltb (total (voice_in r)) ticks_end l))
