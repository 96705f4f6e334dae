-- One step along a voice: over a silence, or a note that is heard. Assumes nothing.
use Rattle.std.proofs.Common.{◌≡◌, ℕ, suc, ◌+◌, ◌<◌, ◌≤◌, take, drop, true, false, List, [], ◌∷◌, map, length, Option, None, Some, sym, ap, ◌∙◌, refl, arith}
use Rattle.std.proofs.lemmas.Bool.{and_parts}
use Rattle.std.proofs.lemmas.List.{length-drop, length-take-le}
use Rattle.std.specs.Prelude.{◌==◌}
use Rattle.score.specs.Music.{places, alterations, length_end, Event, Heard, heard, total, fine, all_fine}
use Rattle.score.specs.declared.Sound.{Sound}
use Rattle.score.specs.Meaning.{sound_meant}
use Rattle.score.specs.Calls.{voice}
use Rattle.memory.specs.Store.{places_from, alterations_from, lengths_from, score_of}
use Rattle.memory.specs.Words.{Holds, Spans}
use Rattle.memory.proofs.Scores.{fines_voice, short_voice}
use Rattle.score.proofs.Picks.{pick_true, pick_false}
use Rattle.laws.proofs.Rows.{lasts_words}
use Rattle.rows.specs.declared.Row.{Row}
use Rattle.rows.specs.declared.Rows.{Rows}
use Rattle.rows.specs.Rows.{event_in, voice_in, zipped}
use Rattle.rows.specs.Rows.{Steps as Stepped}
use Rattle.rows.proofs.Zipped.{voice_zipped}
use Rattle.sounds.specs.Rows.{heard_at}
use Rattle.sounds.specs.Single.{rows_yet, events_yet, heard_yet, Playable, Steps}
use Rattle.sounds.specs.declared.single.Notes.{Notes}
use Rattle.sounds.proofs.Parts.{note_fields}

-- the events of rows from which one row came
comes_first : (n m : Rows) (r : Row) → zipped n.places.now n.alterations.now n.lengths.now ≡ r ∷ zipped m.places.now m.alterations.now m.lengths.now → voice_in n ≡ event_in r ∷ voice_in m
comes_first n m r e =
    voice_zipped n.places.now n.alterations.now n.lengths.now ∙ ap (map event_in) e
    ∙ ap (λ (es : List Event). event_in r ∷ es) (sym (voice_zipped m.places.now m.alterations.now m.lengths.now))

pub heard_silent : (r : Row) (es : List Event) (t : ℕ) → (r.place == places) ≡ true → heard (event_in r ∷ es) t ≡ heard es (t + r.length)
unfolding heard
heard_silent r es t h = rw (pick_true (r.place == places) _ _ h) refl

pub heard_note : (r : Row) (es : List Event) (t : ℕ) → (r.place == places) ≡ false → heard (event_in r ∷ es) t ≡ heard_at r t ∷ heard es (t + r.length)
unfolding heard
heard_note r es t h = rw (pick_false (r.place == places) _ _ h) refl

-- the words of a note that can be written are in range
pub note_in : (r : Row) → fine (event_in r) ≡ true → (r.place == places) ≡ false → (r.place < places) × (r.alteration < alterations) × (r.length < length_end)
note_in r f h = note_fields _ _ _ (ap fine (sym (pick_false (r.place == places) _ _ h)) ∙ f)

-- the notes that are left behind a row
abbrev pub After : Notes → Row → Rows → Notes
After n r rest = record { voice = n.voice; rows = rest; tick = n.tick + r.length }

-- what a row that came says of the notes before it and behind it
pub record Came (n : Notes) (r : Row) (rest : Rows) : Type 0 where
  pub playable : Playable (After n r rest)
  pub fewer : length (rows_yet n) ≡ suc (length (rows_yet (After n r rest)))
  pub over_silence : (r.place == places) ≡ true → heard_yet (After n r rest) ≡ heard_yet n
  pub fields : (r.place == places) ≡ false → (r.place < places) × (r.alteration < alterations) × (r.length < length_end)
  pub gives : (x : Sound) → (r.place == places) ≡ false → sound_meant x ≡ (n.voice, heard_at r n.tick) → Steps n (Some x) (After n r rest)

pub came : {n : Notes} {r : Row} {rest : Rows} → Playable n → Stepped n.rows (Some r) rest → Came n r rest
unfolding total all_fine
came {n} {r} {rest} p s =
    let comes = s.0 in
    let left : List Event = voice_in rest in
    let first : events_yet n ≡ event_in r ∷ left = comes_first n.rows rest r comes in
    let all = and_parts (fine (event_in r)) (all_fine left) (sym (ap all_fine first) ∙ p.fines) in
    let t = ap total first in
    let l = lasts_words r.place r.alteration r.length in
    let note_first = λ (h : (r.place == places) ≡ false). ap (λ (es : List Event). heard es n.tick) first ∙ heard_note r left n.tick h in
    record {
      playable = record { even = s.1 p.even; fines = all.1; short = omega (arith, t, l, p.short) };
      fewer = ap length comes;
      over_silence = λ h. sym (ap (λ (es : List Event). heard es n.tick) first ∙ heard_silent r left n.tick h);
      fields = note_in r all.0;
      gives = λ x h e. record {
        same_voice = refl;
        gives = (ap (λ (y : ℕ × Heard). y.0) e, note_first h ∙ ap (λ (y : ℕ × Heard). y.1 ∷ heard_yet (After n r rest)) (sym e));
      };
    }

-- and where none came
pub none_left : (n : Notes) → rows_yet n ≡ [] → heard_yet n ≡ []
unfolding heard
none_left n e = rw (voice_zipped n.rows.places.now n.rows.alterations.now n.rows.lengths.now, e) refl

-- after silences it is one step still
pub silences_passed : {n : Notes} (a m : Notes) (o : Option Sound) → n.voice ≡ a.voice → heard_yet n ≡ heard_yet a → Steps n o m → Steps a o m
silences_passed a m None v h s = record { same_voice = s.same_voice ∙ v; gives = (sym h ∙ s.gives.0, s.gives.1) }
silences_passed a m (Some x) v h s = record { same_voice = s.same_voice ∙ v; gives = (s.gives.0 ∙ v, sym h ∙ s.gives.1) }

-- the notes of a voice of words that hold a score, before the first
pub from_words :
    {w : List ℕ} {v begin count : ℕ} (n : Notes) → Holds w → Spans w v begin count
    → n.rows.places.now ≡ take count (drop (places_from w + begin) w) → n.rows.alterations.now ≡ take count (drop (alterations_from w + begin) w)
    → n.rows.lengths.now ≡ take count (drop (lengths_from w + begin) w) → n.tick ≡ 0
    → Playable n × (heard_yet n ≡ heard (voice (score_of w) v) 0)
from_words {w} {v} {begin} {count} n h s x y u t =
    let z = h.proper.size in
    let within = s.within in
    let e : events_yet n ≡ voice (score_of w) v = rw (x, y, u) s.events in
    let lx = ap length x ∙ many (places_from w) (omega arith) in
    let ly = ap length y ∙ many (alterations_from w) (omega arith) in
    let lu = ap length u ∙ many (lengths_from w) (omega arith) in (
      record {
        even = (ly ∙ sym lx, lu ∙ sym lx);
        fines = ap all_fine e ∙ fines_voice (score_of w) v h.proper.kept.fines;
        short = omega (arith, t, ap total e, short_voice (score_of w) v h.proper.kept.short);
      },
      ap (λ (es : List Event). heard es n.tick) e ∙ ap (heard (voice (score_of w) v)) t,
    )
  where
    many : (base : ℕ) → base + begin + count ≤ length w → length (take count (drop (base + begin) w)) ≡ count
    many base l = length-take-le count (drop (base + begin) w) (simp length-drop (omega arith))
