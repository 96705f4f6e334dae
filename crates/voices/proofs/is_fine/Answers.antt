-- A note whose words are a silence's cannot be written, and else an event can if its words can.
use Rattle.std.proofs.Common.{◌≡◌, ℕ, Bool, true, false, not, ◌&&◌, eqb, refl, sym, ap, ◌∙◌, arith}
use Rattle.std.proofs.lemmas.Bool.{eqb-true, and_right}
use Rattle.score.specs.Music.{Event, note, places, lasts, fine}
use Rattle.score.specs.Meaning.{event_meant}
use Rattle.score.proofs.Picks.{pick_false}
use Rattle.laws.specs.Rows.{event_of}
use Rattle.memory.proofs.Scores.{unfine_place}
use Rattle.rows.specs.declared.Row.{Row}
use Rattle.rows.specs.Rows.{row_of, event_in}
use Rattle.voices.proofs.is_fine.Goals as goal

and_true : (b : Bool) → (b && true) ≡ b
and_true true = refl
and_true false = refl

fine_by_words : (p a d : ℕ) (silent : Bool) → silent ≡ eqb p places → fine (note p a d) ≡ (fine (event_of p a d) && not silent)
fine_by_words p a d true e = unfine_place p a d (omega (arith, eqb-true p places (sym e))) ∙ sym (and_right _ _ refl)
fine_by_words p a d false e = sym (and_true _ ∙ ap fine (pick_false _ _ _ (sym e)))

-- of a row that a note has
by_row : (E : Event) (p a d : ℕ) (r : Row) (silent is : Bool) → E ≡ note p a d → r ≡ row_of E → silent ≡ eqb r.place places → is ≡ fine (event_in r) → (is && not silent) ≡ fine E
unfolding lasts
by_row E p a d r silent is e g s i =
    let at : r.place ≡ p = ap (λ x. x.place) (g ∙ ap row_of e) in
    let words : event_in r ≡ event_of p a d = ap event_in (g ∙ ap row_of e) in
    sym (ap fine e ∙ (fine_by_words p a d silent (s ∙ ap (λ x. eqb x places) at) ∙ ap (λ b. b && not silent) (sym (i ∙ ap fine words))))

pub returns-then-is_fine : goal.returns-then-is_fine
returns-then-is_fine c =
    by_row (event_meant c.args.event) c.in-Note.place c.in-Note.alteration c.in-Note.length c.from-row.result _ true (ap event_meant c.in-Note.is) c.from-row.ensures c.is_silent.ensures
    (sym c.if-is_fine.true ∙ c.is_fine.ensures)

pub returns-else-is_fine : goal.returns-else-is_fine
returns-else-is_fine c =
    c.if-is_fine.false
    ∙ by_row (event_meant c.args.event) c.in-Note.place c.in-Note.alteration c.in-Note.length c.from-row.result _ false (ap event_meant c.in-Note.is) c.from-row.ensures refl
    (sym c.if-is_fine.false ∙ c.is_fine.ensures)

pub returns-in-Silence : goal.returns-in-Silence
unfolding lasts
returns-in-Silence c =
    let row = c.from-row.ensures ∙ ap (λ e. row_of (event_meant e)) c.in-Silence.is in
    c.is_fine-in-Silence.ensures ∙ (ap (λ r. fine (event_in r)) row ∙ sym (ap (λ e. fine (event_meant e)) c.in-Silence.is))
