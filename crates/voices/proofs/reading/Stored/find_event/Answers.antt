-- An event is read from its words if the voice is there and has it.
use Rattle.std.proofs.Common.{◌≡◌, ℕ, ◌<◌, ◌≤◌, true, ◌&&◌, ◌||◌, ltb, eqb, List, length, get_or, Some, Result, Ok, Err, refl, sym, ap, ◌∙◌, arith}
use Rattle.std.proofs.lemmas.Bool.{lt-ltb, and_from}
use Rattle.std.specs.Option.{option_map}
use Rattle.std.specs.Result.{result_ok}
use Rattle.score.specs.declared.Event.{Event as EventType}
use Rattle.score.specs.Music.{silence, places, alterations, length_end}
use Rattle.score.specs.Calls.{voice}
use Rattle.score.specs.Meaning.{event_meant}
use Rattle.score.proofs.Picks.{pick_true}
use Rattle.memory.specs.Store.{score_of}
use Rattle.rows.specs.declared.Row.{Row}
use Rattle.rows.specs.Rows.{event_in, fits, IfFits}
use Rattle.voices.specs.Said.{event_at}
use Rattle.voices.specs.Rows.{row_in}
use Rattle.memory.proofs.Held.{place_within, words_small, event_there}
use Rattle.voices.proofs.reading.Stored.find_event.Goals as goal

-- numbers that an event can have fit their fields
small_fits : (r : Row) → r.place ≤ places → r.alteration < alterations → r.length < length_end → fits r ≡ true
small_fits r p a d = and_from _ _ (lt-ltb r.length length_end d) (either r.place r.alteration p a)
  where
    either : (p a : ℕ) → p ≤ places → a < alterations → (eqb p places || (ltb p 256 && ltb a 256)) ≡ true
    either p a lp la = rw (lt-ltb p 256 (omega arith), lt-ltb a 256 (omega arith)) (elim (eqb p places) as (λ b. (b || true) ≡ true) [ true ↦ refl | _ ↦ refl ])

-- and then the event is there
fitting : {E : Type 0} (r : Row) (o : Result EventType E) → IfFits r o → fits r ≡ true → option_map event_meant (result_ok o) ≡ Some (event_in r)
fitting r (Ok e) h f = ap Some h.1
fitting r (Err e) h f = absurd (cc)

pub returns : goal.returns
returns c =
    let w : List ℕ = c.args.self.words.now in
    let s = c.in_ok-span.ensures in
    let a = c.in_ok-at.ensures in
    let li : c.args.index < length (voice (score_of w) c.args.voice) = omega (arith, s.counts, a.0) in
    let h = c.args.self.holds in
    let small = words_small w h c.in_ok-at.at (omega (arith, a.1, s.begins, place_within w h c.args.voice c.args.index s.there li)) in
    let e = event_there w h c.args.voice c.args.index (silence 0) s.there li c.in_ok-at.at (omega (arith, a.1, s.begins)) in
    let there : event_at (score_of w) c.args.voice c.args.index ≡ Some (get_or (voice (score_of w) c.args.voice) c.args.index (silence 0)) = pick_true _ _ _ (lt-ltb c.args.index _ li) in
    let fit : fits c.row_at.result ≡ true = ap fits c.row_at.ensures ∙ small_fits (row_in w c.in_ok-at.at) small.0 small.1 small.2 in
    let read = fitting c.row_at.result c.try_from.result c.try_from.ensures fit in
    ap (option_map event_meant) c.ok.ensures.value ∙ (read ∙ (ap (λ r. Some (event_in r)) c.row_at.ensures ∙ (ap Some e ∙ sym there)))
