-- Each turn writes one note; the lowest bit of the slot says whose.
use Rattle.std.proofs.Common.{ℕ, ◌+◌, ◌*◌, ◌<◌, ◌∷◌, length, get_or, drop, refl, ap, ap₂, ◌∙◌, arith}
use lib.Count.{count_trailing_zeros}
use Rattle.std.proofs.lemmas.Nat.{one_shl, xor_lt, pow_below}
use Rattle.std.proofs.lemmas.List.{take_rest, length-drop}
use Rattle.rows.specs.declared.Row.{Row}
use Rattle.sounds.specs.Rows.{heard_at}
use Rattle.sounds.specs.Spans.{grain}
use Rattle.sounds.specs.Scores.{end_of}
use Rattle.sounds.proofs.Turned.{Turned}
use Rattle.sounds.proofs.Writing.{Writing, writing_next, writing_room, writing_turn, writing_slot, writing_all}
use Rattle.sounds.proofs.Written.{none_written}
use Rattle.sounds.proofs.Passing.{next_used, none_used}
use Rattle.sounds.proofs.together.Voices.write.Goals as goal
use Rattle.sounds.proofs.together.Voices.write.Goals.{In-Some, After-next_note-at}

-- the next slot in which a voice begins a note
used :
    (c : In-Some)
    → Writing c.args.self.counts.now c.args.self.rows.places.now c.args.self.rows.alterations.now c.args.self.rows.lengths.now (end_of c.args.slots.now)
    c.args.cursors c.args.out.now 0 c.slots.cursors c.slots.out c.slots.count (grain * (c.args.slots.now.first + c.in-Some.slot)) (get_or c.args.slots.now.voices c.in-Some.slot 0 ∷ drop (c.in-Some.slot + 1) c.args.slots.now.voices)
used c = next_used c.slots.invariant c.in-Some.ensures c.args.slots.now.few

-- whose turn it is
turn :
    (c : After-next_note-at)
    → Turned c.args.self.counts.now c.args.self.rows.places.now c.args.self.rows.alterations.now c.args.self.rows.lengths.now (end_of c.args.slots.now) c.voices.cursors
    (grain * (c.args.slots.now.first + c.in-Some.slot)) c.voices.voices (count_trailing_zeros 64 c.voices.voices) (drop (c.in-Some.slot + 1) c.args.slots.now.voices) c.next_note-at.result.0
turn c = writing_next c.args.self.laid c.voices.invariant.writing c.voices-test.true c.voices.invariant.small c.next_note-at.result.0 c.next_note-at.ensures.at

pub voices-init : goal.voices-init
voices-init c =
    let w = rw (← c.voices_in-voices.ensures) at (used (goal.at.voices-init c).In-Some) in
    record { writing = record { ready = w.ready; enough = w.enough; written = none_written _ _ _ }; small = omega arith }

pub next_note-at-requires : goal.next_note-at-requires
next_note-at-requires c =
    let u = writing_next c.args.self.laid c.voices.invariant.writing c.voices-test.true c.voices.invariant.small _ refl in
    omega (arith, u.in_rows)

pub overflow_add-cursors : goal.overflow_add-cursors
overflow_add-cursors c = let u = turn (goal.at.overflow_add-cursors c).After-next_note-at in omega (arith, u.in_rows, c.args.self.laid.few_events)

pub sound_of-requires : goal.sound_of-requires
sound_of-requires c =
    let u = turn (goal.at.sound_of-requires c).After-next_note-at in
    let row = c.next_note-at.ensures.row in
    record { place = rw row u.place; alteration = rw row u.alteration; long = rw row u.long }

pub write-requires : goal.write-requires
write-requires c =
    let outer = used (goal.at.write-requires c).In-Some in
    let room = writing_room (length c.args.out.now) outer c.voices.invariant.writing (turn (goal.at.write-requires c).After-next_note-at) c.requires.room in
    simp (take_rest, length-drop) (omega (arith, room))

pub voices-smaller : goal.voices-smaller
voices-smaller c = let u = turn (goal.at.voices-smaller c).After-next_note-at in omega (arith, ap length u.next)

pub voices-preserved : goal.voices-preserved
voices-preserved c =
    let u = turn (goal.at.voices-preserved c).After-next_note-at in
    let outer = used (goal.at.voices-preserved c).In-Some in
    let room = writing_room (length c.args.out.now) outer c.voices.invariant.writing u c.requires.room in
    let voice : ℕ = count_trailing_zeros 64 c.voices.voices in
    let few : voice < 64 = omega (arith, u.there, c.args.self.laid.few_voices) in
    let sound = c.sound_of.ensures ∙ ap₂ (λ (r : Row) (t : ℕ). (voice, heard_at r t)) c.next_note-at.ensures.row c.tick-start.ensures in
    simp (one_shl voice 64 few) (record {
      writing = writing_turn c.write.new.out c.voices.invariant.writing u (omega (arith, room)) sound c.write.ensures.many c.write.ensures.wrote;
      small = xor_lt 64 _ _ c.voices.invariant.small (pow_below voice 64 few);
    })

pub slots-preserved : goal.slots-preserved
slots-preserved c =
    let outer = used (goal.at.slots-preserved c).In-Some in record {
      writing = writing_slot _ outer c.voices.invariant.writing c.voices-test.false (omega arith);
      within = omega (arith, (c.in-Some.ensures).there, c.args.slots.now.few);
    }

pub returns : goal.returns
returns c =
    let a = writing_all (none_used c.slots.invariant c.in_default.ensures) refl in
    record { wrote = a.0; many = a.1 }
