-- Each turn marks one note, or passes over a silence.
use Rattle.std.proofs.Common.{ℕ, ◌<◌, length, sym, ap, ◌∙◌, inl, inr, arith}
use Rattle.std.proofs.lemmas.List.Sums.{sum_by-cons}
use Rattle.sounds.specs.Scores.{end_of}
use Rattle.sounds.proofs.Walks.{ticks_late, ticks_no_places, ticks_no_lengths, marks_silence, marks_note, marks_none}
use Rattle.sounds.proofs.slots.Slots.mark.Goals as goal
use Rattle.sounds.proofs.slots.Slots.mark.Goals.{then-place-ne-SILENT, else-place-ne-SILENT}

pub returns-then-slot-self : goal.returns-then-slot-self
returns-then-slot-self c =
    let i = c.loop-place.invariant in
    let l = ap length c.in-Some.ensures.steps.1 in
    record { first = i.first; count = i.count; voices = sym (marks_none _ _ _ _ (ticks_late _ _ _ _ (omega (arith, l, c.if-slot-self.true)))) ∙ i.marked }

pub loop-place-preserved : goal.loop-place-preserved
loop-place-preserved c =
    let i = c.loop-place.invariant in
    let places = c.in-Some.ensures.steps.0 in
    let lengths = c.in-Some.ensures.steps.1 in
    let more = ap length lengths in
    let left = simp (lengths, sum_by-cons) at i.short in
    let end : ℕ = end_of c.args.self.now in
    let before : c.loop-place.tick < end = omega (arith, more, c.if-slot-self.false) in
    let sofar = rw (places, lengths) at i.marked in
    elim c.if-place-ne-SILENT.branch [
      | then-place-ne-SILENT w ↦ simp w.self-is (record {
        first = w.put.ensures.first ∙ i.first;
        count = w.put.ensures.count ∙ i.count;
        short = omega (arith, left);
        begun = omega arith;
        marked =
            simp (w.put.ensures.voices, i.first)
            (sym (marks_note end c.loop-place.tick _ _ _ _ before c.args.voice c.args.self.now.first c.loop-place.self.voices w.if-place-ne-SILENT.true) ∙ sofar);
      })
      | else-place-ne-SILENT w ↦ simp w.self-is (record {
        first = i.first;
        count = i.count;
        short = omega (arith, left);
        begun = omega arith;
        marked = sym (marks_silence end c.loop-place.tick _ _ _ _ before c.args.voice c.args.self.now.first c.loop-place.self.voices w.if-place-ne-SILENT.false) ∙ sofar;
      })
    ]

pub returns : goal.returns
returns c =
    let i = c.loop-place.invariant in record {
      first = i.first;
      count = i.count;
      voices =
          elim c.in-None.ensures.steps [
            | inl p ↦ sym (marks_none _ _ _ _ (ticks_no_places _ _ _ _ p.1.0)) ∙ i.marked
            | inr d ↦ sym (marks_none _ _ _ _ (ticks_no_lengths _ _ _ _ d.1.0)) ∙ i.marked
          ];
    }
