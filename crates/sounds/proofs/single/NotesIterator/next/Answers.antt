-- Each turn passes over a silence, or gives the note that comes next.
use Rattle.std.proofs.Common.{sym, ◌∙◌, arith}
use Rattle.sounds.specs.declared.single.Notes.{Notes}
use Rattle.sounds.proofs.Line.{Came, came, none_left, silences_passed}
use Rattle.sounds.proofs.single.NotesIterator.next.Goals as goal
use Rattle.sounds.proofs.single.NotesIterator.next.Goals.{In-Some}

-- the row that came
row : (c : In-Some) → Came c.loop-row.self c.in-Some.row c.next.new.self
row c = came c.loop-row.invariant.playable c.in-Some.ensures.steps

pub overflow_add-self : goal.overflow_add-self
overflow_add-self c = let r = row (goal.at.overflow_add-self c).In-Some in omega (arith, r.playable.short)

pub sound_of-requires : goal.sound_of-requires
sound_of-requires c =
    let f = (row (goal.at.sound_of-requires c).In-Some).fields (sym c.if-not-is_silent.ensures) in
    record { place = f.0; alteration = f.1; long = f.2 }

pub loop-row-preserved : goal.loop-row-preserved
loop-row-preserved c =
    let r = row (goal.at.loop-row-preserved c).In-Some in record {
      playable = r.playable;
      same_heard = r.over_silence (sym c.if-not-is_silent.ensures) ∙ c.loop-row.invariant.same_heard;
      same_voice = c.loop-row.invariant.same_voice;
      fewer = omega (arith, r.fewer);
    }

pub returns-then-not-is_silent : goal.returns-then-not-is_silent
returns-then-not-is_silent c =
    let r = row (goal.at.returns-then-not-is_silent c).In-Some in record {
      steps =
          silences_passed c.args.self.now _ _ c.loop-row.invariant.same_voice c.loop-row.invariant.same_heard
          (r.gives c.sound_of.result (sym c.if-not-is_silent.ensures) c.sound_of.ensures);
      goes = record {
        on = λ _. (r.playable, tt, omega (arith, r.fewer));
        keeps = r.playable;
        rests = λ _. tt;
      };
    }

pub returns-clause-steps : goal.returns-clause-steps
returns-clause-steps c =
    let ended : Notes = record { voice = c.loop-row.self.voice; rows = c.next.new.self; tick = c.loop-row.self.tick } in record {
      same_voice = c.loop-row.invariant.same_voice;
      gives = (sym c.loop-row.invariant.same_heard ∙ none_left c.loop-row.self c.in_default.ensures.steps.0.0, none_left ended c.in_default.ensures.steps.0.1);
    }
