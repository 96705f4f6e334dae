-- Each turn marks one voice more.
use Rattle.std.proofs.Common.{◌≡◌, length, refl, ◌∙◌, arith}
use Rattle.std.proofs.lemmas.List.{length-set}
use Rattle.sounds.proofs.Walks.{ticks_more}
use Rattle.sounds.proofs.Marked.{marked_none, marked_step, marked_ready, marked_whole}
use Rattle.sounds.proofs.together.Voices.mark.Goals as goal

pub loop-voice-init : goal.loop-voice-init
loop-voice-init c = record { begins = refl; many = refl; first = refl; count = refl; marked = marked_none _ _ _ _ c.args.slots.now.first _ _ _ c.requires.empty }

pub loop-voice-preserved : goal.loop-voice-preserved
loop-voice-preserved c =
    let i = c.loop-voice.invariant in
    let more = ticks_more c.loop-voice.voice c.args.self.counts.now c.loop-voice-test.true in
    let passed = c.mark_voice-passed.ensures in record {
      begins = omega (arith, more.0);
      many = simp length-set i.many;
      first = passed.marked.first ∙ i.first;
      count = passed.marked.count ∙ i.count;
      marked =
          marked_step c.mark_voice-passed.result c.mark_voice-passed.new.slots.voices c.args.self.laid c.loop-voice-test.true i.begins
          (omega (arith, c.args.self.laid.few_voices)) (omega (arith, i.count, c.loop-voice.slots.few)) i.marked (rw i.first at passed.index) (rw i.first at passed.reached) (simp (i.first, i.count) at passed.marked.voices);
    }

pub returns : goal.returns
returns c =
    let i = c.loop-voice.invariant in
    let k : c.loop-voice.voice ≡ length c.args.self.counts.now = omega arith in
    let all = rw k at i.marked in
    record { ready = simp (i.first, i.count) (marked_ready _ _ _ _ _ _ _ _ all); whole = simp (i.first, i.count) (marked_whole _ _ _ _ _ _ _ _ all) }
