-- Run after run is derived, and of a run event after event. Where no mark is left, all that was to be derived is.
use Rattle.std.proofs.Common.{◌≡◌, ℕ, ◌+◌, ◌/◌, ◌%◌, ◌≤◌, List, get_or, sym, refl, ◌∙◌, subst, arith}
use Rattle.keys.specs.Held.{held_in}
use Rattle.keys.proofs.Holding.{held_key}
use Rattle.memory.specs.Words.{kept_anew, Deriving}
use Rattle.voices.specs.declared.holding.Holding.{Holding}
use Rattle.voices.specs.Ahead.{Ahead}
use Rattle.voices.specs.Holding.{holds_in, UpTo}
use Rattle.voices.proofs.Onward.{marks_is, header_word, same_regions, marks_long, in_limit, no_mark}
use Rattle.voices.proofs.Ahead.{run_taken, run_ended}
use Rattle.voices.proofs.keeping.derive.Goals as goal

pub runs-init : goal.runs-init
runs-init c = (
  subst (λ g. Deriving c.args.words.now c.args.first c.args.bar c.args.tick g) (sym (held_key (get_or c.args.words.now 0 0) _ c.of-holding.ensures.holds)) c.requires.state,
  refl,
  refl,
  c.of-holding.ensures.up_to,
)

pub is_marked-requires : goal.is_marked-requires
is_marked-requires c = marks_long _ _ _ _ _ _ _ c.runs.invariant.0 c.runs.invariant.2 (marks_is _ c.args.words.now c.requires.regions)

pub events-init : goal.events-init
events-init c =
    let t = run_taken c.args.words.now c.runs.words _ c.runs.at c.runs.bar c.runs.tick c.args.regions.marks c.runs.invariant.0 c.runs.invariant.2 (marks_is _ c.args.words.now c.requires.regions)
    (kept_anew c.args.words.now) c.runs.invariant.1 c.take_run-end.result c.take_run-end.new.marks c.take_run-end.ensures.run c.take_run-end.ensures.rest (sym c.runs-test.ensures) in
    (t.0, t.1, c.runs.invariant.3)

pub keep_onset-tick-requires : goal.keep_onset-tick-requires
keep_onset-tick-requires c =
    let k = sym (header_word c.events.words c.args.words.now 0 (omega arith) c.events.invariant.1) in
    record {
      regions = same_regions c.args.regions c.args.words.now c.events.words c.requires.regions c.events.invariant.1;
      state = (
        c.take_run-end.result,
        kept_anew c.args.words.now,
        c.events-test.true,
        subst (λ k. Ahead c.events.words (kept_anew c.args.words.now) c.events.event c.take_run-end.result c.events.bar c.events.tick (held_in k (holds_in c.events.holding c.events.bar))) k c.events.invariant.0,
      );
      up_to = subst (λ k. UpTo k c.events.holding c.events.bar) k c.events.invariant.2;
    }

pub events-preserved : goal.events-preserved
events-preserved c =
    let w₀ : List ℕ = c.args.words.now in
    let w : List ℕ = c.events.words in
    let k = header_word w w₀ 0 (omega arith) c.events.invariant.1 in
    let b = header_word w w₀ 1 (omega arith) c.events.invariant.1 in
    let h : Holding = c.keep_onset-tick.new.holding in
    let t : ℕ = c.events.tick + c.keep_onset-tick.result in
    let Next : ℕ → ℕ → ℕ → Type 0 = λ key bar tick. Ahead c.keep_onset-tick.new.words (kept_anew w₀) (c.events.event + 1) c.take_run-end.result bar tick (held_in key (holds_in h bar)) × UpTo key h bar in
    let state = subst (λ k. Ahead w (kept_anew w₀) c.events.event c.take_run-end.result c.events.bar c.events.tick (held_in k (holds_in c.events.holding c.events.bar))) (sym k) c.events.invariant.0 in
    let n1 : Next (get_or w 0 0) (c.events.bar + t / get_or w 1 0) (t % get_or w 1 0) = (c.keep_onset-tick.ensures.next c.take_run-end.result (kept_anew w₀) c.events-test.true state, c.keep_onset-tick.ensures.up_to) in
    let n2 : Next (get_or w₀ 0 0) (c.events.bar + t / get_or w₀ 1 0) (t % get_or w₀ 1 0) = subst (λ i. Next (get_or w₀ 0 0) (c.events.bar + t / i) (t % i)) b (subst (λ i. Next i (c.events.bar + t / get_or w 1 0) (t % get_or w 1 0)) k n1) in
    let n3 : Next (get_or w₀ 0 0) c.behind.result.0 c.behind.result.1 = subst (λ i. Next (get_or w₀ 0 0) c.behind.result.0 i) (sym c.behind.ensures.tick) (subst (λ i. Next (get_or w₀ 0 0) i (t % get_or w₀ 1 0)) (sym c.behind.ensures.bar) n2) in
    (n3.0, c.keep_onset-tick.ensures.header ∙ c.events.invariant.1, n3.1)

pub runs-smaller : goal.runs-smaller
runs-smaller c =
    let t = run_taken c.args.words.now c.runs.words _ c.runs.at c.runs.bar c.runs.tick c.args.regions.marks c.runs.invariant.0 c.runs.invariant.2 (marks_is _ c.args.words.now c.requires.regions)
    (kept_anew c.args.words.now) c.runs.invariant.1 c.take_run-end.result c.take_run-end.new.marks c.take_run-end.ensures.run c.take_run-end.ensures.rest (sym c.runs-test.ensures) in
    let l = in_limit _ _ _ _ _ _ _ c.runs.invariant.0 c.runs.invariant.2 (marks_is _ c.args.words.now c.requires.regions) (sym c.runs-test.ensures) in
    omega (arith, l, t.2)

pub runs-preserved : goal.runs-preserved
runs-preserved c =
    let t = run_taken c.args.words.now c.runs.words _ c.runs.at c.runs.bar c.runs.tick c.args.regions.marks c.runs.invariant.0 c.runs.invariant.2 (marks_is _ c.args.words.now c.requires.regions)
    (kept_anew c.args.words.now) c.runs.invariant.1 c.take_run-end.result c.take_run-end.new.marks c.take_run-end.ensures.run c.take_run-end.ensures.rest (sym c.runs-test.ensures) in
    let some : c.runs.at ≤ c.take_run-end.result = omega (arith, t.2) in
    let ends : c.events.event ≡ c.take_run-end.result = omega (arith, some, c.events-test.false, c.events.auto.event-end) in
    let a = subst (λ i. Ahead c.events.words (kept_anew c.args.words.now) i c.take_run-end.result c.events.bar c.events.tick (held_in (get_or c.args.words.now 0 0) (holds_in c.events.holding c.events.bar))) ends c.events.invariant.0 in
    let r = run_ended c.events.words (kept_anew c.args.words.now) c.take_run-end.result c.events.bar c.events.tick _ a in
    (r.0, r.1, c.events.invariant.1, c.events.invariant.2)

pub returns : goal.returns
returns c = no_mark _ _ _ _ _ _ _ c.runs.invariant.0 c.runs.invariant.2 (marks_is _ c.args.words.now c.requires.regions) (sym c.runs-test.ensures) ∙ c.runs.invariant.1
