-- Zeros behind a header are empty voices.
use Rattle.std.proofs.Common.{◌≡◌, ℕ, true, length, set, replicate, sym, ap, subst}
use Rattle.score.specs.Calls.{Limits, Layout, empty_voices}
use Rattle.score.specs.Promise.{whole}
use Rattle.memory.specs.Store.{stored, limits_at, layout_at}
use Rattle.memory.specs.Words.{Holds}
use Rattle.memory.proofs.Opened.{opened_is, holds_opened}
use Rattle.voices.proofs.lay_out.Goals as goal

pub returns : goal.returns
returns c =
    let k : ℕ = c.args.opening.key in
    let b : ℕ = c.args.opening.bar in
    let v : ℕ = c.args.opening.voices in
    let n : ℕ = c.args.opening.events in
    let l : Limits = limits_at whole true v n in
    let y : Layout = layout_at k b in
    let zeros : c.fill.new.self ≡ replicate (length c.args.words.now) 0 = c.fill.ensures.after (λ x h. h) in
    let laid = ap (λ w. set (set (set (set w 0 k) 1 b) 2 v) 3 n) zeros in
    let opened = opened_is l y (length c.args.words.now) c.requires.size in
    let left : set (set (set (set c.fill.new.self 0 k) 1 b) 2 v) 3 n ≡ stored l y (empty_voices v) = cc in
    record { left = left; holds = subst Holds (sym left) (holds_opened l y c.requires.limits c.requires.layout) }
