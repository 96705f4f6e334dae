-- One record at a time, until one is turned away or none is left.
use Rattle.std.proofs.Common.{◌≡◌, ℕ, ◌<◌, List, length, get_or, refl, add-one, inl, sym, ap, ◌∙◌, subst, arith}
use Rattle.std.proofs.lemmas.List.{length_push}
use Rattle.std.proofs.lemmas.List.FromFn.{get_or-enumerate_from, length-enumerate_from}
use Rattle.std.proofs.lemmas.Iterator.{YieldsList}
use Rattle.std.proofs.lemmas.Iterator.Consumers.{YieldsList-from_first, YieldsList-from_enumerate, YieldsList-turn, YieldsList-end}
use Rattle.std.specs.List.{enumerate_from}
use Rattle.std.specs.Iterator.{YieldsFirst}
use Rattle.std.specs.Iterator.Adapters.{enumerate_source, enumerate_count, enumerate_steps}
use Rattle.std.specs.declared.iter.Enumerate.{Enumerate}
use Rattle.records.specs.Records.{records_of}
use Rattle.records.specs.declared.Records.{Records}
use Rattle.records.specs.declared.Record.{Record}
use Rattle.records.proofs.Numbers.{many_records}
use Rattle.records.proofs.Turns.{Over, few, goes_on, stops, ends}
use Rattle.records.proofs.put_all.Goals as goal

-- the numbered records are those of the numbers
numbered : (ns : List ℕ) (s e : Enumerate Records) (source : Records) → s ≡ e → enumerate_source e ≡ source → source.numbers.now ≡ ns → enumerate_count e ≡ 0 →
    YieldsList (enumerate_steps (YieldsFirst (λ r. records_of r.numbers.now))) (λ p. (p.0, p.1)) s (enumerate_from 0 (records_of ns))
numbered ns s e source same from is none =
    let rest : Records → List Record = λ r. records_of r.numbers.now in
    YieldsList-from_enumerate (YieldsList-from_first (λ x. x) rest (records_of ns) (ap (λ x. rest (enumerate_source {I = Records} x)) same ∙ (ap rest from ∙ ap records_of is)))
    (ap enumerate_count same ∙ none)

-- the record of a turn, and its number
at_turn : (rs : List Record) (k count : ℕ) (r : Record) → (k < length (enumerate_from 0 rs)) × ((count, r) ≡ get_or (enumerate_from 0 rs) k (count, r)) →
    (k < length rs) × (count ≡ k) × (r ≡ get_or rs k r)
at_turn rs k count r t =
    let lt : k < length rs = omega (arith, t.0, length-enumerate_from 0 rs) in
    let e = t.1 ∙ get_or-enumerate_from 0 rs k (count, r) lt in
    (lt, omega (arith, ap (λ p. p.0) e), ap (λ p. p.1) e)

pub loop-count-init-derived : goal.loop-count-init-derived
loop-count-init-derived c =
    let same = c.into_iter-count-iterator.ensures.into_iter_gives in
    let none = ap enumerate_count same ∙ c.enumerate-count-items.ensures.count in
    let many = ap (λ x. length (records_of (enumerate_source {I = Records} x).numbers.now)) same ∙ (c.enumerate-count-items.ensures.remaining ∙ many_records c.args.numbers.now) in
    ((tt, tt, inl (omega arith)), tt)

pub returns-in-Err : goal.returns-in-Err
returns-in-Err c =
    let y = numbered c.args.numbers.now _ _ _ c.into_iter-count-iterator.ensures.into_iter_gives c.enumerate-count-items.ensures.source refl c.enumerate-count-items.ensures.count in
    let t = at_turn _ _ _ _ (YieldsList-turn y c.loop-count.yielded _ c.loop-count.yielded_by _ c.next.new.self _ c.in-Some.is c.next.ensures.steps) in
    let p = c.in-Err.ensures in
    let i = c.loop-count.invariant in
    let o = stops _ _ _ _ c.loop-count.score.holds i.1 c.in-Some.record t.0 t.2 c.put_last.new.score.words.now c.in-Some.count _ _ t.1 p.said p.left c.args.score.now.holds in
    let n = few _ _ _ _ c.loop-count.score.holds i.1 in
    record { same = p.same ∙ i.0; few = omega (arith, t.1); count = o.count; next = o.says; left = o.left; puts = o.puts }

pub loop-count-preserved : goal.loop-count-preserved
loop-count-preserved c =
    let y = numbered c.args.numbers.now _ _ _ c.into_iter-count-iterator.ensures.into_iter_gives c.enumerate-count-items.ensures.source refl c.enumerate-count-items.ensures.count in
    let t = at_turn _ _ _ _ (YieldsList-turn y c.loop-count.yielded _ c.loop-count.yielded_by _ c.next.new.self _ c.in-Some.is c.next.ensures.steps) in
    let p = c.in_default.ensures in
    let i = c.loop-count.invariant in
    (p.same ∙ i.0, goes_on _ _ _ _ c.loop-count.score.holds i.1 c.in-Some.record t.0 t.2 c.put_last.new.score.words.now _ (length_push c.loop-count.yielded _ ∙ add-one _) p.said p.left)

pub end_of-requires : goal.end_of-requires
end_of-requires c =
    let y = numbered c.args.numbers.now _ _ _ c.into_iter-count-iterator.ensures.into_iter_gives c.enumerate-count-items.ensures.source refl c.enumerate-count-items.ensures.count in
    let all = YieldsList-end y c.loop-count.yielded _ c.loop-count.yielded_by _ c.next.new.self c.in-None.is c.next.ensures.steps in
    let n = few _ _ _ _ c.loop-count.score.holds c.loop-count.invariant.1 in
    omega (arith, all.1, length-enumerate_from 0 (records_of c.args.numbers.now), many_records c.args.numbers.now)

pub returns : goal.returns
returns c =
    let y = numbered c.args.numbers.now _ _ _ c.into_iter-count-iterator.ensures.into_iter_gives c.enumerate-count-items.ensures.source refl c.enumerate-count-items.ensures.count in
    let all = YieldsList-end y c.loop-count.yielded _ c.loop-count.yielded_by _ c.next.new.self c.in-None.is c.next.ensures.steps in
    let i = c.loop-count.invariant in
    let n = few _ _ _ _ c.loop-count.score.holds i.1 in
    let every = all.1 ∙ length-enumerate_from 0 (records_of c.args.numbers.now) in
    let o = subst (Over _ _ _ _) (sym c.end_of.ensures) (ends _ _ _ _ c.loop-count.score.holds i.1 every c.args.score.now.holds) in
    record { same = i.0; few = omega (arith, every, many_records c.args.numbers.now); count = o.count; next = o.says; left = o.left; puts = o.puts }
