-- What is engraved is the whole print, which the reader plays to its end; the theorem says what is heard.
use Rattle.std.proofs.Common.{◌≡◌, ℕ, ◌-◌, List, ◌++◌, map, length, take, drop, sym, ap, ◌∙◌, arith}
use Rattle.score.specs.Music.{heard}
use Rattle.score.specs.Print.{read_from}
use Rattle.engraving.specs.Shown.{shown}
use Rattle.rows.specs.Rows.{voice_in}
use Rattle.reading.specs.Symbols.{symbols_of}
use Rattle.reading.specs.Told.{heard_meant}
use Rattle.readback.specs.Heard.{page_of}
use Rattle.readback.proofs.Checks.{Checked, checked}
use Rattle.readback.proofs.Whole.{front_of, room_for, Printed, shown_is, printed_so, answered_so}
use Rattle.readback.proofs.read_back.Goals as goal
use Rattle.readback.proofs.read_back.Goals.{In_ok-bars, After-engrave-bytes}

passed : (c : In_ok-bars) → Checked c.args.rows c.args.layout (length c.args.page.now) (length c.args.signs.now) (length c.args.notes.now) c.in_ok-bars.bars
passed c = checked c.args.rows c.args.layout _ _ _ c.in_ok-bars.bars c.in_ok-bars.ensures

pub engrave-bytes-requires : goal.engrave-bytes-requires
engrave-bytes-requires c =
    let k = passed (goal.at.engrave-bytes-requires c).In_ok-bars in
    record { row = k.row; room = (room_for c.args.rows c.args.layout _ _ _ _ k).0 }

pub invariant_of-voice : goal.invariant_of-voice
invariant_of-voice c = record { ready = (passed (goal.at.invariant_of-voice c).In_ok-bars).ready }

-- the part of the page that is printed
part : (c : After-engrave-bytes) → take (c.engrave-bytes.result - 0) c.engrave-bytes.new.out ≡ shown c.args.layout.key c.args.layout.bar (voice_in c.args.rows) 0 c.in_ok-bars.bars
part c = front_of c.engrave-bytes.new.out c.args.page.now _ c.engrave-bytes.result c.engrave-bytes.ensures.wrote c.engrave-bytes.ensures.many

read_of : (c : After-engrave-bytes) → Checked c.args.rows c.args.layout (length c.args.page.now) (length c.args.signs.now) (length c.args.notes.now) c.in_ok-bars.bars →
    Printed c.args.rows c.args.layout (take (c.engrave-bytes.result - 0) c.engrave-bytes.new.out)
read_of c k = printed_so c.args.rows c.args.layout _ _ _ c.in_ok-bars.bars _ k (part c)

pub slice_bounds-read-end : goal.slice_bounds-read-end
slice_bounds-read-end c =
    let k = passed (goal.at.slice_bounds-read-end c).In_ok-bars in
    let f = (room_for c.args.rows c.args.layout _ _ _ _ k).0 in
    omega (arith, f, c.engrave-bytes.ensures.many)

pub read-requires : goal.read-requires
read-requires c =
    let k = passed (goal.at.read-requires c).In_ok-bars in
    let d = (goal.at.read-requires c).After-engrave-bytes in
    let f = (room_for c.args.rows c.args.layout _ _ _ _ k).1 in
    record { long = omega (arith, f, ap length (part d)); room = omega (arith, (read_of d k).few, k.many) }

pub unreachable-requires : goal.unreachable-requires
unreachable-requires c =
    let k = passed (goal.at.unreachable-requires c).In_ok-bars in
    let e = c.in_default.ensures.said ∙ (read_of (goal.at.unreachable-requires c).After-engrave-bytes k).to_end in
    let z : ◌≡◌ {A = ℕ} 0 1 = cc in omega arith

pub returns : goal.returns
returns c =
    let k = passed (goal.at.returns c).In_ok-bars in
    let p = read_of (goal.at.returns c).After-engrave-bytes k in
    let w = shown_is c.args.rows c.args.layout _ _ _ c.in_ok-bars.bars k in
    let b : c.engrave-bytes.result ≡ length (page_of c.args.rows c.args.layout) = c.engrave-bytes.ensures.many ∙ ap length w in
    let o = c.in-Ok.ensures.said ∙ p.to_end in
    let n : c.in-Ok.heard ≡ length (heard (voice_in c.args.rows) 0) = cc in
    let m : c.in-Ok.heard ≡ length (read_from c.args.layout.key (symbols_of (take (c.engrave-bytes.result - 0) c.engrave-bytes.new.out))) = n ∙ sym (ap length p.hears) in
    record {
      said = answered_so c.args.rows c.args.layout _ _ _ c.in_ok-bars.bars _ _ c.in_ok-bars.ensures b n;
      left = record {
        printed_so = c.engrave-bytes.ensures.wrote ∙ ap (λ (bs : List ℕ). bs ++ drop c.engrave-bytes.result c.args.page.now) w;
        signed_so = c.engrave-bytes.ensures.left;
        heard_so = ap (λ (i : ℕ). map heard_meant (take i c.read.new.heard)) m ∙ c.in-Ok.ensures.wrote ∙ p.hears;
        behind = ap (λ (i : ℕ). drop i c.read.new.heard) m ∙ c.in-Ok.ensures.rest ∙ ap (λ (i : ℕ). drop i c.args.notes.now) (sym m);
      };
    }
