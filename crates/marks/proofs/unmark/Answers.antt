-- A bit that is set is cleared.
use Rattle.std.proofs.Common.{◌≡◌, ℕ, ◌*◌, ◌/◌, ◌%◌, ◌^◌, get_or, set, ap, ◌∙◌, arith}
use lib.Bits.{bit_xor}
use Rattle.std.proofs.lemmas.Nat.{one_shl}
use Rattle.std.proofs.lemmas.Bool.{eqb-true}
use Rattle.marks.specs.Marked.{bit}
use Rattle.marks.proofs.Bits.{cleared}
use Rattle.marks.proofs.unmark.Goals as goal

pub returns : goal.returns
returns c =
    let mask : (1 * 2 ^ (c.args.at % 32)) % 2 ^ 32 ≡ 2 ^ (c.args.at % 32) = one_shl (c.args.at % 32) 32 (omega arith) in
    let word : ℕ = get_or c.args.marks.now (c.args.at / 32) 0 in
    let is_set : bit word (c.args.at % 32) ≡ 1 = eqb-true _ _ c.requires.marked in
    ap (set c.args.marks.now (c.args.at / 32)) (ap (bit_xor word) mask ∙ cleared word (c.args.at % 32) is_set)
