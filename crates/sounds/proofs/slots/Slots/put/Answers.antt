-- The slot's own bit says that it is used now.
use Rattle.std.proofs.Common.{◌≡◌, ◌*◌, ◌%◌, ◌^◌, arith}
use Rattle.std.proofs.lemmas.Nat.{one_shl}
use Rattle.sounds.proofs.Used.{tells_put}
use Rattle.sounds.proofs.slots.Slots.put.Goals as goal

pub invariant_of-self-clause-tells : goal.invariant_of-self-clause-tells
invariant_of-self-clause-tells c =
    let voice : (1 * 2 ^ c.args.voice) % 2 ^ 64 ≡ 2 ^ c.args.voice = one_shl c.args.voice 64 c.requires.voice in
    let slot : (1 * 2 ^ (c.args.slot % 64)) % 2 ^ 64 ≡ 2 ^ (c.args.slot % 64) = one_shl (c.args.slot % 64) 64 (omega arith) in
    simp (voice, slot) (tells_put c.args.slot c.args.voice c.requires.slot (search arith) (search arith) c.args.self.now.tells)
