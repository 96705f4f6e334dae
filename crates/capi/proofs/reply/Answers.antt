-- What is said first in an answer tells its number.
use borrow.Author.Rules.{to_z-of_z_to, sfits_of}
use Rattle.std.proofs.Common.{w64}
use Rattle.capi.proofs.Numbers.{replied, small}
use Rattle.capi.proofs.reply.Goals as goal

pub number_of-requires : goal.number_of-requires
number_of-requires c = small _ _ _ _ _ _ c.requires c.call-long.ensures

pub returns : goal.returns
returns c = replied _ _ _ _ _ _ c.requires c.call-long.ensures _ (to_z-of_z_to w64 _ _ (sfits_of c.number_of.type_inv) c.number_of.ensures)
