use Rattle.std.proofs.Common.{ℕ, ◌/◌, ◌^◌, eqb, ap}
use lib.Bits.{and_mask}
use Rattle.tables.specs.Bits.{bit}
use Rattle.transforms.proofs.mask_bit.Goals as goal

pub returns : goal.returns
unfolding bit
returns c = ap (λ (t : ℕ). eqb t 1) (and_mask (c.args.mask / 2 ^ c.args.i) 1)
