use Rattle.std.proofs.Common.{◌+◌, ◌-◌, length, ap, arith}
use Rattle.std.proofs.lemmas.Slice.{drop-put_mid}
use Rattle.stores.proofs.blocks.write_block.Goals as goal

pub returns-clause-after : goal.returns-clause-after
returns-clause-after c =
    let r = c.requires in
    let e = ap length c.copy_from_slice.ensures.after in
    drop-put_mid c.args.start (c.args.start + length c.args.block.now - c.args.start) c.args.words.now c.copy_from_slice.new.self (c.args.start + length c.args.block.now) (omega arith) (omega arith) (omega arith)
