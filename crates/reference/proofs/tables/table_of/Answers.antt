use Rattle.reference.proofs.Bits.{each_bit}
use Rattle.reference.proofs.tables.table_of.Goals as goal

pub loop-x-preserved : goal.loop-x-preserved
loop-x-preserved g c =
    each_bit (goal.F-post g c.args.value) c.loop-x.f c.loop-x.x c.value.result c.from.result c.from.ensures c.loop-x.invariant.0 c.loop-x-test.true c.loop-x.invariant.1 c.value.ensures
