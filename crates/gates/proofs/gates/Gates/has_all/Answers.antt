use Rattle.gates.specs.Gates.{netlist_of}
use Rattle.gates.proofs.Calls.{all_by}
use Rattle.gates.proofs.gates.Gates.has_all.Goals as goal

pub returns : goal.returns
returns g c = all_by (netlist_of c.args.self.now) c.args.fanins c.all.result c.all.ensures
