use Rattle.netlists.proofs.Reach.{reached_exactly}
use Rattle.networks.proofs.sweeps.count_reached.Goals as goal

pub returns-clause-exact : goal.returns-clause-exact
returns-clause-exact g c = reached_exactly _ _ _ (g.met.N.Network.lawful c.args.net.now)
