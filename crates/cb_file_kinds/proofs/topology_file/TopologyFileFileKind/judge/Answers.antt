use Rattle.cb_topo.specs.Numbered.{topology_of}
use Rattle.cb_file_kinds.proofs.Judging.{topology_says, topology_stops}
use Rattle.cb_file_kinds.proofs.topology_file.TopologyFileFileKind.judge.Goals as goal

pub returns-in-Ok-clause-says : goal.returns-in-Ok-clause-says
returns-in-Ok-clause-says c =
    topology_says c.args.name c.args.text.now c.requires c.args.self.model (topology_of c.in-Ok.topology) c.in-Ok.ensures.made

pub returns-in-Err-clause-stops : goal.returns-in-Err-clause-stops
returns-in-Err-clause-stops c =
    rw c.fault_of.ensures (topology_stops c.args.name c.args.text.now c.requires c.args.self.model c.in-Err.stop c.in-Err.ensures.stop)
