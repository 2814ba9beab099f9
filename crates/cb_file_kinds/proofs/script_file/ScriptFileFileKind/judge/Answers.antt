use Rattle.cb_topo.specs.Numbered.{topology_of}
use Rattle.cb_file_kinds.proofs.Scripted.{script_says, script_stops}
use Rattle.cb_file_kinds.proofs.script_file.ScriptFileFileKind.judge.Goals as goal

pub returns-in-Ok-clause-says : goal.returns-in-Ok-clause-says
returns-in-Ok-clause-says c =
    script_says c.args.name c.args.text.now c.requires (topology_of c.args.self.topology.now) c.in-Ok.script.items c.in-Ok.ensures.read c.in-Ok.ensures.names

pub returns-in-Err-clause-stops : goal.returns-in-Err-clause-stops
returns-in-Err-clause-stops c =
    rw c.fault_of.ensures (script_stops c.args.name c.args.text.now c.requires (topology_of c.args.self.topology.now) c.in-Err.stop c.in-Err.ensures.stop)
