-- What each way out of `levels` shows.
use Rattle.std.proofs.Common.{[], refl, inl}
use Rattle.cb_topo.specs.Numbered.{topology_of}
use Rattle.cb_outcome.specs.Commands.Levels.{levels}
use Rattle.cb_outcome.specs.Commands.Matrix.{matrix_reads}
use Rattle.cb_report.specs.Text.{bytes_of_text}
use Rattle.cb_report.specs.declared.fault.Fault.TheVariants.{Memory}
use Rattle.cb_outcome.specs.Judged.{network}
use Rattle.cb_file_kinds.specs.Ending.{network_files}
use Rattle.cb_file_kinds.proofs.Counted.{levels_none, levels_counts}
use Rattle.cb_file_kinds.proofs.Chain.{err_is, makes, wants}
use Rattle.cb_chain_commands.proofs.levels.levels.Goals as goal

pub returns-in_err-topology-clause-comes : goal.returns-in_err-topology-clause-comes
returns-in_err-topology-clause-comes g c =
    rw (err_is _ _ c.from_residual.ensures.1) (c.in_err-topology.ensures.stops (matrix_reads c.args.model c.args.topology) [] refl)

pub returns-in_err-output-clause-comes : goal.returns-in_err-output-clause-comes
returns-in_err-output-clause-comes g c =
    let old = g.F.Files.tells c.args.files.now in
    let two = g.F.Files.tells c.read_network.new.files in
    let m = c.args.model in
    let t = c.args.topology in
    rw (err_is c.from_residual-in_err-output.result Memory c.from_residual-in_err-output.ensures.1)
    (inl (wants (levels m t c.args.node) (network_files m t) (network (topology_of c.in_ok-topology.topology)) old two c.in_ok-topology.ensures.passed refl refl Memory refl))

pub returns-clause-comes : goal.returns-clause-comes
returns-clause-comes g c =
    let old = g.F.Files.tells c.args.files.now in
    let two = g.F.Files.tells c.read_network.new.files in
    let m = c.args.model in
    let t = c.args.topology in
    makes (levels m t c.args.node) (network_files m t) (network (topology_of c.in_ok-topology.topology)) old two c.in_ok-topology.ensures.passed refl refl
    (bytes_of_text c.in_ok-output.output.text) c.in_ok-output.output.fault (λ left whole. c.in_ok-output.ensures.gives whole)

pub returns-in_err-topology-clause-steps : goal.returns-in_err-topology-clause-steps
returns-in_err-topology-clause-steps g c =
    levels_none (matrix_reads c.args.model c.args.topology) (g.F.Files.tells c.args.files.now) c.args.node c.args.steps.now c.args.steps.now refl

pub returns-in_err-output-clause-steps : goal.returns-in_err-output-clause-steps
returns-in_err-output-clause-steps g c =
    levels_counts (matrix_reads c.args.model c.args.topology) (g.F.Files.tells c.args.files.now) c.args.node (topology_of c.in_ok-topology.topology)
    c.args.steps.now c.levelling.new.steps c.in_ok-topology.ensures.passed.said c.levelling.ensures.cost

pub returns-clause-steps : goal.returns-clause-steps
returns-clause-steps g c =
    levels_counts (matrix_reads c.args.model c.args.topology) (g.F.Files.tells c.args.files.now) c.args.node (topology_of c.in_ok-topology.topology)
    c.args.steps.now c.levelling.new.steps c.in_ok-topology.ensures.passed.said c.levelling.ensures.cost
