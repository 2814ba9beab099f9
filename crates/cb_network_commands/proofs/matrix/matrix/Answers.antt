-- What each way out of `matrix` shows.
use Rattle.std.proofs.Common.{[], refl, inl}
use Rattle.std.specs.Prelude.{None}
use Rattle.cb_topo.specs.Numbered.{topology_of}
use Rattle.cb_outcome.specs.Commands.Matrix.{matrix, matrix_reads}
use Rattle.cb_report.specs.declared.fault.Fault.TheVariants.{Memory}
use Rattle.cb_outcome.specs.Judged.{network}
use Rattle.cb_file_kinds.specs.Ending.{network_files}
use Rattle.cb_file_kinds.proofs.Chain.{err_is, makes, wants}
use Rattle.cb_file_kinds.proofs.Searched.{search_none, search_counts}
use Rattle.cb_network_commands.proofs.matrix.matrix.Goals as goal

pub returns-in_err-topology-clause-comes : goal.returns-in_err-topology-clause-comes
returns-in_err-topology-clause-comes g c =
    rw (err_is _ _ c.from_residual.ensures.1) (c.in_err-topology.ensures.stops (matrix_reads c.args.model c.args.topology) [] refl)

pub returns-in_err-lines_of_matrix-clause-comes : goal.returns-in_err-lines_of_matrix-clause-comes
returns-in_err-lines_of_matrix-clause-comes g c =
    let old = g.F.Files.tells c.args.files.now in
    let two = g.F.Files.tells c.read_network.new.files in
    let m = c.args.model in
    let t = c.args.topology in
    rw (err_is c.from_residual-in_err-lines_of_matrix.result Memory c.from_residual-in_err-lines_of_matrix.ensures.1)
    (inl (wants (matrix m t) (network_files m t) (network (topology_of c.in_ok-topology.topology)) old two c.in_ok-topology.ensures.passed refl refl Memory refl))

pub returns-clause-comes : goal.returns-clause-comes
returns-clause-comes g c =
    let old = g.F.Files.tells c.args.files.now in
    let two = g.F.Files.tells c.read_network.new.files in
    let m = c.args.model in
    let t = c.args.topology in
    makes (matrix m t) (network_files m t) (network (topology_of c.in_ok-topology.topology)) old two c.in_ok-topology.ensures.passed refl refl _ None
    (λ left whole. c.in_ok-lines_of_matrix.ensures.gives whole)

pub returns-in_err-topology-clause-steps : goal.returns-in_err-topology-clause-steps
returns-in_err-topology-clause-steps g c =
    search_none (matrix_reads c.args.model c.args.topology) (g.F.Files.tells c.args.files.now) c.args.steps.now c.args.steps.now refl

pub returns-in_err-lines_of_matrix-clause-steps : goal.returns-in_err-lines_of_matrix-clause-steps
returns-in_err-lines_of_matrix-clause-steps g c =
    search_counts (matrix_reads c.args.model c.args.topology) (g.F.Files.tells c.args.files.now) (topology_of c.in_ok-topology.topology) c.args.steps.now
    c.lines_of_matrix.new.steps c.in_ok-topology.ensures.passed.said c.lines_of_matrix.ensures.cost

pub returns-clause-steps : goal.returns-clause-steps
returns-clause-steps g c =
    search_counts (matrix_reads c.args.model c.args.topology) (g.F.Files.tells c.args.files.now) (topology_of c.in_ok-topology.topology) c.args.steps.now
    c.lines_of_matrix.new.steps c.in_ok-topology.ensures.passed.said c.lines_of_matrix.ensures.cost
