-- What each way out of `pairs` shows.
use Rattle.std.proofs.Common.{[], ◌∷◌, refl, inl, subst}
use Rattle.cb_topo.specs.Numbered.{topology_of}
use Rattle.cb_outcome.specs.Roles.{Role}
use Rattle.cb_outcome.specs.Commands.Burst.{burst_reads}
use Rattle.cb_outcome.specs.Commands.Pairs.{pairs}
use Rattle.cb_report.specs.Text.{bytes_of_text}
use Rattle.cb_report.specs.declared.fault.Fault.TheVariants.{Memory}
use Rattle.cb_outcome.specs.Judged.{Known, network, raised}
use Rattle.cb_file_kinds.specs.Ending.{Passed, network_files}
use Rattle.cb_file_kinds.proofs.Chain.{passed_next, stops_there, err_is, makes, wants}
use Rattle.cb_file_kinds.proofs.Searched.{search_none, search_counts}
use Rattle.cb_network_commands.proofs.pairs.pairs.Goals as goal

pub returns-in_err-topology-clause-comes : goal.returns-in_err-topology-clause-comes
returns-in_err-topology-clause-comes g c =
    rw (err_is _ _ c.from_residual.ensures.1)
    (c.in_err-topology.ensures.stops (burst_reads c.args.model c.args.topology c.args.symptoms) ((Role.symptoms, c.args.symptoms) ∷ []) refl)

pub returns-in_err-raised-clause-comes : goal.returns-in_err-raised-clause-comes
returns-in_err-raised-clause-comes g c =
    let old = g.F.Files.tells c.args.files.now in
    let two = g.F.Files.tells c.read_network.new.files in
    let three = g.F.Files.tells c.read_as.new.files in
    let m = c.args.model in
    let t = c.args.topology in
    let s = c.args.symptoms in
    rw (err_is _ _ c.from_residual-in_err-raised.ensures.1)
    (stops_there (network_files m t) Role.symptoms s (network (topology_of c.in_ok-topology.topology)) old two three c.in_ok-topology.ensures.passed
    c.in_err-raised.ensures.only (burst_reads m t s) [] refl _ _ refl c.in_err-raised.ensures.stops)

pub fitting-requires : goal.fitting-requires
fitting-requires g c =
    let (nodes, nodes_are, says) = c.in_ok-raised.ensures.value.says _ refl in
    nodes_are.1

pub returns-in_err-output-clause-comes : goal.returns-in_err-output-clause-comes
returns-in_err-output-clause-comes g c =
    let old = g.F.Files.tells c.args.files.now in
    let two = g.F.Files.tells c.read_network.new.files in
    let three = g.F.Files.tells c.read_as.new.files in
    let m = c.args.model in
    let t = c.args.topology in
    let s = c.args.symptoms in
    let net = network (topology_of c.in_ok-topology.topology) in
    let third = c.in_ok-raised.ensures.value in
    let (nodes, nodes_are, says) = third.says net refl in
    let after = passed_next (network_files m t) Role.symptoms s net old two three c.in_ok-topology.ensures.passed c.in_ok-raised.ensures.only third.text nodes third.read says in
    rw (err_is c.from_residual-in_err-output.result Memory c.from_residual-in_err-output.ensures.1)
    (inl (wants (pairs m t s) ((Role.model, m) ∷ (Role.topology, t) ∷ (Role.symptoms, s) ∷ []) nodes old three after refl refl Memory refl))

pub returns-clause-comes : goal.returns-clause-comes
returns-clause-comes g c =
    let old = g.F.Files.tells c.args.files.now in
    let two = g.F.Files.tells c.read_network.new.files in
    let three = g.F.Files.tells c.read_as.new.files in
    let m = c.args.model in
    let t = c.args.topology in
    let s = c.args.symptoms in
    let net = network (topology_of c.in_ok-topology.topology) in
    let third = c.in_ok-raised.ensures.value in
    let (nodes, nodes_are, says) = third.says net refl in
    let after = passed_next (network_files m t) Role.symptoms s net old two three c.in_ok-topology.ensures.passed c.in_ok-raised.ensures.only third.text nodes third.read says in
    let files = (Role.model, m) ∷ (Role.topology, t) ∷ (Role.symptoms, s) ∷ [] in
    makes (pairs m t s) files (raised (topology_of c.in_ok-topology.topology) c.in_ok-raised.raised) old three
    (subst (λ (k : Known). Passed files k old three) nodes_are.0 after) refl refl (bytes_of_text c.in_ok-output.output.text) c.in_ok-output.output.fault
    (λ left whole. c.in_ok-output.ensures.gives whole)

pub returns-in_err-topology-clause-steps : goal.returns-in_err-topology-clause-steps
returns-in_err-topology-clause-steps g c =
    search_none (burst_reads c.args.model c.args.topology c.args.symptoms) (g.F.Files.tells c.args.files.now) c.args.steps.now c.args.steps.now refl

pub returns-in_err-raised-clause-steps : goal.returns-in_err-raised-clause-steps
returns-in_err-raised-clause-steps g c =
    search_none (burst_reads c.args.model c.args.topology c.args.symptoms) (g.F.Files.tells c.args.files.now) c.args.steps.now c.args.steps.now refl

pub returns-in_err-output-clause-steps : goal.returns-in_err-output-clause-steps
returns-in_err-output-clause-steps g c =
    search_counts (burst_reads c.args.model c.args.topology c.args.symptoms) (g.F.Files.tells c.args.files.now) (topology_of c.in_ok-topology.topology)
    c.args.steps.now c.fitting.new.steps c.in_ok-topology.ensures.passed.said c.fitting.ensures.cost

pub returns-clause-steps : goal.returns-clause-steps
returns-clause-steps g c =
    search_counts (burst_reads c.args.model c.args.topology c.args.symptoms) (g.F.Files.tells c.args.files.now) (topology_of c.in_ok-topology.topology)
    c.args.steps.now c.fitting.new.steps c.in_ok-topology.ensures.passed.said c.fitting.ensures.cost
