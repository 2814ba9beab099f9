-- What each way out of `codebook` shows.
use Rattle.std.proofs.Common.{[], refl, inl}
use Rattle.cb_topo.specs.Numbered.{topology_of}
use Rattle.cb_outcome.specs.Commands.Codebook.{codebook}
use Rattle.cb_outcome.specs.Command.{reads_of}
use Rattle.cb_report.specs.declared.fault.Fault.TheVariants.{Memory}
use Rattle.cb_outcome.specs.Judged.{network}
use Rattle.cb_file_kinds.specs.Ending.{network_files}
use Rattle.cb_report.specs.Text.{bytes_of_text}
use Rattle.cb_file_kinds.proofs.Chain.{err_is, makes, wants}
use Rattle.cb_network_commands.proofs.Writing.{can_be_written, codebook_gives, wish_may_be_wanted}
use Rattle.cb_network_commands.proofs.codebook.codebook.Goals as goal

pub returns-in_err-topology : goal.returns-in_err-topology
returns-in_err-topology g c =
    rw (err_is _ _ c.from_residual.ensures.1) (c.in_err-topology.ensures.stops (reads_of (codebook c.args.model c.args.topology c.args.wish)) [] refl)

pub codebook_of-requires : goal.codebook_of-requires
codebook_of-requires g c = wish_may_be_wanted c.args.wish c.requires

pub returns-in_err-made : goal.returns-in_err-made
returns-in_err-made g c =
    let old = g.F.Files.tells c.args.files.now in
    let two = g.F.Files.tells c.read_network.new.files in
    let m = c.args.model in
    let t = c.args.topology in
    rw (err_is c.from_residual-in_err-made.result Memory c.from_residual-in_err-made.ensures.1)
    (inl (wants (codebook m t c.args.wish) (network_files m t) (network (topology_of c.in_ok-topology.topology)) old two c.in_ok-topology.ensures.passed refl refl Memory refl))

pub written-requires : goal.written-requires
written-requires g c = can_be_written (topology_of c.in_ok-topology.topology) c.args.wish c.in_ok-made.made c.in_ok-made.ensures

pub returns-in_err-output : goal.returns-in_err-output
returns-in_err-output g c =
    let old = g.F.Files.tells c.args.files.now in
    let two = g.F.Files.tells c.read_network.new.files in
    let m = c.args.model in
    let t = c.args.topology in
    rw (err_is c.from_residual-in_err-output.result Memory c.from_residual-in_err-output.ensures.1)
    (inl (wants (codebook m t c.args.wish) (network_files m t) (network (topology_of c.in_ok-topology.topology)) old two c.in_ok-topology.ensures.passed refl refl Memory refl))

pub returns : goal.returns
returns g c =
    let old = g.F.Files.tells c.args.files.now in
    let two = g.F.Files.tells c.read_network.new.files in
    let m = c.args.model in
    let t = c.args.topology in
    let net = topology_of c.in_ok-topology.topology in
    let output = c.in_ok-output.output in
    makes (codebook m t c.args.wish) (network_files m t) (network net) old two c.in_ok-topology.ensures.passed refl refl _ _
    (λ left whole. codebook_gives net c.args.wish whole c.in_ok-made.made (bytes_of_text output.text) output.fault c.in_ok-made.ensures c.in_ok-output.ensures)
