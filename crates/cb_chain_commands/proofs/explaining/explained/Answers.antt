use Rattle.std.proofs.Common.{map, arith}
use Rattle.std.proofs.lemmas.List.{length-map}
use Rattle.std.proofs.lemmas.Result.{IfOk-weaker}
use Rattle.std.proofs.lemmas.Slice.Zip.{AllZip-long}
use Rattle.cb_model.specs.declared.node.NamedGroup.{NamedGroup}
use Rattle.cb_topo.specs.Numbered.{topology_of}
use Rattle.cb_chains.specs.Names.{named_chains}
use Rattle.cb_outcome.specs.Explained.{ExplainsMembers}
use Rattle.cb_chain_commands.proofs.Finding.{explainable_groups}
use Rattle.cb_chain_commands.proofs.explaining.explained.Goals as goal

pub chains_of-requires : goal.chains_of-requires
chains_of-requires g c = λ columns all.
    explainable_groups (topology_of c.args.graph) c.requires.0 c.args.finding c.requires.1 columns all

pub of-requires-clause-groups : goal.of-requires-clause-groups
of-requires-clause-groups g c =
    let burst = c.requires.1 in
    let chains = c.in-Ok.chains in
    let named = map (named_chains chains.names) chains.trees in
    let explains = c.in-Ok.ensures.chains burst.columns burst.matrix.columns_are in
    let long = AllZip-long (λ (group : NamedGroup). ExplainsMembers (topology_of c.args.graph) burst.columns group.members) c.args.finding.groups named explains in
    let same = length-map chains.trees (named_chains chains.names) in
    omega arith

pub returns-in-Ok-clause-lines : goal.returns-in-Ok-clause-lines
returns-in-Ok-clause-lines g c =
    let chains = c.in-Ok.chains in
    IfOk-weaker c.of.result _ _ (λ lines is. λ raised burst.
    (map (named_chains chains.names) chains.trees, c.in-Ok.ensures.chains burst.columns burst.matrix.columns_are, is)) c.of.ensures
