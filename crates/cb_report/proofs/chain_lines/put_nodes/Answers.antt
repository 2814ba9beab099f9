use Rattle.std.proofs.Common.{◌≡◌, [], ◌++◌, ℕ, get_or, take, List, sym, ap, ◌∙◌}
use Rattle.std.specs.List.{flat_map}
use Rattle.std.proofs.lemmas.List.{take_all}
use Rattle.cb_chains.specs.Names.{name_by_number}
use Rattle.cb_report.specs.Lines.{spaced_text}
use Rattle.cb_report.proofs.Chained.{mapped, name_is}
use Rattle.cb_report.proofs.Gathers.{gathers_more, gathers_none, gathers_same, items_more}
use Rattle.cb_report.proofs.chain_lines.put_nodes.Goals as goal

pub loop-node-init : goal.loop-node-init
loop-node-init g c = gathers_none (g.O.Sink.tells c.args.out.now) c.args.gathering.now

pub at-requires : goal.at-requires
at-requires g c = c.requires c.loop-node.node-index 0 c.loop-node-test.true

pub loop-node-preserved : goal.loop-node-preserved
loop-node-preserved g c =
    let start = g.O.Sink.tells c.args.out.now in
    let now = g.O.Sink.tells c.put_node.new.out in
    let before = g.O.Sink.tells c.loop-node.out in
    let nodes = c.args.nodes.now in
    let names = c.args.names.now in
    let f : ℕ → List ℕ = λ node. spaced_text (name_by_number names node) in
    let i = c.loop-node.node-index in
    let node = get_or nodes i 0 in
    let same : spaced_text c.at.result.now ≡ f node = ap spaced_text (sym (name_is names node c.at.result.now c.at.ensures)) in
    gathers_same start now c.args.gathering.now c.put_node.new.gathering (flat_map f (take i nodes) ++ f node) _ (items_more f [] nodes i 0 c.loop-node-test.true)
    (gathers_more start before now c.args.gathering.now c.loop-node.gathering c.put_node.new.gathering (flat_map f (take i nodes)) (f node) c.loop-node.invariant
    (gathers_same before now c.loop-node.gathering c.put_node.new.gathering (spaced_text c.at.result.now) (f node) same c.put_node.ensures))

pub returns : goal.returns
returns g c =
    let past = c.loop-node-test.false in
    let f : ℕ → List ℕ = λ node. spaced_text (name_by_number c.args.names.now node) in
    gathers_same (g.O.Sink.tells c.args.out.now) (g.O.Sink.tells c.loop-node.out) c.args.gathering.now c.loop-node.gathering
    (flat_map f (take c.loop-node.node-index c.args.nodes.now)) _
    (ap (flat_map f) (take_all c.loop-node.node-index c.args.nodes.now past) ∙ sym (mapped spaced_text (name_by_number c.args.names.now) c.args.nodes.now))
    c.loop-node.invariant
