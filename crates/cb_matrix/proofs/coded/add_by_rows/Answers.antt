use Rattle.std.proofs.Common.{◌≡◌, ◌<◌, length, take, replicate, slice_index_or, sym, ap, subst, ◌∙◌, arith}
use Rattle.std.proofs.lemmas.List.{take_all}
use Rattle.std.proofs.lemmas.List.Elements.{Contains-get_or}
use Rattle.cb_nodes.specs.declared.id.NodeId.{NodeId}
use Rattle.cb_codes.specs.Grouped.{problem_of, FitsTogether}
use Rattle.cb_matrix.specs.Coded.{AddsCodedProblems, AddsOne, IsProblemAt}
use Rattle.cb_matrix.proofs.Matched.{code_of_reached, new_coder}
use Rattle.cb_matrix.proofs.Held.{none_added, one_added}
use Rattle.cb_matrix.proofs.coded.add_by_rows.Goals as goal

pub loop-node-init : goal.loop-node-init
loop-node-init c = record {
  adds = none_added c.args.topology.now c.args.columns.now c.args.grouping.now;
  sound = c.requires.sound;
  coder = new_coder c.args.rows.now c.args.columns.now c.in_ok-coder.coder (c.in_ok-coder.ensures.none ∙ ap (λ width. replicate width 0) c.width.ensures) c.in_ok-coder.ensures.last
      c.in_ok-coder.ensures.code;
}

pub copy_name-requires : goal.copy_name-requires
copy_name-requires c = c.requires.live c.loop-node.node-index (record { 0 = 0 }) c.loop-node-test.true

pub code_of-requires-clause-row : goal.code_of-requires-clause-row
code_of-requires-clause-row c =
    let zero : NodeId = record { 0 = 0 } in
    let ids = c.args.nodes.now in
    let i = c.loop-node.node-index in
    let reached = c.requires.rows.each (slice_index_or ids i zero) (Contains-get_or ids i zero c.loop-node-test.true) in
    (reached.0, reached.1)

pub add-requires : goal.add-requires
add-requires c =
    let (words, row, coded) = c.in_ok-code.ensures.code in
    record { sound = subst (λ width. FitsTogether width c.loop-node.grouping) (sym coded.width) c.loop-node.invariant.sound }

pub loop-node-preserved : goal.loop-node-preserved
loop-node-preserved c =
    let zero : NodeId = record { 0 = 0 } in
    let n = c.args.topology.now in
    let ids = c.args.nodes.now in
    let columns = c.args.columns.now in
    let i = c.loop-node.node-index in
    let id = slice_index_or ids i zero in
    let low : i < length ids = c.loop-node-test.true in
    let code = code_of_reached n c.args.rows.now columns id c.in_ok-code.code (c.requires.rows.each id (Contains-get_or ids i zero low)) c.in_ok-code.ensures.code in
    let p = problem_of c.in_ok-name.name c.in_ok-code.code in
    let is : IsProblemAt n columns id p = record { named = c.in_ok-name.ensures; coded = code } in
    let adds : AddsOne p c.loop-node.grouping c.add.new.self = record { sound = c.in_ok-add.ensures.sound; added = c.in_ok-add.ensures.added; holds = c.in_ok-add.ensures.holds } in
    record {
      adds = one_added n columns ids i zero p c.args.grouping.now c.loop-node.grouping _ low is adds c.loop-node.invariant.adds;
      sound = subst (λ width. FitsTogether width c.add.new.self) code.width c.in_ok-add.ensures.sound;
      coder = c.in_ok-code.ensures.coder;
    }

pub returns : goal.returns
returns c =
    let n = c.args.topology.now in
    let ids = c.args.nodes.now in
    let i = c.loop-node.node-index in
    let all : take i ids ≡ ids = take_all i ids (omega (arith, c.loop-node-test.false)) in
    subst (λ xs. AddsCodedProblems n c.args.columns.now xs c.args.grouping.now c.loop-node.grouping) all c.loop-node.invariant.adds
