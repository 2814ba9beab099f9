use Rattle.std.proofs.Common.{◌++◌, [], length, take, refl, sym, ap, subst, ◌∙◌, arith}
use Rattle.std.specs.List.{All, flat_map}
use Rattle.std.proofs.lemmas.List.{take_all}
use Rattle.cb_model.proofs.Numbers.{all_at, read_at}
use Rattle.cb_report.specs.ChainTexts.{FitsPath}
use Rattle.cb_report.proofs.Chained.{tree_lines, lines_of_trees}
use Rattle.cb_report.proofs.Gathers.{gathers_more, gathers_none, gathers_same, items_read}
use Rattle.cb_report.proofs.chain_lines.put_trees.Goals as goal

pub loop-tree-init : goal.loop-tree-init
loop-tree-init g c = (refl, gathers_none (g.O.Sink.tells c.args.out.now) c.args.gathering.now)

pub put_tree-requires : goal.put_tree-requires
put_tree-requires g c =
    let names = c.args.names.now in
    let trees = c.args.trees.now in
    let i = c.loop-tree.tree-index in
    let at = read_at trees c.as_slice-tree-items.result.now i c.tree-item.result c.as_slice-tree-items.ensures c.loop-tree-test.true c.tree-item.is in
    subst (λ k. All (FitsPath names k) c.tree-item.result) (sym c.loop-tree.invariant.0)
    (all_at (All (FitsPath names (length c.args.path.now.items))) trees i c.tree-item.result at c.requires)

pub loop-tree-preserved : goal.loop-tree-preserved
loop-tree-preserved g c =
    let start = g.O.Sink.tells c.args.out.now in
    let now = g.O.Sink.tells c.put_tree.new.out in
    let trees = c.args.trees.now in
    let f = tree_lines c.args.names.now in
    let i = c.loop-tree.tree-index in (
      c.put_tree.ensures.capacity ∙ c.loop-tree.invariant.0,
      gathers_same start now c.args.gathering.now c.put_tree.new.gathering (flat_map f (take i trees) ++ f c.tree-item.result) _
          (items_read f [] trees c.as_slice-tree-items.result.now i c.tree-item.result c.as_slice-tree-items.ensures c.loop-tree-test.true c.tree-item.is)
          (gathers_more start (g.O.Sink.tells c.loop-tree.out) now c.args.gathering.now c.loop-tree.gathering c.put_tree.new.gathering
          (flat_map f (take i trees)) (f c.tree-item.result) c.loop-tree.invariant.1 c.put_tree.ensures.text),
    )

pub returns-clause-text : goal.returns-clause-text
returns-clause-text g c =
    let trees = c.args.trees.now in
    let f = tree_lines c.args.names.now in
    let same = ap length c.as_slice-tree-items.ensures in
    let past = c.loop-tree-test.false in
    gathers_same (g.O.Sink.tells c.args.out.now) (g.O.Sink.tells c.loop-tree.out) c.args.gathering.now c.loop-tree.gathering (flat_map f (take c.loop-tree.tree-index trees)) _
    (ap (flat_map f) (take_all c.loop-tree.tree-index trees (omega (arith, same, past))) ∙ lines_of_trees c.args.names.now trees) c.loop-tree.invariant.1
