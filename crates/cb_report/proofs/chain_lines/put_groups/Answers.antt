use Rattle.std.proofs.Common.{◌+◌, ◌++◌, ℕ, List, length, map, take, sym, ap, subst, ◌∙◌, refl, arith}
use Rattle.std.specs.List.{All, flat_map}
use Rattle.std.proofs.lemmas.List.{take_all}
use Rattle.cb_model.proofs.Numbers.{all_at}
use Rattle.cb_model.specs.declared.node.NamedGroup.{NamedGroup}
use Rattle.cb_chains.specs.Names.{named_chains}
use Rattle.cb_report.specs.ChainTexts.{FitsPath, chain_line, explained_groups}
use Rattle.cb_report.specs.Lines.{group_line}
use Rattle.cb_report.proofs.Chained.{group_added}
use Rattle.cb_report.proofs.Gathers.{gathers_more, gathers_none, gathers_same}
use Rattle.cb_report.proofs.chain_lines.put_groups.Goals as goal

pub loop-place-init : goal.loop-place-init
loop-place-init g c = (refl, gathers_none (g.O.Sink.tells c.args.out.now) c.args.gathering.now)

pub put_trees-requires : goal.put_trees-requires
put_trees-requires g c =
    let names = c.args.names.now in
    subst (λ k. All (All (FitsPath names k)) c.at-in-loop-place.result.now) (sym c.loop-place.invariant.0)
    (all_at (All (All (FitsPath names (length c.args.path.now.items)))) c.args.trees.now c.loop-place.place c.at-in-loop-place.result.now c.at-in-loop-place.ensures c.requires.chains)

pub loop-place-preserved : goal.loop-place-preserved
loop-place-preserved g c =
    let start = g.O.Sink.tells c.args.out.now in
    let begun = g.O.Sink.tells c.put_group.new.out in
    let now = g.O.Sink.tells c.put_trees.new.out in
    let groups = c.args.groups.now in
    let trees = c.args.trees.now in
    let f = named_chains c.args.names.now in
    let i = c.loop-place.place in
    let lines = explained_groups (take i groups) (map f (take i trees)) in
    let line = group_line c.at.result.now in
    let chains = flat_map chain_line (f c.at-in-loop-place.result.now) in (
      c.put_trees.ensures.capacity ∙ c.loop-place.invariant.0,
      gathers_same start now c.args.gathering.now c.put_trees.new.gathering (lines ++ line ++ chains) (explained_groups (take (i + 1) groups) (map f (take (i + 1) trees)))
          (group_added f groups trees i c.at.result.now c.at-in-loop-place.result.now c.at.ensures c.at-in-loop-place.ensures)
          (gathers_more start begun now c.args.gathering.now c.put_group.new.gathering c.put_trees.new.gathering (lines ++ line) chains
          (gathers_more start (g.O.Sink.tells c.loop-place.out) begun c.args.gathering.now c.loop-place.gathering c.put_group.new.gathering lines line
          c.loop-place.invariant.1 c.put_group.ensures) c.put_trees.ensures.text),
    )

pub returns : goal.returns
returns g c =
    let past = c.loop-place-test.false in
    let end = c.len-place-end.ensures in
    let same = c.requires.groups in
    gathers_same (g.O.Sink.tells c.args.out.now) (g.O.Sink.tells c.loop-place.out) c.args.gathering.now c.loop-place.gathering _ _
    (ap (λ (gs : List NamedGroup). explained_groups gs (map (named_chains c.args.names.now) (take c.loop-place.place c.args.trees.now)))
    (take_all c.loop-place.place c.args.groups.now (omega (arith, past, end)))
    ∙ ap (λ (ts : List (List (List (List ℕ)))). explained_groups c.args.groups.now (map (named_chains c.args.names.now) ts))
    (take_all c.loop-place.place c.args.trees.now (omega (arith, past, end, same)))) c.loop-place.invariant.1
