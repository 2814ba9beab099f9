use Rattle.std.proofs.Common.{◌<◌, ◌++◌, [], ℕ, List, length, get_or, map, take, refl, sym, ap, subst, ◌∙◌, arith}
use Rattle.std.specs.List.{All, flat_map}
use Rattle.std.proofs.lemmas.List.{take_all}
use Rattle.std.proofs.lemmas.Option.{slice_get-get_or}
use Rattle.cb_chains.specs.Names.{name_by_number}
use Rattle.cb_report.specs.ChainTexts.{FitsPath, chain_line}
use Rattle.cb_report.proofs.Chained.{mapped}
use Rattle.cb_report.proofs.Gathers.{gathers_more, gathers_none, gathers_same, items_more}
use Rattle.cb_report.proofs.chain_lines.put_tree.Goals as goal

pub loop-at-init : goal.loop-at-init
loop-at-init g c = (refl, gathers_none (g.O.Sink.tells c.args.out.now) c.args.gathering.now)

pub put_chain_of-requires-clause-chains : goal.put_chain_of-requires-clause-chains
put_chain_of-requires-clause-chains g c = subst (λ k. All (FitsPath c.args.names.now k) c.args.tree.now) (sym c.loop-at.invariant.0) c.requires

pub loop-at-preserved : goal.loop-at-preserved
loop-at-preserved g c =
    let start = g.O.Sink.tells c.args.out.now in
    let now = g.O.Sink.tells c.put_chain_of.new.out in
    let tree = c.args.tree.now in
    let f : List ℕ → List ℕ = λ chain. chain_line (map (name_by_number c.args.names.now) chain) in
    let i = c.loop-at.at in
    let test = c.loop-at-test.true in
    let end = c.len-at-end.ensures in
    let low : i < length tree = omega (arith, test, end) in
    let chain = get_or tree i [] in (
      c.put_chain_of.ensures.capacity ∙ c.loop-at.invariant.0,
      gathers_same start now c.args.gathering.now c.put_chain_of.new.gathering (flat_map f (take i tree) ++ f chain) _ (items_more f [] tree i [] low)
          (gathers_more start (g.O.Sink.tells c.loop-at.out) now c.args.gathering.now c.loop-at.gathering c.put_chain_of.new.gathering
          (flat_map f (take i tree)) (f chain) c.loop-at.invariant.1 (c.put_chain_of.ensures.text chain (slice_get-get_or tree i [] low))),
    )

pub returns-clause-text : goal.returns-clause-text
returns-clause-text g c =
    let past = c.loop-at-test.false in
    let end = c.len-at-end.ensures in
    let f : List ℕ → List ℕ = λ chain. chain_line (map (name_by_number c.args.names.now) chain) in
    gathers_same (g.O.Sink.tells c.args.out.now) (g.O.Sink.tells c.loop-at.out) c.args.gathering.now c.loop-at.gathering (flat_map f (take c.loop-at.at c.args.tree.now)) _
    (ap (flat_map f) (take_all c.loop-at.at c.args.tree.now (omega (arith, past, end))) ∙ sym (mapped chain_line (map (name_by_number c.args.names.now)) c.args.tree.now))
    c.loop-at.invariant.1
