use Rattle.std.proofs.Common.{◌≡◌, ◌-◌, ℕ, List, length, drop, take, map, sym, ap, subst, ◌∙◌}
use Rattle.std.specs.List.{All}
use Rattle.std.proofs.lemmas.List.{take_rest}
use Rattle.std.proofs.lemmas.Option.{same_Some}
use Rattle.cb_model.proofs.Numbers.{all_at}
use Rattle.cb_chains.specs.Names.{IsNamedNumber, name_by_number}
use Rattle.cb_report.specs.ChainTexts.{FitsPath, chain_line}
use Rattle.cb_report.proofs.Gathers.{gathers_same}
use Rattle.cb_report.proofs.chain_lines.put_chain_of.Goals as goal

pub put_chain-requires : goal.put_chain-requires
put_chain-requires g c =
    let path = c.deref.result.now in
    let start = c.write_chain-start.result in
    let chain = drop start c.write_chain-start.new.path.items in
    let whole = take_rest path start ∙ ap (drop start) c.deref.ensures.value in
    subst (All (IsNamedNumber c.args.names.now)) (sym whole)
    (all_at (FitsPath c.args.names.now (length c.args.path.now.items)) c.args.tree.now c.args.at chain c.write_chain-start.ensures.chain c.requires.chains).named

pub returns-clause-text : goal.returns-clause-text
returns-clause-text g c = λ chain at.
    let path = c.deref.result.now in
    let start = c.write_chain-start.result in
    let written = drop start c.write_chain-start.new.path.items in
    let whole = take_rest path start ∙ ap (drop start) c.deref.ensures.value in
    let same : written ≡ chain = same_Some written chain (sym c.write_chain-start.ensures.chain ∙ at) in
    gathers_same (g.O.Sink.tells c.args.out.now) (g.O.Sink.tells c.put_chain.new.out) c.args.gathering.now c.put_chain.new.gathering
    (chain_line (map (name_by_number c.args.names.now) (take (length path - start) (drop start path)))) (chain_line (map (name_by_number c.args.names.now) chain))
    (ap (λ (l : List ℕ). chain_line (map (name_by_number c.args.names.now) l)) (whole ∙ same)) c.put_chain.ensures
