use Rattle.std.proofs.Common.{◌≡◌, ◌++◌, ◌-◌, codes, decimal, length, map, subst, arith}
use Rattle.std.specs.List.{flat_map}
use Rattle.std.proofs.lemmas.List.{length-map}
use Rattle.cb_chains.specs.Names.{name_by_number}
use Rattle.cb_report.specs.Lines.{spaced_text}
use Rattle.cb_report.specs.Gathered.{Gathers}
use Rattle.cb_report.proofs.Gathers.{gathers_more}
use Rattle.cb_report.proofs.chain_lines.put_chain.Goals as goal

pub returns : goal.returns
returns g c =
    let start = g.O.Sink.tells c.args.out.now in
    let begun = g.O.Sink.tells c.put_number.new.out in
    let listed = g.O.Sink.tells c.put_nodes.new.out in
    let ended = g.O.Sink.tells c.put.new.out in
    let old = c.args.gathering.now in
    let named = map (name_by_number c.args.names.now) c.args.chain.now in
    let nodes = flat_map spaced_text named in
    let long = length-map c.args.chain.now (name_by_number c.args.names.now) in
    let edges : c.saturating_sub-edges.result ≡ length named - 1 = omega arith in
    subst (λ k. Gathers start ended old c.put.new.self ((codes "    chain " ++ decimal k) ++ nodes ++ codes "\n")) edges
    (gathers_more start listed ended old c.put_nodes.new.gathering c.put.new.self
    ((codes "    chain " ++ decimal c.saturating_sub-edges.result) ++ nodes) (codes "\n")
    (gathers_more start begun listed old c.put_number.new.gathering c.put_nodes.new.gathering (codes "    chain " ++ decimal c.saturating_sub-edges.result) nodes
    c.put_number.ensures c.put_nodes.ensures) c.put.ensures)
