use Rattle.std.proofs.Common.{sym, ap, ◌∙◌}
use Rattle.cb_lanes.specs.Words.{bit_of}
use Rattle.cb_cache.proofs.Visiting.{row_reached, joined_followed, joined_visits, joined_before, added_visits, added_followed}
use Rattle.cb_cache.proofs.search.visit.Goals as goal

pub returns-then-has_bit-clause-visits : goal.returns-then-has_bit-clause-visits
returns-then-has_bit-clause-visits g c =
    joined_before (g.G.Edges.edge c.args.graph.now) c.args.node c.args.found.now c.args.joined.now.items
    (ap (λ words. bit_of words c.args.node) (sym c.deref.ensures.value) ∙ sym c.has_bit.ensures ∙ c.if-has_bit.true) c.requires.followed

pub returns-in-Some-clause-followed : goal.returns-in-Some-clause-followed
returns-in-Some-clause-followed g c =
    let edge = g.G.Edges.edge c.args.graph.now in
    let reached = row_reached edge c.args.node c.args.pool.now c.in-Some.slot c.row.result.now c.row.ensures.row (c.requires.rows c.args.node c.in-Some.slot c.in-Some.ensures) in
    joined_followed edge c.args.node _ _ _ c.args.found.now reached c.join.ensures.joined c.requires.followed

pub returns-in-Some-clause-visits : goal.returns-in-Some-clause-visits
returns-in-Some-clause-visits g c =
    let edge = g.G.Edges.edge c.args.graph.now in
    let reached = row_reached edge c.args.node c.args.pool.now c.in-Some.slot c.row.result.now c.row.ensures.row (c.requires.rows c.args.node c.in-Some.slot c.in-Some.ensures) in
    joined_visits edge c.args.node _ _ _ c.args.found.now reached c.join.ensures.joined

pub returns-in-None-clause-followed : goal.returns-in-None-clause-followed
returns-in-None-clause-followed g c = added_followed (g.G.Edges.edge c.args.graph.now) c.args.node _ _ _ c.add_successors.ensures.row c.requires.followed

pub returns-in-None-clause-visits : goal.returns-in-None-clause-visits
returns-in-None-clause-visits g c = added_visits (g.G.Edges.edge c.args.graph.now) c.args.node _ _ _ c.add_successors.ensures.row
