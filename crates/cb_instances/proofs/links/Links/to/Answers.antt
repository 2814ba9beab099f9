use Rattle.std.proofs.Common.{sym, ap, ◌∙◌, arith}
use Rattle.cb_instances.specs.Rows.{is_of, items_of}
use Rattle.cb_instances.proofs.RowLemmas.{found_read, none_found, place_within}
use Rattle.cb_instances.proofs.links.Links.to.Goals as goal

pub index-requires : goal.index-requires
index-requires c =
    let rows = c.args.self.now.rows in
    let within = place_within (is_of c.args.rel) rows.items c.in-Some.place (sym c.in-Some.ensures) in
    omega (arith, rows.ok.0, within)

pub returns-in-Some : goal.returns-in-Some
returns-in-Some c =
    let found = found_read (is_of c.args.rel) c.args.self.now.rows.items c.in-Some.place c.index.result.now (sym c.in-Some.ensures) c.index.ensures in
    c.deref.ensures.value ∙ ap items_of (sym found)

pub returns-in-None : goal.returns-in-None
returns-in-None c = ap items_of (sym (none_found (is_of c.args.rel) c.args.self.now.rows.items (sym c.in-None.ensures)))
