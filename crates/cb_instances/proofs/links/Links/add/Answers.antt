use Rattle.std.proofs.Common.{◌≡◌, ◌<◌, ◌++◌, ◌∷◌, [], Some, None, sym, ap, subst, ◌∙◌, arith, vec_len, vec_capacity}
use Rattle.std.specs.Prelude.{slice_set}
use Rattle.cb_instances.specs.declared.links.LinkRow.{LinkRow}
use Rattle.cb_instances.specs.Rows.{is_of, items_of, row_of, Puts}
use Rattle.cb_instances.proofs.RowLemmas.{found_read, none_found, read_passes, place_within, set_puts}
use Rattle.cb_instances.proofs.links.Links.add.Goals as goal

pub index_mut-requires : goal.index_mut-requires
index_mut-requires c =
    let rows = c.args.self.now.rows in
    let within = place_within (is_of c.args.rel) rows.items c.in-Some.place (sym c.in-Some.ensures) in
    omega (arith, rows.ok.0, within)

pub push_reserved-requires : goal.push_reserved-requires
push_reserved-requires c =
    let x = c.index_mut.result.now in
    let found = found_read (is_of c.args.rel) c.args.self.now.rows.items c.in-Some.place x (sym c.in-Some.ensures) c.index_mut.ensures.value in
    let both : Some c.requires.0 ≡ Some x = sym c.requires.1 ∙ found in
    let same : c.requires.0 ≡ x = cc in
    subst (λ (z : LinkRow). vec_len z.to < vec_capacity z.to) same c.requires.2

pub returns-in-Some : goal.returns-in-Some
returns-in-Some c =
    let rows = c.args.self.now.rows.items in
    let x = c.index_mut.result.now in
    let at = sym c.in-Some.ensures in
    let of_rel = read_passes (is_of c.args.rel) rows c.in-Some.place x at c.index_mut.ensures.value in
    let new : LinkRow = record { rel = x.rel; to = c.push_reserved.new.self } in
    let found = found_read (is_of c.args.rel) rows c.in-Some.place x at c.index_mut.ensures.value in
    let items : new.to.items ≡ row_of rows c.args.rel ++ c.args.to ∷ [] = c.push_reserved.ensures.items ∙ ap (λ o. items_of o ++ c.args.to ∷ []) (sym found) in
    subst (Puts rows (slice_set rows c.in-Some.place new) c.args.rel) items (set_puts rows c.args.rel c.in-Some.place at new of_rel)

pub returns-in_default : goal.returns-in_default
returns-in_default c =
    let none = none_found (is_of c.args.rel) c.args.self.now.rows.items (sym c.in_default.ensures) in
    let both : None ≡ Some c.requires.0 = sym none ∙ c.requires.1 in
    absurd (cc)
