use Rattle.std.proofs.Common.{◌≡◌, ◌≤◌, ◌+◌, ◌++◌, ◌∷◌, [], sym, ap, subst, ◌∙◌, arith, vec_len, vec_capacity}
use Rattle.std.specs.Prelude.{slice_set}
use Rattle.cb_instances.specs.declared.links.LinkRow.{LinkRow}
use Rattle.cb_instances.specs.Rows.{is_of, items_of, row_of, Puts, HasSpare}
use Rattle.cb_instances.proofs.RowLemmas.{on_ok, found_read, none_found, read_passes, place_within, set_puts, set_this, push_puts, push_this}
use Rattle.cb_instances.proofs.links.Links.reserve.Goals as goal

pub index_mut-requires : goal.index_mut-requires
index_mut-requires c =
    let rows = c.args.self.now.rows in
    let within = place_within (is_of c.args.rel) rows.items c.in-Some.place (sym c.in-Some.ensures) in
    omega (arith, rows.ok.0, within)

pub returns-in-Some-clause-same : goal.returns-in-Some-clause-same
returns-in-Some-clause-same c =
    let rows = c.args.self.now.rows.items in
    let x = c.index_mut.result.now in
    let at = sym c.in-Some.ensures in
    let of_rel = read_passes (is_of c.args.rel) rows c.in-Some.place x at c.index_mut.ensures.value in
    let new : LinkRow = record { rel = x.rel; to = c.reserve.new.self } in
    let items : new.to.items ≡ row_of rows c.args.rel = c.reserve.ensures.items ∙ ap items_of (sym (found_read (is_of c.args.rel) rows c.in-Some.place x at c.index_mut.ensures.value)) in
    subst (Puts rows (slice_set rows c.in-Some.place new) c.args.rel) items (set_puts rows c.args.rel c.in-Some.place at new of_rel)

pub returns-in-Some-clause-spare : goal.returns-in-Some-clause-spare
returns-in-Some-clause-spare c =
    let rows = c.args.self.now.rows.items in
    let x = c.index_mut.result.now in
    let at = sym c.in-Some.ensures in
    let of_rel = read_passes (is_of c.args.rel) rows c.in-Some.place x at c.index_mut.ensures.value in
    let new : LinkRow = record { rel = x.rel; to = c.reserve.new.self } in
    on_ok c.reserve.result (vec_len new.to + 1 ≤ vec_capacity new.to) (HasSpare (slice_set rows c.in-Some.place new) c.args.rel)
    (λ capacity. (new, set_this rows c.args.rel c.in-Some.place at new of_rel, omega arith))
    c.reserve.ensures.ok

pub returns-in_ok-push-in-None-clause-same : goal.returns-in_ok-push-in-None-clause-same
returns-in_ok-push-in-None-clause-same c =
    let rows = c.args.self.now.rows.items in
    let new : LinkRow = record { rel = c.args.rel; to = c.in_ok-to-in-None.to } in
    let none = none_found (is_of c.args.rel) rows (sym c.in-None.ensures) in
    let items : new.to.items ≡ row_of rows c.args.rel = c.in_ok-to-in-None.ensures.items ∙ ap items_of (sym none) in
    subst (λ now. Puts rows now c.args.rel (row_of rows c.args.rel)) (sym c.in_ok-push-in-None.ensures.items) (subst (Puts rows (rows ++ new ∷ []) c.args.rel) items (push_puts new rows none))

pub returns-in_ok-push-in-None-clause-spare : goal.returns-in_ok-push-in-None-clause-spare
returns-in_ok-push-in-None-clause-spare c =
    let rows = c.args.self.now.rows.items in
    let new : LinkRow = record { rel = c.args.rel; to = c.in_ok-to-in-None.to } in
    let none = none_found (is_of c.args.rel) rows (sym c.in-None.ensures) in
    subst (λ now. HasSpare now c.args.rel) (sym c.in_ok-push-in-None.ensures.items) (new, push_this new rows none, omega (arith, c.in_ok-to-in-None.ensures.len, c.in_ok-to-in-None.ensures.capacity))
