use Rattle.std.proofs.Common.{◌≡◌, List, [], sym, ap, subst, arith}
use Rattle.std.specs.Prelude.{slice_set}
use Rattle.cb_instances.specs.Items.{Loses}
use Rattle.cb_instances.specs.declared.links.LinkRow.{LinkRow}
use Rattle.cb_instances.specs.Rows.{is_of, items_of, Puts, row_of}
use Rattle.cb_instances.proofs.Losing.{decides_id, loses_nothing}
use Rattle.cb_instances.proofs.RowLemmas.{found_read, none_found, keeps_puts, read_passes, place_within, set_puts}
use Rattle.cb_instances.proofs.links.Links.remove.Goals as goal

pub index_mut-requires : goal.index_mut-requires
index_mut-requires c =
    let rows = c.args.self.now.rows in
    let within = place_within (is_of c.args.rel) rows.items c.in-Some.place (sym c.in-Some.ensures) in
    omega (arith, rows.ok.0, within)

pub take_out-requires : goal.take_out-requires
take_out-requires c = record { exact = decides_id }

pub returns-in-Some : goal.returns-in-Some
returns-in-Some c =
    let rows = c.args.self.now.rows.items in
    let x = c.index_mut.result.now in
    let at = sym c.in-Some.ensures in
    let of_rel = read_passes (is_of c.args.rel) rows c.in-Some.place x at c.index_mut.ensures.value in
    let new : LinkRow = record { rel = x.rel; to = c.take_out.new.list } in
    let puts = set_puts rows c.args.rel c.in-Some.place at new of_rel in
    let after = slice_set rows c.in-Some.place new in
    let before : x.to.items ≡ row_of rows c.args.rel = ap items_of (sym (found_read (is_of c.args.rel) rows c.in-Some.place x at c.index_mut.ensures.value)) in
    record {
      puts = subst (Puts rows after c.args.rel) (sym puts.this) puts;
      loses = subst (Loses c.args.to (row_of rows c.args.rel)) (sym puts.this) (subst (λ xs. Loses c.args.to xs new.to.items) before c.take_out.ensures.loses);
    }

pub returns-in_default : goal.returns-in_default
returns-in_default c =
    let rows = c.args.self.now.rows.items in
    let none : row_of rows c.args.rel ≡ [] = ap items_of (none_found (is_of c.args.rel) rows (sym c.in_default.ensures)) in
    record {
      puts = keeps_puts rows c.args.rel;
      loses = subst (λ xs. Loses c.args.to xs xs) (sym none) (loses_nothing c.args.to);
    }
