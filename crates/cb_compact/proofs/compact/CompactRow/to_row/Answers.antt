use Rattle.std.proofs.Common.{length, refl, sym, ap, ◌∙◌}
use Rattle.cb_compact.proofs.Sharing.{listed_of, list_within}
use Rattle.cb_compact.proofs.compact.CompactRow.to_row.Goals as goal

pub row_at-requires : goal.row_at-requires
row_at-requires c =
    let v = c.args.self.now in
    let are = c.as_slice.ensures.value ∙ listed_of v c.self.inside.kept c.self.inside.len c.self.inside.weight c.in-Places.places c.self.view_is c.self.invariant c.in-Places.is in
    list_within c.as_slice.result.now v v are refl c.self.inside.len (sym (ap length c.self.view_is) ∙ c.self.invariant.long)
