use Rattle.std.proofs.Common.{length, ◌∙◌}
use Rattle.cb_compact.proofs.Sharing.{listed_of, list_within, under_fits, under_is_apart}
use Rattle.cb_compact.proofs.compact.CompactRow.distance_to_under.Goals as goal

pub shared-own-requires : goal.shared-own-requires
shared-own-requires c =
    let v = c.args.self.now in
    let w = c.args.row.now in
    let list = c.as_slice-list.result.now in
    let are = c.as_slice-list.ensures.value ∙ listed_of v c.self.inside.kept c.self.inside.len c.self.inside.weight c.in-Places.places c.self.view_is c.self.invariant c.in-Places.is in
    list_within list v w are c.requires.same (length c.args.mask.now) c.requires.masked

pub shared_under-both-requires-clause-mask : goal.shared_under-both-requires-clause-mask
shared_under-both-requires-clause-mask c =
    let v = c.args.self.now in
    let w = c.args.row.now in
    let list = c.as_slice-list.result.now in
    let are = c.as_slice-list.ensures.value ∙ listed_of v c.self.inside.kept c.self.inside.len c.self.inside.weight c.in-Places.places c.self.view_is c.self.invariant c.in-Places.is in
    list_within list v w are c.requires.same (length c.args.mask.now) c.requires.masked

pub shared_under-both-requires-clause-row : goal.shared_under-both-requires-clause-row
shared_under-both-requires-clause-row c =
    let v = c.args.self.now in
    let w = c.args.row.now in
    let list = c.as_slice-list.result.now in
    let are = c.as_slice-list.ensures.value ∙ listed_of v c.self.inside.kept c.self.inside.len c.self.inside.weight c.in-Places.places c.self.view_is c.self.invariant c.in-Places.is in
    list_within list v w are c.requires.same (length w) c.requires.same

pub overflow_sub-result : goal.overflow_sub-result
overflow_sub-result c =
    let v = c.args.self.now in
    let w = c.args.row.now in
    let list = c.as_slice-list.result.now in
    let are = c.as_slice-list.ensures.value ∙ listed_of v c.self.inside.kept c.self.inside.len c.self.inside.weight c.in-Places.places c.self.view_is c.self.invariant c.in-Places.is in
    let fits = under_fits list v w are c.requires.same c.args.mask.now c.requires.masked c.shared-own.result c.shared_under-both.result c.words_under-missing.result c.ones-all.result c.shared-own.ensures c.shared_under-both.ensures c.words_under-missing.ensures c.ones-all.ensures in
    fits.0

pub overflow_sub-result-in-Places : goal.overflow_sub-result-in-Places
overflow_sub-result-in-Places c =
    let v = c.args.self.now in
    let w = c.args.row.now in
    let list = c.as_slice-list.result.now in
    let are = c.as_slice-list.ensures.value ∙ listed_of v c.self.inside.kept c.self.inside.len c.self.inside.weight c.in-Places.places c.self.view_is c.self.invariant c.in-Places.is in
    let fits = under_fits list v w are c.requires.same c.args.mask.now c.requires.masked c.shared-own.result c.shared_under-both.result c.words_under-missing.result c.ones-all.result c.shared-own.ensures c.shared_under-both.ensures c.words_under-missing.ensures c.ones-all.ensures in
    fits.1

pub overflow_sub-result-in-Places-2 : goal.overflow_sub-result-in-Places-2
overflow_sub-result-in-Places-2 c =
    let v = c.args.self.now in
    let w = c.args.row.now in
    let list = c.as_slice-list.result.now in
    let are = c.as_slice-list.ensures.value ∙ listed_of v c.self.inside.kept c.self.inside.len c.self.inside.weight c.in-Places.places c.self.view_is c.self.invariant c.in-Places.is in
    let fits = under_fits list v w are c.requires.same c.args.mask.now c.requires.masked c.shared-own.result c.shared_under-both.result c.words_under-missing.result c.ones-all.result c.shared-own.ensures c.shared_under-both.ensures c.words_under-missing.ensures c.ones-all.ensures in
    fits.2

pub returns-in-Places : goal.returns-in-Places
returns-in-Places c =
    let v = c.args.self.now in
    let w = c.args.row.now in
    let list = c.as_slice-list.result.now in
    let are = c.as_slice-list.ensures.value ∙ listed_of v c.self.inside.kept c.self.inside.len c.self.inside.weight c.in-Places.places c.self.view_is c.self.invariant c.in-Places.is in
    under_is_apart list v w are c.requires.same c.args.mask.now c.requires.masked c.shared-own.result c.shared_under-both.result c.words_under-missing.result c.ones-all.result c.shared-own.ensures c.shared_under-both.ensures c.words_under-missing.ensures c.ones-all.ensures
