use Rattle.std.proofs.Common.{length, ◌+◌, ◌-◌, ◌∙◌, arith}
use Rattle.cb_compact.proofs.Sharing.{listed_of, list_within, shared_fits, apart_is, apart_fits, below_is}
use Rattle.cb_compact.proofs.compact.CompactRow.distance_to_below.Goals as goal

pub shared-both-requires : goal.shared-both-requires
shared-both-requires c =
    let v = c.args.self.now in
    let w = c.args.row.now in
    let list = c.as_slice-list.result.now in
    let are = c.as_slice-list.ensures.value ∙ listed_of v c.self.inside.kept c.self.inside.len c.self.inside.weight c.in-Places.places c.self.view_is c.self.invariant c.in-Places.is in
    list_within list v w are c.requires.same (length w) c.requires.same

pub overflow_sub-distance : goal.overflow_sub-distance
overflow_sub-distance c =
    let v = c.args.self.now in
    let w = c.args.row.now in
    let list = c.as_slice-list.result.now in
    let are = c.as_slice-list.ensures.value ∙ listed_of v c.self.inside.kept c.self.inside.len c.self.inside.weight c.in-Places.places c.self.view_is c.self.invariant c.in-Places.is in
    let fits = shared_fits list v w are c.requires.same c.shared-both.result c.args.ones c.shared-both.ensures c.requires.ones in
    fits.0

pub overflow_sub-distance-in-Places : goal.overflow_sub-distance-in-Places
overflow_sub-distance-in-Places c =
    let v = c.args.self.now in
    let w = c.args.row.now in
    let list = c.as_slice-list.result.now in
    let are = c.as_slice-list.ensures.value ∙ listed_of v c.self.inside.kept c.self.inside.len c.self.inside.weight c.in-Places.places c.self.view_is c.self.invariant c.in-Places.is in
    let fits = shared_fits list v w are c.requires.same c.shared-both.result c.args.ones c.shared-both.ensures c.requires.ones in
    fits.1

pub overflow_add-distance : goal.overflow_add-distance
overflow_add-distance c =
    let v = c.args.self.now in
    let w = c.args.row.now in
    let list = c.as_slice-list.result.now in
    let are = c.as_slice-list.ensures.value ∙ listed_of v c.self.inside.kept c.self.inside.len c.self.inside.weight c.in-Places.places c.self.view_is c.self.invariant c.in-Places.is in
    let few = apart_fits list v w are c.requires.same c.shared-both.result c.args.ones c.shared-both.ensures c.requires.ones in
    let long = c.len-len.ensures in
    let fits = c.len-len.type_inv in
    omega arith

pub returns-in-Places : goal.returns-in-Places
returns-in-Places c =
    let v = c.args.self.now in
    let w = c.args.row.now in
    let list = c.as_slice-list.result.now in
    let are = c.as_slice-list.ensures.value ∙ listed_of v c.self.inside.kept c.self.inside.len c.self.inside.weight c.in-Places.places c.self.view_is c.self.invariant c.in-Places.is in
    below_is c.below.result (length list - c.shared-both.result + (c.args.ones - c.shared-both.result)) c.args.limit _ c.below.ensures
    (apart_is list v w are c.requires.same c.shared-both.result c.args.ones c.shared-both.ensures c.requires.ones)
