use Rattle.std.proofs.Common.{◌≡◌, ◌+◌, [], ◌∷◌, length, length-append, sym, ap, subst, ◌∙◌, arith}
use Rattle.cb_explain.specs.Checking.{HaveParents}
use Rattle.cb_explain.proofs.Listing.{listed_more, parents_more}
use Rattle.cb_explain.proofs.entries.list_entries.Goals as goal

pub loop-listed-preserved : goal.loop-listed-preserved
loop-listed-preserved c =
    let n = c.args.topology.now in
    let levels = c.args.levels.now in
    let old = c.loop-listed.listed in
    let new = c.add.new.self in
    let id = c.in-Ok.node in
    let right = c.in-Ok.ensures.node in
    let added = c.in_ok-add-in-Ok.ensures in
    let size : length new.nodes.items ≡ length old.nodes.items + 1 = ap length added.nodes ∙ length-append old.nodes.items (id ∷ []) in
    record {
      listed = listed_more n levels old new id c.loop-listed.invariant.listed right.lists right.new added.nodes added.positions;
      parents = subst (HaveParents levels) (sym size) (parents_more n levels old id c.loop-listed.invariant.parents right);
      some = omega arith;
    }
