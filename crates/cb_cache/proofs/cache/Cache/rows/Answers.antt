use Rattle.std.proofs.Common.{subst}
use Rattle.cb_cache.specs.Cached.{Cached}
use Rattle.cb_cache.specs.Numbers.{IsProblemNumber}
use Rattle.cb_cache.specs.Rows.{HaveRows}
use Rattle.cb_cache.proofs.Owned.{row_of_slot}
use Rattle.cb_cache.proofs.cache.Cache.rows.Goals as goal

pub returns : goal.returns
returns c =
    let inside = c.self.inside in
    let rows = inside.store.rows in
    let right = c.self.invariant.right in
    subst (λ (k : Cached). HaveRows k.graph (IsProblemNumber k.graph) rows) c.self.view_is (record {
      each = λ id problem. (let has = right.all id.0 problem in row_of_slot inside.graph rows id has.0 right.rows has.1);
      width = c.self.invariant.capacity.width;
    })
