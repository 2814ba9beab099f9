use Rattle.std.proofs.Common.{subst}
use Rattle.cb_graph.specs.Edges.{number}
use Rattle.cb_cache.specs.Cached.{Cached}
use Rattle.cb_cache.specs.Numbers.{IsProblemNumber}
use Rattle.cb_cache.specs.Reached.{HasSlot}
use Rattle.cb_cache.proofs.cache.Cache.pool.Goals as goal

pub returns-clause-owned : goal.returns-clause-owned
returns-clause-owned c = λ slot taken.
    let right = c.self.invariant.right in
    let own = right.owned slot taken in
    let problem = right.only own.0 slot own.1 in (
      own.0,
      subst (λ (k : Cached). HasSlot k.slots own.0 slot) c.self.view_is own.1,
      subst (λ (k : Cached). IsProblemNumber k.graph (number own.0)) c.self.view_is problem,
    )
