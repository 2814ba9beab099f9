use Rattle.std.proofs.Common.{subst}
use Rattle.cb_log.specs.Kept.{Kept}
use Rattle.cb_log.specs.Passing.{Clears}
use Rattle.cb_window.proofs.Seen.{kept_of, clears}
use Rattle.cb_window.proofs.Turns.{queued_still}
use Rattle.cb_window.proofs.windows.Windows.take_node.Goals as goal

pub returns : goal.returns
returns c =
    subst (λ (k : Kept). Clears k (kept_of c.self.inside.length c.self.inside.time c.clear_node.new.live) c.args.from.now c.args.node.now) c.self.view_is
    (clears c.self.inside.length c.self.inside.time c.self.inside.live c.clear_node.new.live c.args.from.now c.args.node.now c.clear_node.ensures)

pub invariant_of-self : goal.invariant_of-self
invariant_of-self c = (
  c.self.invariant.0,
  queued_still c.self.inside.live c.clear_node.new.live c.self.inside.queue c.args.from.now c.args.node.now c.self.invariant.1 c.clear_node.ensures,
)
