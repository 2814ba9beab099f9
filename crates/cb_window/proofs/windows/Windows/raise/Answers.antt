use Rattle.std.proofs.Common.{◌≡◌, ◌≤◌, ℕ, max, sym, ap, subst, ◌∙◌}
use Rattle.cb_log.specs.Kept.{Kept}
use Rattle.cb_log.specs.Passing.{Raises}
use Rattle.cb_log.proofs.Stands.{raising_stands}
use Rattle.cb_window.proofs.Raising.{put_then_passed}
use Rattle.cb_window.proofs.windows.Windows.raise.Goals as goal

pub returns-clause-stands : goal.returns-clause-stands
returns-clause-stands c = λ records r at body stands.
    let some : 1 ≤ c.args.self.now.length = subst (λ (k : Kept). 1 ≤ k.length) c.put_node.view_is c.put_node.invariant.0 in
    let time : c.later.result ≡ max c.args.self.now.now c.args.at = c.later.ensures ∙ ap (λ (k : Kept). max k.now c.args.at) c.put_node.view_is in
    raising_stands c.args.self.now c.go_to.new.self records r c.args.from.now c.args.node.now
    (subst (λ (t : ℕ). Raises c.args.self.now c.go_to.new.self t c.args.from.now c.args.node.now) (sym at)
    (put_then_passed c.args.self.now c.put_node-2.new.self c.go_to.new.self c.args.at c.later.result c.args.from.now c.args.node.now some time
    c.in_ok-put_node.ensures.put c.go_to.ensures))
    body stands
