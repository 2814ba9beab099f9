use Rattle.std.proofs.Common.{◌≤◌, ◌+◌, ◌-◌, ◌↔◌, ℕ, List, subst, arith}
use Rattle.cb_log.specs.declared.closed.Closed.{Closed}
use Rattle.cb_log.specs.Kept.{Kept}
use Rattle.cb_log.specs.Passing.{AreDue}
use Rattle.cb_window.specs.Kept.{AreReportedUpTo}
use Rattle.cb_window.proofs.Dues.{up_to_due, if_ok}
use Rattle.cb_window.proofs.windows.Windows.due_by.Goals as goal

pub returns : goal.returns
returns c =
    let w : ℕ = c.self.inside.length in
    let time : ℕ = c.args.time in
    let past : w ≤ time = c.if-time-self.false in
    let limit : (o : ℕ) → (o ≤ time - w) ↔ (o + w ≤ time) = λ o. (λ early. omega arith, λ early. omega arith) in
    if_ok (λ (closing : List Closed). AreReportedUpTo c.self.inside.live c.self.inside.queue (time - w) time closing) (λ (closing : List Closed). AreDue c.args.self.now time closing)
    c.close_up_to.result
    (λ closing up. subst (λ (k : Kept). AreDue k time closing) c.self.view_is
    (up_to_due w c.self.inside.time (time - w) time c.self.inside.live c.self.inside.queue c.self.invariant.1 closing up limit))
    c.close_up_to.ensures
