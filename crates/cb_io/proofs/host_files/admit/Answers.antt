use Rattle.std.proofs.Common.{arith, sym, ◌∙◌, ap, ℕ, List, Some}
use Rattle.cb_io.proofs.Pairs.{look_up-absent, position-new}
use Rattle.cb_io.proofs.Host.{faults-new}
use Rattle.cb_io.proofs.host_files.admit.Goals as goal

pub returns-clause-place : goal.returns-clause-place
returns-clause-place g c =
    rw c.in_ok-push.ensures.items
    (position-new c.args.opened.now.items c.args.name.now _ (rw c.deref.ensures.value at (sym c.in_default.ensures))
    (ap (λ (o : List ℕ × ℕ). o.0) c.in_ok-new.ensures)
    ∙ ap (λ n. Some n) (omega (arith, c.args.opened.now.ok.0, c.len-place.ensures)))

pub returns-clause-faults : goal.returns-clause-faults
returns-clause-faults g c = λ other.
    rw (c.in_ok-push.ensures.items, c.in_ok-new.ensures)
    (faults-new c.args.opened.now.items c.args.name.now other
    (look_up-absent c.args.opened.now.items c.args.name.now (rw c.deref.ensures.value at (sym c.in_default.ensures))))
