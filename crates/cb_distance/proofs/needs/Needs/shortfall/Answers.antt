use Rattle.std.proofs.Common.{◌≡◌, ◌<◌, ◌≤◌, IfSome, IfNone, sym, subst}
use Rattle.cb_distance.specs.declared.needs.Needs.{Needs}
use Rattle.cb_distance.specs.Close.{far}
use Rattle.cb_distance.specs.Asked.{need_by}
use Rattle.cb_distance.proofs.needs.Needs.shortfall.Goals as goal

pub returns-in-Capped-clause-some : goal.returns-in-Capped-clause-some
returns-in-Capped-clause-some c =
    subst (λ (given : Needs). IfSome c.short_of_cap.result (λ apart. (apart ≡ far c.args.codes.now c.args.first c.args.second)
    × (apart < need_by given c.args.first c.args.second))) (sym c.in-Capped.is) c.short_of_cap.ensures.some

pub returns-in-Capped-clause-none : goal.returns-in-Capped-clause-none
returns-in-Capped-clause-none c =
    subst (λ (given : Needs). IfNone c.short_of_cap.result (need_by given c.args.first c.args.second ≤ far c.args.codes.now c.args.first c.args.second))
    (sym c.in-Capped.is) c.short_of_cap.ensures.none
