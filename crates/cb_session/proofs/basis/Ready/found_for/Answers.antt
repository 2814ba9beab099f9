use Rattle.std.proofs.Common.{sym, subst}
use Rattle.cb_coding.specs.Groups.{codes_of}
use Rattle.cb_session.specs.InUse.{HasRadiiOf}
use Rattle.cb_session.proofs.Following.{if_ok_more}
use Rattle.cb_session.proofs.InUse.{plain_found, capped_found}
use Rattle.cb_session.proofs.basis.Ready.found_for.Goals as goal

pub returns-in-Plain : goal.returns-in-Plain
returns-in-Plain c =
    if_ok_more c.find_by.result _ _ (λ finding found. λ columns nodes said as_many.
    plain_found c.args.self.now columns nodes finding c.in-Plain.book c.in-Plain.is (found columns nodes said)) (rw c.coded_groups-groups.ensures.groups at c.find_by.ensures)

pub returns-in-Capped : goal.returns-in-Capped
returns-in-Capped c =
    let ready = c.args.self.now in
    let is = c.requires.1.1 in
    if_ok_more c.find_cap_by.result _ _ (λ finding found. λ columns nodes said as_many.
    capped_found ready columns nodes finding c.in-Capped.book c.in-Capped.is
    (subst (λ width. HasRadiiOf width (codes_of ready.matrix.groups) ready.book) (sym as_many) is.radii) (found columns nodes said))
    (rw c.coded_groups-groups.ensures.groups at c.find_cap_by.ensures)
