use Rattle.std.proofs.Common.{sym, subst}
use Rattle.cb_codes.specs.EachOnce.{HaveMarks}
use Rattle.cb_codes.proofs.Found.{marks_with_last}
use Rattle.cb_codes.proofs.each_once.EachOnce.place_of.Goals as goal

pub returns-clause-marks : goal.returns-clause-marks
returns-clause-marks c =
    let firsts = c.look_up.new.firsts in
    subst (λ codes. HaveMarks codes firsts) (sym c.in_ok-push_new.ensures.pushed)
    (marks_with_last c.args.self.now.codes.rows firsts c.look_up.ensures.marks c.args.code c.in_ok-mark.mark c.in_ok-mark.ensures c.in_ok-place.ensures.has)
