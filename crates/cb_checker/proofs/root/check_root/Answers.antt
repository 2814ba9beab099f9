use Rattle.cb_checker.proofs.Rooted.{good_root, bad_root}
use Rattle.cb_checker.proofs.root.check_root.Goals as goal

pub returns-in-Some-clause-judges : goal.returns-in-Some-clause-judges
returns-in-Some-clause-judges c = λ whole name known named.
    good_root c.args.topology.now c.args.ids.now whole known c.args.root name named c.args.before c.args.span.now c.in-Some.node c.in-Some.ensures.found

pub returns-in-None-clause-judges : goal.returns-in-None-clause-judges
returns-in-None-clause-judges c = λ whole name known named.
    bad_root c.args.topology.now c.args.ids.now whole known c.args.root name named c.args.before c.args.span.now c.in-None.ensures.none
