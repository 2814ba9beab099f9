use Rattle.cb_checker.proofs.Claiming.{radii_of_groups}
use Rattle.cb_checker.proofs.stated.own_radii.Goals as goal

pub returns : goal.returns
returns c = radii_of_groups c.codes.result.now c.args.groups.now c.codes.ensures.width c.codes.ensures.rows c.args.cap c.radii.result c.radii.ensures
