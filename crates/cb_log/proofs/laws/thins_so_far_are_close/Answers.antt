use Rattle.cb_log.proofs.ThinEvents.{thins_so_far_are_close as proved}
use Rattle.cb_log.proofs.laws.thins_so_far_are_close.Goals as goal

pub returns : goal.returns
returns c = proved
