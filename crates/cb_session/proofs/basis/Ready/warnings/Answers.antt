use Rattle.std.proofs.Common.{subst}
use Rattle.cb_model.specs.declared.wish.Wish.{Wish}
use Rattle.cb_session.specs.Ready.{IsReadyFor}
use Rattle.cb_session.proofs.basis.Ready.warnings.Goals as goal

pub thin_warning-requires : goal.thin_warning-requires
thin_warning-requires c = subst (λ (wish : Wish). IsReadyFor wish c.args.self.now) c.in-Plain.is c.requires

pub returns-in-Plain : goal.returns-in-Plain
returns-in-Plain c = rw c.in-Plain.is c.thin_warning.ensures
