use Rattle.cb_session.proofs.Sessions.{if_ends_alone}
use Rattle.cb_session.proofs.session.Session.finish.Goals as goal

pub returns-clause-alone : goal.returns-clause-alone
returns-clause-alone c = if_ends_alone c.args.self.now c.reported_of-events.result c.reported_of-events.ensures
