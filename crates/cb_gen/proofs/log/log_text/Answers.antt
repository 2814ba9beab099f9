use Rattle.cb_gen.specs.Log.{rounds}
use Rattle.cb_gen.proofs.Going.{whole}
use Rattle.cb_gen.proofs.log.log_text.Goals as goal

pub returns : goal.returns
returns c =
    whole c.from.result c.args.sites c.args.start c.new-log.result c.push_rounds.new.self (rounds 20) c.from.ensures c.new-log.ensures.text c.new-log.ensures.time
    c.new-log.ensures.state c.in_ok-push_rounds.ensures
