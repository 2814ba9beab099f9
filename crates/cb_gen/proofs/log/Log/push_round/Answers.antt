use Rattle.cb_gen.proofs.Going.{on_ok_all, tick_goes, round_goes}
use Rattle.cb_gen.proofs.log.Log.push_round.Goals as goal

pub returns-clause-lines : goal.returns-clause-lines
returns-clause-lines c =
    let before = c.push_alarms.new.self in
    let after = c.push_next_tick.new.self in
    on_ok_all c.push_next_tick.result _ _ _ _
    (λ text time state. round_goes c.args.sites c.args.self.now c.push_edits.new.self before after c.in_ok-push_edits.ensures.lines
    c.in_ok-push_alarms.ensures.lines (tick_goes c.args.sites before after text time state))
    c.push_next_tick.ensures.text c.push_next_tick.ensures.time c.push_next_tick.ensures.state
