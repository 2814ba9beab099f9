use Rattle.cb_session.specs.State.{network_of}
use Rattle.cb_log_commands.proofs.LineCosts.{every_line_cost}
use Rattle.cb_file_kinds.proofs.Chain.{if_ok_more}
use Rattle.cb_log_commands.proofs.telling.text_of_step.Goals as goal

pub returns-clause-tells : goal.returns-clause-tells
returns-clause-tells g c =
    let (entry, comes) = c.in_ok-events.ensures.comes in
    if_ok_more c.events_text.result _ _ (λ text is. record {
      entry = entry;
      comes = comes;
      tells = λ opening before regular stands. record {
        events = c.in_ok-events.events;
        gives = c.in_ok-events.ensures.gives opening before entry regular comes stands;
        text_is = is;
        stands = c.in_ok-events.ensures.stands opening before entry regular comes stands;
      };
    }) c.events_text.ensures

pub returns-in_err-events-clause-counts : goal.returns-in_err-events-clause-counts
returns-in_err-events-clause-counts g c =
    every_line_cost c.step.result _ c.args.session.now.mode (network_of c.args.session.now) c.args.steps.now c.step.new.steps c.step.ensures.cost c.step.ensures.steps c.step.ensures.regular

pub returns-clause-counts : goal.returns-clause-counts
returns-clause-counts g c =
    every_line_cost c.step.result _ c.args.session.now.mode (network_of c.args.session.now) c.args.steps.now c.step.new.steps c.step.ensures.cost c.step.ensures.steps c.step.ensures.regular
