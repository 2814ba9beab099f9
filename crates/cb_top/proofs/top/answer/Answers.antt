use Rattle.std.proofs.Common.{sym, subst}
use Rattle.std.specs.Prelude.{Option}
use Rattle.cb_request.specs.Commands.{texts}
use Rattle.cb_request.specs.declared.request.Request.{Request}
use Rattle.cb_outcome.specs.Asked.{command_for}
use Rattle.cb_outcome.proofs.Ranges.{asked_is_in_range}
use Rattle.cb_top.proofs.top.answer.Goals as goal

pub perform-requires : goal.perform-requires
perform-requires g c = record {
  range = subst (λ (asked : Option Request). (command_for asked).range) (sym c.in-Some.ensures) (asked_is_in_range (texts c.args.words.now));
}
