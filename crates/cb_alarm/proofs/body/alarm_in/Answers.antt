use Rattle.std.proofs.Common.{sym, subst}
use Rattle.serde_json.specs.View.{view}
use Rattle.cb_alarm.specs.Spelled.{IsSource}
use Rattle.cb_alarm.proofs.Texts.{says_text, says_no_text, no_node_under}
use Rattle.cb_alarm.proofs.body.alarm_in.Goals as goal

pub returns-in_default-text_under-clause-skip : goal.returns-in_default-text_under-clause-skip
returns-in_default-text_under-clause-skip c = λ ms is. (
  (c.in-Some.source.now, c.in-Some.ensures.some ms is),
  says_no_text (view c.args.value.now) ms is c.args.name.now c.in_default-text_under.ensures,
)

pub returns-in_default-node_parts-clause-skip : goal.returns-in_default-node_parts-clause-skip
returns-in_default-node_parts-clause-skip c = λ ms is.
    let says = says_text (view c.args.value.now) ms is c.args.name.now c.in-Some-text_under.text.now c.in-Some-text_under.ensures in (
      (c.in-Some.source.now, c.in-Some.ensures.some ms is),
      (
        c.in-Some-text_under.text.now,
        says,
        no_node_under ms c.args.name.now c.in-Some-text_under.text.now says c.in_default-node_parts.ensures.none,
      ),
    )

pub returns-clause-source : goal.returns-clause-source
returns-clause-source c = λ ms is. subst (IsSource ms) (sym c.in_ok-of.ensures) (c.in-Some.ensures.some ms is)
