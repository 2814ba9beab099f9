use Rattle.serde_json.specs.View.{view}
use Rattle.cb_alarm.specs.Faults.{IsValueFault}
use Rattle.cb_alarm.specs.Skips.{IsSkipped}
use Rattle.cb_alarm.specs.Spelled.{ReadsJson}
use Rattle.cb_alarm.proofs.FirstFaults.{skipped_so, value_skipped}
use Rattle.cb_alarm.proofs.read.read_record.Goals as goal

pub returns-in-Ok-clause-skip : goal.returns-in-Ok-clause-skip
returns-in-Ok-clause-skip c =
    let reads : ReadsJson c.args.line.now (view c.in-Ok.value) = record { text = c.in-Ok.ensures.ok.0; is = c.in-Ok.ensures.ok.1 } in
    skipped_so (IsValueFault (view c.in-Ok.value)) (IsSkipped c.args.line.now) (value_skipped c.args.line.now (view c.in-Ok.value) reads)
    c.record_in.result c.record_in.ensures.skip
