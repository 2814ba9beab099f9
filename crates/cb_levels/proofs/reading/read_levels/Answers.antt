use Rattle.std.proofs.Common.{inr, sym}
use Rattle.std.specs.Prelude.{IfErr}
use Rattle.cb_levels.specs.Steps.{StopsFor}
use Rattle.cb_levels.proofs.Expecting.{exit}
use Rattle.cb_levels.proofs.reading.read_levels.Goals as goal

pub returns-in_err-nodes-clause-fault : goal.returns-in_err-nodes-clause-fault
returns-in_err-nodes-clause-fault c =
    exit (λ r. IfErr r (StopsFor c.args.text.now)) c.from_residual-in_err-nodes.result _ c.from_residual-in_err-nodes.ensures.1
    (c.in_err-nodes.ensures c.args.text.now c.in_ok-reader.ensures.reader)

pub returns-in_err-entries-clause-fault : goal.returns-in_err-entries-clause-fault
returns-in_err-entries-clause-fault c =
    let read = c.in_ok-nodes.ensures c.args.text.now c.in_ok-reader.ensures.reader in
    exit (λ r. IfErr r (StopsFor c.args.text.now)) c.from_residual-in_err-entries.result _ c.from_residual-in_err-entries.ensures.1
    (c.in_err-entries.ensures c.args.text.now c.in_ok-nodes.nodes (sym c.len.ensures) read)

pub returns-in_err-finish-clause-fault : goal.returns-in_err-finish-clause-fault
returns-in_err-finish-clause-fault c =
    let read = c.in_ok-nodes.ensures c.args.text.now c.in_ok-reader.ensures.reader in
    let all = c.in_ok-entries.ensures c.args.text.now c.in_ok-nodes.nodes (sym c.len.ensures) read in
    exit (λ r. IfErr r (StopsFor c.args.text.now)) c.from_residual-in_err-finish.result _ c.from_residual-in_err-finish.ensures.1
    (inr (c.in_err-finish.ensures c.args.text.now _ all))

pub returns-clause-levels : goal.returns-clause-levels
returns-clause-levels c =
    let read = c.in_ok-nodes.ensures c.args.text.now c.in_ok-reader.ensures.reader in
    let all = c.in_ok-entries.ensures c.args.text.now c.in_ok-nodes.nodes (sym c.len.ensures) read in
    c.in_ok-finish.ensures c.args.text.now _ all
