use Rattle.std.proofs.Common.{◌∙◌, sym, subst, inr}
use Rattle.cb_text.specs.Lines.{HasShortLines}
use Rattle.cb_line_files.specs.declared.topology.LineFault.{LineFault}
use Rattle.cb_line_files.specs.Topologies.{IsFirstWrong, Stops}
use Rattle.cb_outcome.proofs.FirstLines.{long_or_short}
use Rattle.cb_file_kinds.proofs.Chain.{err_is}
use Rattle.cb_log_commands.proofs.Growing.{tree_stops, tables_stop, network_made, words_stop, edit_stops}
use Rattle.cb_log_commands.proofs.grow.made_up.Goals as goal

pub returns-in_err-tree-clause-fault : goal.returns-in_err-tree-clause-fault
returns-in_err-tree-clause-fault c =
    rw (err_is _ _ c.from_residual-in_err-tree.ensures.1)
    (tree_stops c.args.sites c.deref.result.now c.in_err-tree.field-0.0 (c.deref.ensures.value ∙ c.in_ok-model.ensures.text) c.in_err-tree.ensures.answer)

pub returns-in_err-tables-clause-fault : goal.returns-in_err-tables-clause-fault
returns-in_err-tables-clause-fault c =
    rw (err_is _ _ c.from_residual-in_err-tables.ensures.1)
    (tables_stop c.args.sites c.deref.result.now c.in_ok-tree.tree c.in_err-tables.field-0.0 (c.deref.ensures.value ∙ c.in_ok-model.ensures.text)
    c.in_ok-tree.ensures.answer c.in_err-tables.ensures.fault)

pub returns-in-Ok-clause-network : goal.returns-in-Ok-clause-network
returns-in-Ok-clause-network c =
    network_made c.args.sites c.deref.result.now c.deref-2.result.now (c.deref.ensures.value ∙ c.in_ok-model.ensures.text)
    (c.deref-2.ensures.value ∙ c.in_ok-topology.ensures.text) c.in_ok-tree.tree c.in_ok-tables.tables c.in_ok-tree.ensures.answer
    c.in_ok-tables.ensures.keeps c.in_ok-tables.ensures.stands _ c.in-Ok.ensures.made

pub unreachable-requires : goal.unreachable-requires
unreachable-requires c =
    long_or_short c.deref-2.result.now c.in-Err-LongLine.field-0-0
    (subst (Stops c.in_ok-tables.tables c.deref-2.result.now) c.in-Err-LongLine.field-0-is c.in-Err-LongLine.ensures.stop)
    (subst HasShortLines (sym c.deref-2.ensures.value) c.in_ok-topology.ensures.short)

pub returns-in-BadWords-clause-fault : goal.returns-in-BadWords-clause-fault
returns-in-BadWords-clause-fault c =
    let first = subst (Stops c.in_ok-tables.tables c.deref-2.result.now) c.in-Err-BadLine.field-0-is c.in-Err-BadLine.ensures.stop in
    inr (words_stop c.args.sites c.deref.result.now c.deref-2.result.now (c.deref.ensures.value ∙ c.in_ok-model.ensures.text)
    (c.deref-2.ensures.value ∙ c.in_ok-topology.ensures.text) c.in_ok-tree.tree c.in_ok-tables.tables c.in_ok-tree.ensures.answer
    c.in_ok-tables.ensures.keeps c.in_ok-tables.ensures.stands c.in-Err-BadLine.line
    (subst (λ (why : LineFault). IsFirstWrong c.in_ok-tables.tables c.deref-2.result.now c.in-Err-BadLine.line why) c.in-BadWords.is first))

pub returns-in-Err-BadLine-clause-fault : goal.returns-in-Err-BadLine-clause-fault
returns-in-Err-BadLine-clause-fault c =
    let first = subst (Stops c.in_ok-tables.tables c.deref-2.result.now) c.in-Err-BadLine.field-0-is c.in-Err-BadLine.ensures.stop in
    inr (edit_stops c.args.sites c.deref.result.now c.deref-2.result.now (c.deref.ensures.value ∙ c.in_ok-model.ensures.text)
    (c.deref-2.ensures.value ∙ c.in_ok-topology.ensures.text) c.in_ok-tree.tree c.in_ok-tables.tables c.in_ok-tree.ensures.answer
    c.in_ok-tables.ensures.keeps c.in_ok-tables.ensures.stands c.in-Err-BadLine.line c.in-Refused.why
    (subst (λ (why : LineFault). IsFirstWrong c.in_ok-tables.tables c.deref-2.result.now c.in-Err-BadLine.line why) c.in-Refused.is first))
