use Rattle.cb_codes.proofs.ByColumn.{AreCountedBelow}
use Rattle.cb_codes.proofs.Stored.{after_columns}
use Rattle.cb_codes.proofs.holders.count.Given as goal

abbrev pub invariant-loop-column : goal.invariant-loop-column
invariant-loop-column l = AreCountedBelow l.codes l.place (after_columns l.columns l.column-index) l.counts
