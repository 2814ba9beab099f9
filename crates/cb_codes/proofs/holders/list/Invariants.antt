use Rattle.cb_codes.proofs.ByColumn.{AreListedBelow}
use Rattle.cb_codes.proofs.Stored.{after_columns}
use Rattle.cb_codes.proofs.holders.list.Given as goal

abbrev pub invariant-loop-column : goal.invariant-loop-column
invariant-loop-column l = AreListedBelow l.codes l.place (after_columns l.columns l.column-index) l.nexts l.places
