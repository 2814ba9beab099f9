use Rattle.cb_codes.specs.Holders.{AreHolderLists}
use Rattle.cb_codes.proofs.holders.list_all.Given as goal

abbrev pub invariant-loop-place : goal.invariant-loop-place
invariant-loop-place l = AreHolderLists l.codes l.place l.nexts l.places
