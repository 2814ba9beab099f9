use Rattle.cb_codes.specs.Holders.{AreCounted}
use Rattle.cb_codes.proofs.holders.count_all.Given as goal

abbrev pub invariant-loop-place : goal.invariant-loop-place
invariant-loop-place l = AreCounted l.codes l.place l.counts
