use Rattle.std.proofs.Common.{◌≡◌, ◌<◌, ℕ, true}
use Rattle.cb_coding.specs.Distance.{bit, all_columns, apart}
use Rattle.cb_reduce.specs.Forced.{MarksApart}
use Rattle.cb_reduce.specs.Pairs.{DifferAt}
use Rattle.cb_reduce.proofs.force.mark_differing.Given as goal

abbrev pub invariant-loop-before : goal.invariant-loop-before
invariant-loop-before l = record {
  marks : MarksApart l.codes.rows l.first l.second l.fn.forced l.forced;
  all : (c : ℕ) → DifferAt c l.codes.rows l.first l.second → apart (all_columns c) l.codes.rows l.first l.second < l.before → bit l.forced c ≡ true;
}
