use Rattle.std.proofs.Common.{◌<◌, length, ap, ◌∙◌, arith}
use Rattle.cb_coding.specs.Distance.{all_columns, apart}
use Rattle.cb_reduce.specs.Pairs.{DifferAt}
use Rattle.cb_reduce.proofs.Forcing.{one_more_marked, next_marked, first_suffice}
use Rattle.cb_reduce.proofs.Places.{code_at_is, apart_is}
use Rattle.cb_reduce.proofs.force.mark_differing.Goals as goal
use Rattle.cb_reduce.proofs.force.mark_differing.Goals.{in-Some, in_default}

pub loop-before-preserved : goal.loop-before-preserved
loop-before-preserved c =
    let rows = c.args.codes.now.rows in
    let i = c.args.first in
    let j = c.args.second in
    let n = c.loop-before.before in
    let old = c.loop-before.forced in
    let was = c.loop-before.invariant in
    let v = c.row-a.result.now in
    let w = c.row-b.result.now in
    let long = was.marks.long in
    elim c.match-nth_differing.branch [
      | in-Some found ↦
          let column = found.in-Some.column in
          let ensures = found.in-Some.ensures in
          let width_is = c.len-width.ensures in
          let before = ensures.before in
          let lt : column < length old = omega arith in
          let differs : DifferAt column rows i j = rw (code_at_is rows i v c.row-a.ensures, code_at_is rows j w c.row-b.ensures) ensures.differ in
          let same = apart_is (all_columns column) rows i j v w c.row-a.ensures c.row-b.ensures in
          let nth = ensures.nth in
          let is = found.forced-is ∙ found.set.ensures in
          record {
            marks = one_more_marked rows i j n column old c.match-nth_differing.forced lt differs is c.args.forced.now was.marks;
            all = next_marked rows i j n column old c.match-nth_differing.forced lt differs is (omega arith) was.all;
          }
      | in_default none ↦
          let same = apart_is (all_columns c.len-width.result) rows i j v w c.row-a.ensures c.row-b.ensures in
          let whole = ap (λ k. apart (all_columns k) rows i j) c.len-width.ensures in
          let few = none.in_default.ensures.none in
          let below = c.loop-before-test.true in
          let distance = c.requires.distance in
          absurd (omega arith)
    ]

pub returns-clause-enough : goal.returns-clause-enough
returns-clause-enough c =
    let rows = c.args.codes.now.rows in
    let was = c.loop-before.invariant in
    let end = c.loop-before-test.false in
    let distance = c.requires.distance in
    let enough = first_suffice (length c.args.forced.now) rows c.args.first c.args.second c.loop-before.before c.loop-before.forced c.requires.have_width
    c.requires.first c.requires.second was.marks.long (omega arith) was.all in
    omega arith
