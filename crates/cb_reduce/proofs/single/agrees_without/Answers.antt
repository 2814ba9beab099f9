use Rattle.std.proofs.Common.{sym, ap, ◌∙◌, arith}
use Rattle.std.proofs.lemmas.Bool.{not-true, both_ways}
use Rattle.cb_coding.specs.Distance.{bit}
use Rattle.cb_reduce.specs.Places.{kept_of}
use Rattle.cb_reduce.proofs.Places.{code_at_is, apart_is}
use Rattle.cb_reduce.proofs.Standing.{not_false}
use Rattle.cb_reduce.proofs.single.agrees_without.Goals as goal

pub returns-clause-some : goal.returns-clause-some
returns-clause-some c = λ lacks.
    let rows = c.args.codes.now.rows in
    let there = code_at_is rows c.args.other c.row-there.result.now c.row-there.ensures in
    let same = apart_is (kept_of c.args.rest.now) rows c.args.place c.args.other c.row.result.now c.row-there.result.now c.row.ensures c.row-there.ensures in
    let near = c.in_default.ensures.0 in
    record {
      one = c.args.place;
      other = c.args.other;
      one_within = c.requires.within;
      other_within = c.requires.other;
      has = c.requires.has;
      lacks = ap (λ v. bit v c.args.column) there ∙ (sym c.has_column.ensures ∙ not-true _ lacks);
      agree = omega arith;
    }

pub returns-clause-none : goal.returns-clause-none
returns-clause-none c = λ has lacks.
    let there = code_at_is c.args.codes.now.rows c.args.other c.row-there.result.now c.row-there.ensures in
    absurd (both_ways _ lacks (ap (λ v. bit v c.args.column) there ∙ (sym c.has_column.ensures ∙ not_false _ has)))
