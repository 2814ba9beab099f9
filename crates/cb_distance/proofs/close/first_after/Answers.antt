use Rattle.std.proofs.Common.{◌≡◌, [], List, Bool, length, true, ap, ◌∙◌, arith}
use Rattle.cb_model.proofs.Numbers.{all_at}
use Rattle.cb_coding.specs.Distance.{bit, code_at}
use Rattle.cb_codes.proofs.ByColumn.{had_within}
use Rattle.std.proofs.lemmas.Option.{get_or_from_slice_get}
use Rattle.cb_distance.proofs.After.{holders_within, within_all, column_passed, column_looked, enough_looked}
use Rattle.cb_distance.specs.Asked.{need_by, most_asked}
use Rattle.cb_distance.proofs.Far.{asked_most}
use Rattle.cb_distance.proofs.close.first_after.Goals as goal
use Rattle.cb_distance.proofs.close.first_after.Goals.{in-Some-few_holders, in_default-few_holders}

pub close_among-end-requires-clause-places : goal.close_among-end-requires-clause-places
close_among-end-requires-clause-places c = holders_within c.args.codes.now.rows c.in-Some.column c.in-Some-few_holders.places.now c.in-Some-few_holders.ensures

pub loop-looked-preserved : goal.loop-looked-preserved
loop-looked-preserved c =
    let codes = c.args.codes.now in
    let first = c.args.first in
    let code = c.row-code.result.now in
    let column = c.in-Some.column in
    let next = c.in-Some.ensures.next in
    let old = c.loop-looked.invariant in
    let low = had_within code column next.is in
    let same : code_at codes.rows first ≡ code = get_or_from_slice_get codes.rows first code [] c.row-code.ensures in
    let has : bit (code_at codes.rows first) column ≡ true = ap (λ v. bit v column) same ∙ next.is in
    elim c.match-few_holders.branch [
      | in-Some-few_holders w ↦
          let places = w.in-Some-few_holders.places.now in
          let among = w.close_among-end.ensures in
          rw (w.end-is, w.looked-is) (record {
            within = omega arith;
            end = among.end;
            rest = column_looked codes first (need_by c.args.needs.now) c.loop-looked.from column c.loop-looked.looked c.loop-looked.end next.on old.rest
                places w.close_among-end.result has w.in-Some-few_holders.ensures among.before
                (within_all codes first (need_by c.args.needs.now) _ among.end) among.far;
          })
      | in_default-few_holders w ↦
          rw (w.end-is, w.looked-is) (record {
            within = omega arith;
            end = old.end;
            rest = column_passed codes first (need_by c.args.needs.now) c.loop-looked.from column c.loop-looked.looked c.loop-looked.end next.on old.rest;
          })
    ]

pub returns : goal.returns
returns c =
    let codes = c.args.codes.now in
    let long = all_at (λ (v : List Bool). length v ≡ codes.width) codes.rows c.args.first c.row-code.result.now
    c.row-code.ensures c.width-wide.ensures.all
    in
    let kept = c.loop-looked.invariant in
    record {
      is = kept.end;
      before = enough_looked codes c.args.first (need_by c.args.needs.now) c.loop-looked.from c.loop-looked.looked c.loop-looked.end
          (most_asked c.args.needs.now) (λ j. asked_most c.args.needs.now c.args.first j) (let e = kept.within in omega arith)
          (let most = c.most-most.ensures in let enough = c.loop-looked-test.false in omega arith) kept.rest;
    }
