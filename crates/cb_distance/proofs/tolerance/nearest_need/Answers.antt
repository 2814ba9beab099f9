use Rattle.std.proofs.Common.{◌≡◌, [], List, Bool, length, true, inr, ap, ◌∙◌, arith}
use Rattle.cb_model.proofs.Numbers.{all_at}
use Rattle.cb_coding.specs.Distance.{bit, code_at}
use Rattle.cb_codes.proofs.ByColumn.{had_within}
use Rattle.std.proofs.lemmas.Option.{get_or_from_slice_get}
use Rattle.cb_distance.proofs.After.{holders_within}
use Rattle.cb_distance.proofs.Others.{cap_reached, closer_reached, is_nearest, other_passed, other_looked, enough_apart}
use Rattle.cb_distance.proofs.tolerance.nearest_need.Goals as goal
use Rattle.cb_distance.proofs.tolerance.nearest_need.Goals.{in-Some-few_holders, in_default-few_holders}

pub loop-looked-init : goal.loop-looked-init
loop-looked-init c =
    let codes = c.args.codes.now in
    record {
      within = omega arith;
      reached = closer_reached codes c.args.cap c.args.place 0 c.args.cap c.closer-best.result (let low = c.requires in omega arith) c.closer-best.ensures
          (cap_reached codes c.args.cap c.args.place);
      rest = λ j other. inr (omega arith);
    }

pub closest_among-best-requires-clause-places : goal.closest_among-best-requires-clause-places
closest_among-best-requires-clause-places c =
    holders_within c.args.codes.now.rows c.in-Some.column c.in-Some-few_holders.places.now c.in-Some-few_holders.ensures

pub loop-looked-preserved : goal.loop-looked-preserved
loop-looked-preserved c =
    let codes = c.args.codes.now in
    let place = c.args.place in
    let code = c.row-code.result.now in
    let column = c.in-Some.column in
    let next = c.in-Some.ensures.next in
    let old = c.loop-looked.invariant in
    let low = had_within code column next.is in
    let same : code_at codes.rows place ≡ code = get_or_from_slice_get codes.rows place code [] c.row-code.ensures in
    let has : bit (code_at codes.rows place) column ≡ true = ap (λ v. bit v column) same ∙ next.is in
    elim c.match-few_holders.branch [
      | in-Some-few_holders w ↦
          let among = w.closest_among-best.ensures in
          rw (w.best-is, w.looked-is) (record {
            within = omega arith;
            reached = among.reached c.args.cap old.reached;
            rest = other_looked codes place c.loop-looked.from column c.loop-looked.looked c.loop-looked.best next.on old.rest
                w.in-Some-few_holders.places.now w.closest_among-best.result has w.in-Some-few_holders.ensures among.low among.far;
          })
      | in_default-few_holders w ↦
          rw (w.best-is, w.looked-is) (record {
            within = omega arith;
            reached = old.reached;
            rest = other_passed codes place c.loop-looked.from column c.loop-looked.looked c.loop-looked.best next.on old.rest;
          })
    ]

pub returns : goal.returns
returns c =
    let codes = c.args.codes.now in
    let long = all_at (λ (v : List Bool). length v ≡ codes.width) codes.rows c.args.place c.row-code.result.now
    c.row-code.ensures c.width-wide.ensures.all
    in
    let kept = c.loop-looked.invariant in
    is_nearest codes c.args.cap c.args.place c.loop-looked.best c.requires
    (enough_apart codes c.args.place c.loop-looked.from c.loop-looked.looked c.loop-looked.best (let e = kept.within in omega arith)
    (let enough = c.loop-looked-test.false in omega arith) kept.rest) kept.reached
