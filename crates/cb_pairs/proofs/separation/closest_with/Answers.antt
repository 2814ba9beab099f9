use Rattle.std.proofs.Common.{◌≡◌, length, sym, ap, subst, ◌∙◌, arith}
use Rattle.cb_model.proofs.Numbers.{all_at}
use Rattle.cb_coding.specs.Distance.{distance, all_columns, code_at, apart}
use Rattle.cb_pairs.specs.Kept.{IsCloser, IsLeastUpto}
use Rattle.cb_pairs.proofs.Lists.{code_at_is}
use Rattle.cb_pairs.proofs.Seen.{as_many_marks, seen_of}
use Rattle.cb_pairs.proofs.Searching.{least_more}
use Rattle.cb_pairs.proofs.separation.closest_with.Goals as goal

pub at-requires : goal.at-requires
at-requires c =
    let test = c.loop-second-test.true in
    let end = c.len-count.ensures in
    omega arith

pub at-requires-in-loop-second : goal.at-requires-in-loop-second
at-requires-in-loop-second c =
    let test = c.loop-second-test.true in
    let end = c.len-count.ensures in
    let many = as_many_marks c.args.width c.args.codes.now c.args.first c.args.distances.now c.args.marks.now c.requires.known in
    omega arith

pub closer-best-requires-clause-wide : goal.closer-best-requires-clause-wide
closer-best-requires-clause-wide c =
    let one = all_at (λ row. length row ≡ c.args.width) c.args.codes.now c.args.first c.at-code.result.now c.at-code.ensures c.requires.codes in
    let other = all_at (λ row. length row ≡ c.args.width) c.args.codes.now c.loop-second.second c.at.result.now c.at.ensures c.requires.codes in
    one ∙ sym other

pub closer-best-requires-clause-seen : goal.closer-best-requires-clause-seen
closer-best-requires-clause-seen c =
    let code = c.at-code.result.now in
    let long = all_at (λ row. length row ≡ c.args.width) c.args.codes.now c.args.first code c.at-code.ensures c.requires.codes in
    seen_of c.args.width c.args.codes.now c.args.first c.args.distances.now c.args.marks.now c.requires.known code c.at.result.now
    c.loop-second.second c.at-in-loop-second.result.now long (code_at_is c.args.codes.now c.args.first code c.at-code.ensures)
    c.at.ensures c.at-in-loop-second.ensures

pub loop-second-preserved : goal.loop-second-preserved
loop-second-preserved c =
    let width = c.args.width in
    let codes = c.args.codes.now in
    let first = c.args.first in
    let second = c.loop-second.second in
    let one = c.at-code.result.now in
    let other = c.at.result.now in
    let long = all_at (λ row. length row ≡ width) codes first one c.at-code.ensures c.requires.codes in
    let here = code_at_is codes first one c.at-code.ensures in
    let there = code_at_is codes second other c.at.ensures in
    let far : distance (all_columns (length one)) one other ≡ apart (all_columns width) codes first second =
    ap (λ n. distance (all_columns n) one other) long
    ∙ (ap (λ v. distance (all_columns width) v other) (sym here) ∙ ap (distance (all_columns width) (code_at codes first)) (sym there))
    in
    let test = c.loop-second-test.true in
    let end = c.len-count.ensures in
    let from = c.loop-second.auto.second in
    least_more width codes c.requires.codes first second c.loop-second.best c.closer-best.result (omega arith, omega arith) c.loop-second.invariant
    (subst (λ d. IsCloser d c.loop-second.best c.closer-best.result) far c.closer-best.ensures)

pub returns : goal.returns
returns c =
    let done = c.loop-second-test.false in
    let end = c.len-count.ensures in
    let to = c.loop-second.auto.second-end in
    let within = c.requires.within in
    let all : c.loop-second.second ≡ length c.args.codes.now = omega arith in
    subst (λ n. IsLeastUpto c.args.width c.args.codes.now c.args.first n c.loop-second.best) all c.loop-second.invariant
