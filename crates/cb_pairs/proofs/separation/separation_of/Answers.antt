use Rattle.std.proofs.Common.{◌≡◌, length, sym, subst, arith}
use Rattle.cb_model.proofs.Numbers.{all_at}
use Rattle.cb_coding.specs.Distance.{HaveWidth}
use Rattle.cb_pairs.specs.Landmarks.{AreDistances}
use Rattle.cb_pairs.proofs.Lists.{code_at_is}
use Rattle.cb_pairs.proofs.Searching.{least_none, least_next, least_is_one, least_of_all}
use Rattle.cb_pairs.proofs.separation.separation_of.Goals as goal

pub loop-first-init : goal.loop-first-init
loop-first-init c = least_none c.args.width c.args.codes.now

pub distances_of-requires : goal.distances_of-requires
distances_of-requires c =
    let long = all_at (λ row. length row ≡ c.args.width) c.args.codes.now c.loop-first.first c.at.result.now c.at.ensures c.requires.codes in
    subst (λ n. HaveWidth n c.args.rows.now) (sym long) c.requires.rows

pub closest_with-best-requires-clause-known : goal.closest_with-best-requires-clause-known
closest_with-best-requires-clause-known c =
    let width = c.args.width in
    let codes = c.args.codes.now in
    let first = c.loop-first.first in
    let code = c.at.result.now in
    let distances = c.in_ok-distances.distances in
    let long = all_at (λ row. length row ≡ width) codes first code c.at.ensures c.requires.codes in
    let here = code_at_is codes first code c.at.ensures in
    record {
      rows = c.args.rows.now;
      distances_are = subst (λ v. AreDistances width c.args.rows.now v distances) (sym here)
          (subst (λ n. AreDistances n c.args.rows.now code distances) long c.in_ok-distances.ensures);
      marks_are = c.requires.marks;
    }

pub loop-first-preserved : goal.loop-first-preserved
loop-first-preserved c =
    least_next c.args.width c.args.codes.now c.requires.codes c.loop-first.first (length c.args.codes.now) c.closest_with-best.result (omega arith) c.closest_with-best.ensures

pub returns-then-best-least : goal.returns-then-best-least
returns-then-best-least c =
    let low = c.if-best-least.true in
    let least = c.min-least.ensures in
    least_is_one c.args.width c.args.codes.now c.requires.codes c.loop-first.first (length c.args.codes.now) c.closest_with-best.result (omega arith) (omega arith)
    c.closest_with-best.ensures

pub returns : goal.returns
returns c =
    let done = c.loop-first-test.false in
    let end = c.len-first-end.ensures in
    least_of_all c.args.width c.args.codes.now c.requires.codes c.loop-first.first c.loop-first.best c.best_or_one.result (omega arith) c.loop-first.invariant
    c.best_or_one.ensures.some c.best_or_one.ensures.none
