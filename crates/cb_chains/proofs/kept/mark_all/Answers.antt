use Rattle.std.proofs.Common.{◌<◌, ◌≤◌, ◌+◌, ℕ, length, get_or, sym, subst, arith}
use Rattle.std.proofs.lemmas.Option.{slice_get-get_or}
use Rattle.cb_model.proofs.Numbers.{all_at}
use Rattle.cb_chains.proofs.Marking.{AreMarkedTo, none_marked, one_marked, all_marked}
use Rattle.cb_chains.proofs.kept.mark_all.Goals as goal

pub loop-at-init : goal.loop-at-init
loop-at-init c = none_marked (λ (p : ℕ). p) c.args.positions.now c.args.marked.now

pub set-requires : goal.set-requires
set-requires c =
    let positions = c.args.positions.now in
    let low : c.loop-at.at < length positions = omega (arith, c.loop-at-test.true) in
    let at = slice_get-get_or positions c.loop-at.at 0 low in
    let fits = all_at (λ p. p < length c.args.marked.now) positions c.loop-at.at (get_or positions c.loop-at.at 0) at c.requires in
    let capacity = c.loop-at.invariant.capacity in
    omega arith

pub loop-at-preserved : goal.loop-at-preserved
loop-at-preserved c =
    let positions = c.args.positions.now in
    let low : c.loop-at.at < length positions = omega (arith, c.loop-at-test.true) in
    let at = slice_get-get_or positions c.loop-at.at 0 low in
    let fits = all_at (λ p. p < length c.args.marked.now) positions c.loop-at.at (get_or positions c.loop-at.at 0) at c.requires in
    let capacity = c.loop-at.invariant.capacity in
    subst (AreMarkedTo (λ (p : ℕ). p) positions (c.loop-at.at + 1) c.args.marked.now) (sym c.set.ensures)
    (one_marked (λ (p : ℕ). p) positions c.loop-at.at c.args.marked.now c.loop-at.marked c.loop-at.invariant (get_or positions c.loop-at.at 0) at (omega arith))

pub returns-clause-all : goal.returns-clause-all
returns-clause-all c =
    let end : length c.args.positions.now ≤ c.loop-at.at = omega (arith, c.loop-at-test.false) in
    all_marked (λ (p : ℕ). p) c.args.positions.now c.loop-at.at c.args.marked.now c.loop-at.marked c.loop-at.invariant end
