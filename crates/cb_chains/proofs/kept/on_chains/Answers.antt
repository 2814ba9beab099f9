use Rattle.std.proofs.Common.{◌<◌, ◌≤◌, ◌+◌, length, false, ap, ◌∙◌, arith}
use Rattle.std.proofs.lemmas.List.{length-replicate}
use Rattle.std.proofs.lemmas.List.Elements.{All-weaker}
use Rattle.cb_successors.specs.Rows.{Has}
use Rattle.cb_chains.proofs.kept.on_chains.Goals as goal

pub mark_all-requires : goal.mark_all-requires
mark_all-requires c =
    let long = ap length c.in_ok-marked.ensures ∙ length-replicate (length c.args.visits.now + 1) false in
    All-weaker (λ end. end ≤ length c.args.visits.now) (λ end. end < length c.in_ok-marked.marked) (λ end low. omega arith) c.args.ends.now c.requires.ends

pub mark_parents-requires-clause-capacity : goal.mark_parents-requires-clause-capacity
mark_parents-requires-clause-capacity c =
    let long = ap length c.in_ok-marked.ensures ∙ length-replicate (length c.args.visits.now + 1) false in
    let same = c.mark_all.ensures.capacity in
    omega arith

pub returns-clause-ends : goal.returns-clause-ends
returns-clause-ends c =
    All-weaker (Has c.mark_all.new.marked) (Has c.mark_parents.new.marked) c.mark_parents.ensures.kept c.args.ends.now c.mark_all.ensures.all

pub returns-clause-capacity : goal.returns-clause-capacity
returns-clause-capacity c =
    let long = ap length c.in_ok-marked.ensures ∙ length-replicate (length c.args.visits.now + 1) false in
    let same = c.mark_all.ensures.capacity in
    let still = c.mark_parents.ensures.capacity in
    omega arith
