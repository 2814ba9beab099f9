use Rattle.std.proofs.Common.{◌<◌, ◌↔◌, ◌⊎◌, ℕ, List, length, take, get_or, sym, subst, ◌∙◌, arith}
use Rattle.std.proofs.lemmas.List.{take_more}
use Rattle.cb_successors.specs.Rows.{Has}
use Rattle.cb_explain.specs.Surveyed.{IsChildAmong}
use Rattle.cb_explain.proofs.Leading.{marked_more}
use Rattle.cb_explain.proofs.survey.mark_children.Goals as goal

pub loop-position-preserved : goal.loop-position-preserved
loop-position-preserved c =
    let levels = c.args.levels.now in
    let nodes = c.args.listed.now.nodes.items in
    let successors = c.args.successors.now in
    let position = c.loop-position.position in
    let low : position < length successors = omega (arith, c.loop-position-test.true) in
    let first = c.args.led.now.items in
    let new = c.mark_child.new.led.items in
    record {
      capacity = c.mark_child.ensures.capacity ∙ c.loop-position.invariant.capacity;
      led = subst (λ (xs : List ℕ). (i : ℕ) → Has new i ↔ (Has first i ⊎ IsChildAmong levels nodes c.args.parent xs i)) (sym (take_more successors position 0 low))
          (marked_more levels nodes c.args.parent (take position successors) (get_or successors position 0) first c.loop-position.led.items new c.loop-position.invariant.led c.mark_child.ensures.led);
    }
