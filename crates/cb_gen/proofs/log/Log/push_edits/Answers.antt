use Rattle.std.proofs.Common.{arith, replicate, [], ◌∷◌}
use Rattle.cb_gen.specs.Log.{Edit}
use Rattle.cb_gen.proofs.Going.{alike, left_more, edit_goes}
use Rattle.cb_gen.proofs.log.Log.push_edits.Goals as goal

pub loop-preserved : goal.loop-preserved
loop-preserved c = (
  left_more c.args.sites c.args.self.now c.loop.self c.push_drawn_edit.new.self (λ n. replicate n Edit) (Edit ∷ []) c.args.count c.loop.counter (alike Edit)
      c.loop-test.true (c.loop.invariant.0) (edit_goes c.args.sites c.loop.self c.push_drawn_edit.new.self c.in_ok-push_drawn_edit.ensures.text
      c.in_ok-push_drawn_edit.ensures.time c.in_ok-push_drawn_edit.ensures.state),
  omega (arith, c.loop.invariant.1, c.in_ok-push_drawn_edit.ensures.time),
)
