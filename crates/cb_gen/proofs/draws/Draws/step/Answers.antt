use Rattle.std.proofs.Common.{◌*◌, ◌^◌}
use Rattle.std.proofs.Math.Nat.{mod-add-mod}
use Rattle.cb_gen.specs.Draws.{state_of_next_draw}
use Rattle.cb_gen.proofs.draws.Draws.step.Goals as goal

pub returns : goal.returns
unfolding state_of_next_draw
returns c = mod-add-mod (c.args.self.now.state * 6364136223846793005) (2 ^ 64) 1442695040888963407
