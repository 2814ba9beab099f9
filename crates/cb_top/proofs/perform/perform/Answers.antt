use Rattle.cb_top.proofs.perform.perform.Goals as goal

pub returns-in-Grow-clause-ends : goal.returns-in-Grow-clause-ends
returns-in-Grow-clause-ends g c =
    rw c.in-Grow.is (record {
      made = c.grow.result;
      comes = c.grow.ensures.comes (g.F.Files.tells c.args.files.now);
      delivers = c.deliver-in-Grow.ensures;
    })

pub returns-in-Grow-clause-steps : goal.returns-in-Grow-clause-steps
returns-in-Grow-clause-steps g c = rw c.in-Grow.is c.grow.ensures.steps
