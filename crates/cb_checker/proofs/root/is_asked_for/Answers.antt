use Rattle.std.proofs.Common.{sym, subst}
use Rattle.cb_nodes.specs.declared.id.NodeId.{NodeId}
use Rattle.std.specs.Prelude.{Option}
use Rattle.cb_checker.specs.Spans.{IsAskedAt}
use Rattle.cb_checker.proofs.root.is_asked_for.Goals as goal

pub returns-in-None : goal.returns-in-None
returns-in-None c =
    let asked : Option NodeId → _ = λ root. IsAskedAt c.args.topology.now root c.args.node in (
      λ yes. subst asked (sym c.in-None.is) (λ name named. (c.is_problem.ensures name named).0 yes),
      λ right.
          let live = c.requires in
          (c.is_problem.ensures live.0 live.1).1 (subst asked c.in-None.is right live.0 live.1),
    )
