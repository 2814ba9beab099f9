use Rattle.cb_cache.proofs.problems.is_problem_number.Goals as goal

pub returns-then-is_live : goal.returns-then-is_live
returns-then-is_live c =
    let live = c.is_live.ensures.0 c.if-is_live.true in (
      λ yes. (live.0, live.1, (c.is_problem.ensures live.0 live.1).0 yes),
      λ (name, named, problem). (c.is_problem.ensures name named).1 problem,
    )
