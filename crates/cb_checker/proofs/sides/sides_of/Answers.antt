use Rattle.cb_checker.proofs.sides.sides_of.Goals as goal

pub returns : goal.returns
returns c =
    let problems = c.in_ok-problems.ensures in
    let columns = c.in_ok-columns.ensures.columns in
    record {
      problem_names = problems.0;
      problems_are = problems.1;
      problems_named = problems.2;
      column_names = columns.names;
      columns_are = columns.are;
      columns_named = columns.named;
      whole = c.model-model.ensures.whole;
      few = c.in_ok-columns.ensures.few;
    }
