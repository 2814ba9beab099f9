use Rattle.std.proofs.Common.{◌++◌, subst, arith}
use Rattle.cb_finding.specs.Matrix.{IsMatrix}
use Rattle.cb_network.specs.Topology.{Topology}
use Rattle.cb_network.proofs.Typed.{typed_is_regular}
use Rattle.cb_topo.specs.Numbered.{topology_of}
use Rattle.cb_network_commands.proofs.Rewound.{counts_last}
use Rattle.cb_network_commands.proofs.rewinding.lines_of_rewind.Goals as goal

pub returns-in_err-reports-clause-cost : goal.returns-in_err-reports-clause-cost
returns-in_err-reports-clause-cost g c = λ cost is. let same = c.in_err-reports.ensures.steps in omega (arith, same)

pub returns-clause-text : goal.returns-clause-text
returns-clause-text g c =
    let made = c.in_ok-reports.ensures.rewound in
    let matrix = c.in_ok-matrix.ensures.gives 0 in (
      record {
        reports = made.reports;
        last = made.last;
        rewinds = made.rewinds;
        columns = matrix.columns;
        groups = matrix.groups;
        matrix = subst (λ (t : Topology). IsMatrix t matrix.columns matrix.groups) made.now matrix.matrix;
        least = matrix.least;
        least_is = matrix.least_is;
      },
      λ i. made.text_is i ++ (matrix.gives i).out,
    )

pub returns-in_err-matrix-clause-cost : goal.returns-in_err-matrix-clause-cost
returns-in_err-matrix-clause-cost g c =
    let t = topology_of c.args.topology in
    let made = c.in_ok-reports.field-0 in
    counts_last t (topology_of made.topology) c.args.script.now c.args.depth made.reports.items c.args.steps.now c.rewind_topology.new.steps c.lines_of_matrix.new.steps
    (typed_is_regular t.model c.model-model.ensures.typed) c.in_ok-reports.ensures.rewound c.in_ok-reports.ensures.steps c.lines_of_matrix.ensures.cost

pub returns-clause-cost : goal.returns-clause-cost
returns-clause-cost g c =
    let t = topology_of c.args.topology in
    let made = c.in_ok-reports.field-0 in
    counts_last t (topology_of made.topology) c.args.script.now c.args.depth made.reports.items c.args.steps.now c.rewind_topology.new.steps c.lines_of_matrix.new.steps
    (typed_is_regular t.model c.model-model.ensures.typed) c.in_ok-reports.ensures.rewound c.in_ok-reports.ensures.steps c.lines_of_matrix.ensures.cost
