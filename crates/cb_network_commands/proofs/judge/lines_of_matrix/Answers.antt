use Rattle.std.proofs.Common.{List, ℕ, ap, subst}
use Rattle.cb_finding.specs.Matrix.{IsMatrix}
use Rattle.cb_topo.specs.Numbered.{Numbered, topology_of}
use Rattle.cb_outcome.specs.Outcome.{done}
use Rattle.cb_file_kinds.proofs.Chain.{if_ok_more}
use Rattle.cb_network_commands.proofs.judge.lines_of_matrix.Goals as goal

pub returns-clause-gives : goal.returns-clause-gives
returns-clause-gives g c =
    let made = c.in_ok-matrix.matrix in
    if_ok_more c.matrix_lines.result _ _ (λ lines text. λ whole. record {
      columns = made.columns;
      groups = made.groups.groups;
      matrix = subst (λ (n : Numbered). IsMatrix (topology_of n) made.columns made.groups.groups) c.in_ok-network.ensures.network c.in_ok-matrix.ensures.matrix;
      least = text.least;
      least_is = text.least_is;
      gives = ap (λ (out : List ℕ). done out whole) text.lines_are;
    }) c.matrix_lines.ensures
