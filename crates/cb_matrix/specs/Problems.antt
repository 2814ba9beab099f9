-- The problems of a topology in their groups.
use Rattle.std.specs.Prelude.{◌+◌, ◌≤◌, List, length, map}
use Rattle.cb_coding.specs.declared.group.Problem.{Problem}
use Rattle.cb_coding.specs.Groups.{AreGroups}
use Rattle.cb_codes.specs.Grouped.{FitsTogether, HoldsProblems, groups_in}
use Rattle.cb_finding.specs.Matrix.{AreCoded}
use Rattle.cb_model.specs.declared.node.NodeName.{NodeName}
use Rattle.cb_network.specs.Nodes.{AreColumns}
use Rattle.cb_network.specs.Sound.{problem_limit, symptom_limit}
use Rattle.cb_nodes.specs.declared.id.NodeId.{NodeId}
use Rattle.cb_topo.specs.Numbered.{Numbered, topology_of, AreNamed}
use Rattle.cb_matrix.specs.declared.problems.GroupedProblems.{GroupedProblems}

-- the columns of these numbers are all, all problems are there, in the groups of their codes, and they are within their limits
pub record AreAllGrouped (n : Numbered) (ids : List NodeId) (made : GroupedProblems) : Type 0 where
  pub columns : List NodeName
  pub columns_named : AreNamed n ids columns
  pub columns_are : AreColumns (topology_of n) columns
  pub problems : List Problem
  pub problems_named : AreNamed n made.problems (map (λ p. p.name) problems)
  pub problems_are : AreCoded (topology_of n) columns problems
  pub groups_are : AreGroups (length columns) problems (groups_in made.grouping)
  pub holds : HoldsProblems problems made.grouping
  pub sound : FitsTogether (length ids) made.grouping
  pub few_columns : length ids ≤ symptom_limit
  pub few_problems : length problems ≤ problem_limit
  pub few_groups : length (groups_in made.grouping) ≤ length problems + 1
