-- Columns, problems, reached sets, groups and matrices exist.
use Rattle.std.specs.Prelude.{ℕ, List}
use Rattle.std.specs.FinSet as set
use Rattle.cb_model.specs.declared.node.NodeName.{NodeName}
use Rattle.cb_model.specs.NodeOrder.{node_cmp}
use Rattle.cb_coding.specs.declared.group.Group.{Group}
use Rattle.cb_coding.specs.declared.group.Problem.{Problem}
use Rattle.cb_coding.specs.Groups.{AreCodedProblems, AreGroups}
use Rattle.cb_finding.specs.Matrix.{IsMatrix}
use Rattle.cb_network.specs.Causes.{Causes, Reaches}
use Rattle.cb_network.specs.Nodes.{IsNodeOf, IsProblem, IsSymptomNode, AreColumns, AreProblems, IsCount}
use Rattle.cb_network.specs.Regular.{IsRegular}
use Rattle.cb_network.specs.Topology.{Topology}

-- a topology has a list of columns
abbrev pub ColumnsExist : Type 0
ColumnsExist = (t : Topology) → IsRegular t.model → (columns : List NodeName) × AreColumns t columns

-- and a list of problems
abbrev pub ProblemsExist : Type 0
ProblemsExist = (t : Topology) → IsRegular t.model → (names : List NodeName) × AreProblems t names

-- its nodes, problems and symptom nodes can be counted
abbrev pub CountsExist : Type 0
CountsExist = (t : Topology) → IsRegular t.model
    → ((n : ℕ) × IsCount (IsNodeOf t) n) × ((n : ℕ) × IsCount (IsProblem t) n) × ((n : ℕ) × IsCount (IsSymptomNode t) n)

-- each node causes the nodes of some set
abbrev pub ReachedExists : Type 0
ReachedExists = (t : Topology) (p : NodeName) → IsRegular t.model → (reached : set.FinSet node_cmp) × Reaches t p reached

-- and some number of nodes
abbrev pub CausedAreCounted : Type 0
CausedAreCounted = (t : Topology) (p : NodeName) → IsRegular t.model → (n : ℕ) × IsCount (Causes t p) n

-- problems with codes of one width have groups
abbrev pub GroupsExist : Type 0
GroupsExist = (width : ℕ) (problems : List Problem) → AreCodedProblems width problems → (groups : List Group) × AreGroups width problems groups

-- a topology has a matrix
abbrev pub MatrixExists : Type 0
MatrixExists = (t : Topology) → IsRegular t.model → (columns : List NodeName) × (groups : List Group) × IsMatrix t columns groups
