-- Problems with their codes.
use Rattle.std.specs.Prelude.{◌≡◌, ◌↔◌, ◌+◌, ◌≤◌, ◌++◌, ℕ, List, [], ◌∷◌, Bool, false, Option, None, Some, length, replicate, slice_get}
use Rattle.std.specs.List.{AllZip}
use Rattle.cb_nodes.specs.declared.id.NodeId.{NodeId}
use Rattle.cb_coding.specs.declared.group.Problem.{Problem}
use Rattle.cb_coding.specs.Groups.{AreCodedProblems, AreGroups}
use Rattle.cb_successors.specs.Rows.{Has}
use Rattle.cb_successors.specs.Graphs.{LeadsTo}
use Rattle.cb_topo.specs.Numbered.{Numbered, IsNodeNamed}
use Rattle.cb_graph.specs.Edges.{EdgeAt, number}
use Rattle.cb_cache.specs.declared.rows.Rows.{Rows}
use Rattle.cb_cache.specs.Rows.{IsNodeRow}
use Rattle.cb_codes.specs.declared.grouping.Grouping.{Grouping}
use Rattle.cb_matrix.specs.declared.coder.Coder.{Coder}
use Rattle.cb_codes.specs.Grouped.{AddsProblem, FitsTogether, HoldsProblems, groups_in}
use Rattle.cb_matrix.specs.Codes.{IsCodeOf, bits}

-- for each column, whether edges lead to it from the node of this number
pub record IsCodeFrom (n : Numbered) (columns : List NodeId) (id : NodeId) (code : List Bool) : Type 0 where
  pub width : length code ≡ length columns
  pub each : (place node : ℕ) → slice_get columns place ≡ Some (number node) → Has code place ↔ LeadsTo (EdgeAt n) id.0 node

-- the code of what the node's row has
abbrev pub IsCodeOfRow : Rows → List NodeId → NodeId → List Bool → Type 0
IsCodeOfRow rows columns id code = (words : List ℕ) × IsNodeRow rows id words × IsCodeOf columns (bits words) code

-- this is the code of the last problem; without one it has no column
abbrev pub IsCodeOfLast : Rows → List NodeId → Option NodeId → List Bool → Type 0
IsCodeOfLast rows columns None code = code ≡ replicate (length columns) false
IsCodeOfLast rows columns (Some id) code = IsCodeOfRow rows columns id code

-- the buffers are right for codes of these rows over these columns
pub record IsCoder (rows : Rows) (columns : List NodeId) (coder : Coder) : Type 0 where
  pub none : coder.none.items ≡ replicate rows.pool.width 0
  pub code : IsCodeOfLast rows columns coder.last coder.code

-- the problem of this number, with its name and its code over the columns
pub record IsProblemAt (n : Numbered) (columns : List NodeId) (id : NodeId) (problem : Problem) : Type 0 where
  pub named : IsNodeNamed n id problem.name
  pub coded : IsCodeFrom n columns id problem.code

-- the problems of these numbers, one by one
abbrev pub AreProblemsAt : Numbered → List NodeId → List NodeId → List Problem → Type 0
AreProblemsAt n columns ids problems = AllZip (IsProblemAt n columns) ids problems

-- the problem joins the group of its code, or opens one; those that were added before stay
pub record AddsOne (p : Problem) (old new : Grouping) : Type 0 where
  pub sound : FitsTogether (length p.code) new
  pub added : AddsProblem p (groups_in old) (groups_in new)
  pub holds : (before : List Problem) → HoldsProblems before old → HoldsProblems (before ++ p ∷ []) new

-- the problems are added one after the other
abbrev pub AddsProblems : List Problem → Grouping → Grouping → Type 0
AddsProblems [] old new = old ≡ new
AddsProblems (p ∷ problems) old new = (next : Grouping) × AddsOne p old next × AddsProblems problems next new

-- the problems of these numbers, with their names and their codes over the columns, are added one after the other
pub record AddsCodedProblems (n : Numbered) (columns ids : List NodeId) (old new : Grouping) : Type 0 where
  pub problems : List Problem
  pub coded : AreProblemsAt n columns ids problems
  pub adds : AddsProblems problems old new

-- the problems of these numbers, and, where they are in order, their groups
pub record AreGroupedAt (n : Numbered) (columns ids : List NodeId) (grouping : Grouping) : Type 0 where
  pub problems : List Problem
  pub coded : AreProblemsAt n columns ids problems
  pub holds : HoldsProblems problems grouping
  pub sound : FitsTogether (length columns) grouping
  pub groups : AreCodedProblems (length columns) problems → AreGroups (length columns) problems (groups_in grouping)
  pub few : AreCodedProblems (length columns) problems → length (groups_in grouping) ≤ length problems + 1
