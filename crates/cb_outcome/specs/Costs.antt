-- Bounds on steps. `after` is what the files say after the run.
use Rattle.std.specs.Prelude.{◌≡◌, ℕ, ◌+◌, ◌≤◌, List, [], ◌∷◌, length, map, sum, slice_get, Bool, true, false, Some}
use Rattle.std.specs.List.{AllZip, flat_map}
use Rattle.cb_model.specs.declared.node.NamedGroup.{NamedGroup}
use Rattle.cb_model.specs.declared.node.NodeName.{NodeName}
use Rattle.cb_change.specs.Costs.{IsOpenCost}
use Rattle.cb_change.specs.InTurn.{IsCostInTurn}
use Rattle.cb_gen.specs.Log.{log_text}
use Rattle.cb_history.specs.Histories.{History, new_history, IsAfterMoves}
use Rattle.cb_history.specs.declared.script.ScriptLine.{ScriptLine}
use Rattle.cb_io.specs.Outside.{FilesReport, left_of}
use Rattle.cb_finding.specs.declared.finding.Finding.{Finding}
use Rattle.cb_finding.specs.Finding.{IsBurst}
use Rattle.cb_network.specs.Causes.{Causes}
use Rattle.cb_network.specs.Nodes.{IsCount, IsProblem}
use Rattle.cb_network.specs.Topology.{Topology}
use Rattle.cb_levels.specs.declared.levels.Levels.{Levels}
use Rattle.cb_levels.specs.Format.{SpellsLevels}
use Rattle.cb_log.specs.Entries.{LogEntry, records_of}
use Rattle.cb_log.specs.Network.{edits_of}
use Rattle.cb_alarm.specs.Lines.{NumberedLine, ended_lines, log_lines, ComeTo}
use Rattle.cb_outcome.specs.Contents.{Left, Reads, files_before, files_from, log_from}
use Rattle.cb_outcome.specs.Grown.{MakesUp}
use Rattle.cb_outcome.specs.Jobs.{NamesNode}
use Rattle.cb_outcome.specs.Judged.{File, nothing, network, raised, scripted, PassFrom}
use Rattle.cb_outcome.specs.Reading.{LeavesRest}

-- what the edits in these lines cost together, each made of the topology that those before it leave
abbrev pub AreLinesCost : Topology → List NumberedLine → ℕ → Type 0
AreLinesCost t lines cost = (entries : List LogEntry) × ComeTo lines entries × IsCostInTurn t (edits_of (records_of entries)) cost

-- no more steps are counted than the edits in these lines cost
abbrev pub CountsLines : Topology → List NumberedLine → ℕ → ℕ → Type 0
CountsLines t lines old new = (cost : ℕ) → AreLinesCost t lines cost → new ≤ old + cost

-- no more steps are counted than the search of the topology costs, and then the edits in these lines
abbrev pub CountsBoth : Topology → List NumberedLine → ℕ → ℕ → Type 0
CountsBoth t lines old new = (searched : ℕ) → IsOpenCost t searched → CountsLines t lines (old + searched) new

-- no more steps are counted than that search costs, and then the edits in the lines of this log
abbrev pub CountsLog : Topology → List ℕ → ℕ → ℕ → Type 0
CountsLog t log old new = CountsBoth t (log_lines log) old new

-- the lines of a log of which the first bytes were taken and the others are left: all lines where none is left, and else those that ended
abbrev pub lines_taken : List ℕ → List ℕ → List NumberedLine
lines_taken taken [] = log_lines taken
lines_taken taken (byte ∷ left) = ended_lines taken

-- `burst`, `matrix` and `pairs`: no more steps are counted than the search of the topology costs that the model and the topology file give. Where
-- they give none, no step is counted.
pub record CountsSearch (left : Left) (reads : Reads) (old new : ℕ) : Type 0 where
  pub most : (t : Topology) → PassFrom nothing (files_before 2 left reads) (network t) → (searched : ℕ) → IsOpenCost t searched → new ≤ old + searched
  pub none : ((t : Topology) → ¬ PassFrom nothing (files_before 2 left reads) (network t)) → new ≡ old

-- `correlate`: the topology is that of the model and the topology file, and the lines are those of the log's bytes that were taken. Where
-- the two files give no topology, no step is counted, nor where the log was never come to, so that what is left under its name is no rest of it.
pub record CountsCorrelate (left : Left) (reads : Reads) (log : List ℕ) (after : FilesReport) (old new : ℕ) : Type 0 where
  pub most : (t : Topology) → PassFrom nothing (files_from left reads) (network t)
      → (taken : LeavesRest (log_from left reads log) (left_of after log)) → CountsBoth t (lines_taken taken.0 taken.1) old new
  pub none : ((t : Topology) → ¬ PassFrom nothing (files_from left reads) (network t)) → new ≡ old
  pub missed : ¬ LeavesRest (log_from left reads log) (left_of after log) → new ≡ old

-- `grow`: the topology and the log are those that are made up
pub record CountsGrow (sites start old new : ℕ) : Type 0 where
  pub most : (t : Topology) → MakesUp sites t → CountsLog t (log_text sites start) old new
  pub none : ((t : Topology) → ¬ MakesUp sites t) → new ≡ old

-- ---- chains of causes

-- the problems that `explain` searches from: the members of each group, but of the quiet one
abbrev pub members_but_of_quiet : Bool → List NodeName → List NodeName
members_but_of_quiet true members = []
members_but_of_quiet false members = members

abbrev pub problems_explained : List NamedGroup → List NodeName
problems_explained groups = flat_map (λ group. members_but_of_quiet group.quiet group.members) groups

-- the total, over these problems, of the numbers of nodes that each causes
pub record IsTotalCaused (t : Topology) (problems : List NodeName) (total : ℕ) : Type 0 where
  pub sizes : List ℕ
  pub sized : AllZip (λ p n. IsCount (Causes t p) n) problems sizes
  pub total_is : total ≡ sum sizes

-- the search of the topology, and then one search from each problem of a listed group, which costs as much as the problem causes nodes
pub record IsExplainCost (t : Topology) (nodes : List NodeName) (cost : ℕ) : Type 0 where
  pub searched : ℕ
  pub is_searched : IsOpenCost t searched
  pub finding : Finding
  pub burst : IsBurst t nodes finding
  pub explained : ℕ
  pub is_explained : IsTotalCaused t (problems_explained finding.groups) explained
  pub cost_is : cost ≡ searched + explained

-- `explain`: no more steps are counted than that costs, for the topology and the raised nodes that the three files give. Where they give none, no
-- step is counted.
pub record CountsExplain (left : Left) (reads : Reads) (old new : ℕ) : Type 0 where
  pub most : (t : Topology) (nodes : List NodeName) → PassFrom nothing (files_from left reads) (raised t nodes) → (cost : ℕ) → IsExplainCost t nodes cost
      → new ≤ old + cost
  pub none : ((t : Topology) (nodes : List NodeName) → ¬ PassFrom nothing (files_from left reads) (raised t nodes)) → new ≡ old

-- no more steps are counted than the problem that the word names causes nodes; where it names none, no step is counted
pub record CountsNamed (t : Topology) (word : List ℕ) (old new : ℕ) : Type 0 where
  pub most : (problem : NodeName) → NamesNode word problem → IsProblem t problem → (count : ℕ) → IsCount (Causes t problem) count → new ≤ old + count
  pub none : ((problem : NodeName) → NamesNode word problem → ¬ IsProblem t problem) → new ≡ old

-- `levels`: so it is for the topology that the model and the topology file give. Where they give none, no step is counted.
pub record CountsLevels (left : Left) (reads : Reads) (word : List ℕ) (old new : ℕ) : Type 0 where
  pub most : (t : Topology) → PassFrom nothing (files_before 2 left reads) (network t) → CountsNamed t word old new
  pub none : ((t : Topology) → ¬ PassFrom nothing (files_before 2 left reads) (network t)) → new ≡ old

-- no more steps are counted than the levels that the text spells have entries; where it spells none, no step is counted
pub record CountsEntries (text : List ℕ) (old new : ℕ) : Type 0 where
  pub most : (levels : Levels) → SpellsLevels text levels → new ≤ old + length levels.entries
  pub none : ((levels : Levels) → ¬ SpellsLevels text levels) → new ≡ old

-- `prove`: so it is for the text of the third file. Where the first two give no topology, no step is counted.
pub record CountsProve (left : Left) (reads : Reads) (old new : ℕ) : Type 0 where
  pub most : (levels : File) → slice_get (files_from left reads) 2 ≡ Some levels → CountsEntries levels.text old new
  pub none : ((t : Topology) → ¬ PassFrom nothing (files_before 2 left reads) (network t)) → new ≡ old

-- ---- scripts

-- the search of the topology to which the edits and undos of the script lead
pub record IsRewindCost (t : Topology) (script : List ScriptLine) (depth cost : ℕ) : Type 0 where
  pub last : History
  pub leads : IsAfterMoves depth (new_history t) (map (λ line. line.what) script) last
  pub searched : IsOpenCost last.now cost

-- `rewind`: no more steps are counted than that costs, for the topology and the script that the three files give. Where they give none, no step is
-- counted.
pub record CountsRewind (left : Left) (reads : Reads) (depth old new : ℕ) : Type 0 where
  pub most : (t : Topology) (script : List ScriptLine) → PassFrom nothing (files_from left reads) (scripted t script) → (cost : ℕ)
      → IsRewindCost t script depth cost → new ≤ old + cost
  pub none : ((t : Topology) (script : List ScriptLine) → ¬ PassFrom nothing (files_from left reads) (scripted t script)) → new ≡ old
