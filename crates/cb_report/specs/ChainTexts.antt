-- What `explain` prints.
use Rattle.std.specs.Prelude.{ℕ, ◌-◌, ◌≤◌, List, Option, ◌++◌, length, codes, decimal}
use Rattle.std.specs.List.{All, flat_map, zip}
use Rattle.cb_model.specs.declared.node.NamedGroup.{NamedGroup}
use Rattle.cb_model.specs.declared.node.NodeName.{NodeName}
use Rattle.cb_chains.specs.Names.{IsNamedNumber}
use Rattle.cb_finding.specs.declared.finding.Finding.{Finding}
use Rattle.cb_report.specs.Lines.{group_line, numbers_line, spaced_text}

-- a chain: its number of edges, which is one less than that of its nodes, and the nodes
abbrev pub chain_start : List NodeName → List ℕ
chain_start chain = codes "    chain " ++ decimal (length chain - 1)

abbrev pub chain_line : List NodeName → List ℕ
chain_line chain = chain_start chain ++ flat_map spaced_text chain ++ codes "\n"

-- a group, and its chains
abbrev pub explained_group : NamedGroup × List (List NodeName) → List ℕ
explained_group (group, chains) = group_line group ++ flat_map chain_line chains

-- groups, each with its list of chains
abbrev pub explained_groups : List NamedGroup → List (List (List NodeName)) → List ℕ
explained_groups groups chains = flat_map explained_group (zip groups chains)

-- the numbers of a finding, and then the groups with their chains
abbrev pub explained_text : Finding → List (List (List NodeName)) → List ℕ
explained_text f chains = codes "explain " ++ (numbers_line f ++ explained_groups f.groups chains)

-- the chain fits into a path of this length, and each of its nodes has a name
pub record FitsPath (names : List (Option NodeName)) (capacity : ℕ) (chain : List ℕ) : Type 0 where
  pub fits : length chain ≤ capacity
  pub named : All (IsNamedNumber names) chain
