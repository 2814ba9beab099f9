-- How many nodes all problems cause together, and whether a certificate may have that many entries.
use Rattle.std.specs.Prelude.{◌≡◌, ℕ, ◌<◌, ◌≤◌, List, ◌++◌, sum}
use Rattle.std.specs.List.{AllZip}
use Rattle.std.specs.FinSet as set
use Rattle.cb_model.specs.declared.node.NodeName.{NodeName}
use Rattle.cb_model.specs.NodeOrder.{node_cmp}
use Rattle.cb_network.specs.Topology.{Topology}
use Rattle.cb_network.specs.Causes.{Reaches}
use Rattle.cb_network.specs.Nodes.{AreProblems}
use Rattle.cb_cert.specs.Format.{entry_limit}

-- the node causes `size` nodes
pub record IsReach (t : Topology) (p : NodeName) (size : ℕ) : Type 0 where
  pub reached : set.FinSet node_cmp
  pub is : Reaches t p reached
  pub size_is : set.len reached ≡ size

-- the sum over these nodes of how many each of them causes is `total`
pub record CauseTogether (t : Topology) (nodes : List NodeName) (total : ℕ) : Type 0 where
  pub sizes : List ℕ
  pub sizes_are : AllZip (IsReach t) nodes sizes
  pub total_is : total ≡ sum sizes

-- the problems cause `total` nodes together
pub record IsTotalReach (t : Topology) (total : ℕ) : Type 0 where
  pub problems : List NodeName
  pub problems_are : AreProblems t problems
  pub together : CauseTogether t problems total

-- the problems cause at most as many nodes together as a certificate may have entries
abbrev pub HasFewEntries : Topology → Type 0
HasFewEntries t = (total : ℕ) × IsTotalReach t total × (total ≤ entry_limit)

-- the first of the problems cause more together than a certificate may have
pub record HasManyEntries (t : Topology) : Type 0 where
  pub first : List NodeName
  pub others : List NodeName
  pub problems_are : AreProblems t (first ++ others)
  pub total : ℕ
  pub together : CauseTogether t first total
  pub many : entry_limit < total
