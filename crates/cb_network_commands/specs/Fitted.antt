-- What `pairs` gives, over the columns and groups of a topology.
use Rattle.std.specs.Prelude.{◌≡◌, ℕ, ◌<◌, ◌≤◌, List, [], length, Option, None, Some}
use Rattle.cb_model.specs.declared.node.NodeName.{NodeName}
use Rattle.cb_network.specs.Nodes.{AreColumns}
use Rattle.cb_coding.specs.declared.group.Group.{Group}
use Rattle.cb_coding.specs.Groups.{codes_of}
use Rattle.cb_codes.specs.Codes.{Coded}
use Rattle.cb_topo.specs.Numbered.{topology_of}
use Rattle.cb_matrix.specs.Parts.{Parts}
use Rattle.cb_burst.specs.Searched.{SearchedParts}
use Rattle.cb_decode.specs.Names.{HasName}
use Rattle.cb_pairs.specs.Fits.{group_limit}
use Rattle.cb_report.specs.declared.fault.Fault.{Fault}
use Rattle.cb_report.specs.declared.fault.Fault.TheVariants as faults
use Rattle.cb_report.specs.declared.fits.FoundFits.{FoundFits}
use Rattle.cb_report.specs.FitsText.{fits_text}
use Rattle.cb_outcome.specs.Fits.{IsFoundFor}

-- each group is called by something
abbrev pub HaveNames : List Group → Type 0
HaveNames groups = (i : ℕ) → i < length groups → HasName groups i

-- the pairs are those of the groups' codes, and the groups are few
pub record AreFitted (matrix : Parts) (pairs : Coded) : Type 0 where
  pub few : length matrix.groups ≤ group_limit
  pub width : pairs.width ≡ length matrix.columns
  pub rows : pairs.rows ≡ codes_of matrix.groups

-- these are the fits of the nodes over the columns of the topology
abbrev pub FindsFits : SearchedParts → List NodeName → FoundFits → Type 0
FindsFits searched nodes found = (columns : List NodeName) → AreColumns (topology_of searched.network) columns → IsFoundFor columns searched.matrix.groups nodes found

-- exactly the fits are printed, and nothing is wrong
pub record IsFittedOutput (searched : SearchedParts) (nodes : List NodeName) (bytes : List ℕ) (fault : Option Fault) : Type 0 where
  pub found : FoundFits
  pub is_found : FindsFits searched nodes found
  pub text : bytes ≡ fits_text found
  pub well : fault ≡ None

-- there are too many groups, and nothing is printed
pub record IsGroupsRefusal (count : ℕ) (bytes : List ℕ) (fault : Option Fault) : Type 0 where
  pub many : group_limit < count
  pub none : bytes ≡ []
  pub is : fault ≡ Some (faults.Groups count)
