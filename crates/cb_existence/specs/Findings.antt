-- Answers and findings exist.
use Rattle.std.specs.Prelude.{ℕ, ◌<◌, List, length, Bool}
use Rattle.cb_model.specs.declared.node.NodeName.{NodeName}
use Rattle.cb_model.specs.declared.wish.Wish.{Wish}
use Rattle.cb_model.specs.NodeOrder.{node_cmp}
use Rattle.cb_model.specs.Order.{Rises}
use Rattle.cb_coding.specs.declared.book.Answer.{Answer}
use Rattle.cb_coding.specs.declared.group.Group.{Group}
use Rattle.cb_coding.specs.Used.{IsAnswerFor}
use Rattle.cb_finding.specs.declared.finding.Finding.{Finding}
use Rattle.cb_finding.specs.Finding.{IsFindingFor, IsBurst}
use Rattle.cb_network.specs.Regular.{IsRegular}
use Rattle.cb_network.specs.Topology.{Topology}

-- where there is a code, a word has an answer
abbrev pub AnswerExists : Type 0
AnswerExists = (width : ℕ) (codes : List (List Bool)) (columns : List ℕ) (used : Wish) (word : List Bool) → 0 < length codes
    → (answer : Answer) × IsAnswerFor width codes columns used word answer

-- where there is a group, raised nodes in order have a finding
abbrev pub FindingExists : Type 0
FindingExists = (columns : List NodeName) (groups : List Group) (book_columns : List ℕ) (used : Wish) (raised : List NodeName) → 0 < length groups
    → Rises node_cmp raised → (finding : Finding) × IsFindingFor columns groups book_columns used raised finding

-- raised nodes in order have a finding over all columns of a topology
abbrev pub BurstExists : Type 0
BurstExists = (t : Topology) (raised : List NodeName) → IsRegular t.model → Rises node_cmp raised → (finding : Finding) × IsBurst t raised finding
