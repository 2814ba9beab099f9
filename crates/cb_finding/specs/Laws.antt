-- What holds of codes, matrices and findings of a topology, whatever the program does.
use Rattle.std.specs.Prelude.{◌≡◌, ℕ, ◌<◌, ◌≤◌, List, [], ◌∷◌, length, Bool, IsTrue}
use Rattle.cb_model.specs.declared.node.GroupName.{GroupName}
use Rattle.cb_model.specs.declared.node.NodeName.{NodeName}
use Rattle.cb_coding.specs.declared.group.Group.{Group}
use Rattle.cb_coding.specs.declared.group.Problem.{Problem}
use Rattle.cb_model.specs.declared.wish.Wish.{Wish}
use Rattle.cb_coding.specs.Answers.{from_word}
use Rattle.cb_coding.specs.Distance.{all_columns}
use Rattle.cb_coding.specs.Groups.{codes_of}
use Rattle.cb_coding.specs.Needs.{need_of}
use Rattle.cb_coding.specs.Pairs.{Good, GoodFor}
use Rattle.cb_coding.specs.Used.{IsRadius, AsksSomething}
use Rattle.cb_network.specs.Topology.{Topology}
use Rattle.cb_finding.specs.declared.finding.Finding.{Finding}
use Rattle.cb_finding.specs.Matrix.{IsCode, AreCoded, IsMatrix}
use Rattle.cb_finding.specs.Finding.{IsCalled, IsFinding, IsFindingFor, IsBurst, named_groups, word_of}

-- over some columns a node has one code
abbrev pub CodeIsOne : Type 0
CodeIsOne = (t : Topology) (columns : List NodeName) (p : NodeName) (v w : List Bool) → IsCode t columns p v
    → IsCode t columns p w → v ≡ w

-- over some columns the problems have one list of codes
abbrev pub CodedAreOne : Type 0
CodedAreOne = (t : Topology) (columns : List NodeName) (ps qs : List Problem) → AreCoded t columns ps → AreCoded t columns qs
    → ps ≡ qs

-- a topology has one matrix
abbrev pub MatrixIsOne : Type 0
MatrixIsOne = (t : Topology) (xs ys : List NodeName) (gs hs : List Group) → IsMatrix t xs gs → IsMatrix t ys hs
    → (xs ≡ ys) × (gs ≡ hs)

-- a group has one name
abbrev pub GroupNameIsOne : Type 0
GroupNameIsOne = (groups : List Group) (i : ℕ) (x y : GroupName) → IsCalled groups i x → IsCalled groups i y → x ≡ y

-- for a set of raised nodes there is one finding
abbrev pub FindingIsOne : Type 0
FindingIsOne = (columns : List NodeName) (groups : List Group) (book_columns : List ℕ) (d : ℕ) (raised : List NodeName)
    (a b : Finding) → IsFinding columns groups book_columns d raised a → IsFinding columns groups book_columns d raised b → a ≡ b

-- and one by what is in use
abbrev pub FindingForIsOne : Type 0
FindingForIsOne = (columns : List NodeName) (groups : List Group) (book_columns : List ℕ) (used : Wish) (raised : List NodeName)
    (a b : Finding) → IsFindingFor columns groups book_columns used raised a → IsFindingFor columns groups book_columns used raised b → a ≡ b

-- Where each two groups are as far apart over the columns in use as they need, and what is raised differs from the code of one group at no
-- more of them than its radius says, that group alone is listed, and the finding is sure.
abbrev pub FindingNamesAlone : Type 0
FindingNamesAlone = (columns : List NodeName) (groups : List Group) (book_columns : List ℕ) (used : Wish) (raised : List NodeName)
    → GoodFor (codes_of groups) book_columns (need_of (length columns) (codes_of groups) used)
    → Good (codes_of groups) (all_columns (length columns)) 1 → AsksSomething used → (i r : ℕ) (finding : Finding) → i < length groups
    → IsRadius (length columns) (codes_of groups) used i r → from_word book_columns (codes_of groups) (word_of columns raised) i ≤ r
    → IsFindingFor columns groups book_columns used raised finding → (finding.groups ≡ named_groups groups (i ∷ [])) × IsTrue finding.sure

-- a topology and a set of raised nodes have one finding over all columns
abbrev pub BurstIsOne : Type 0
BurstIsOne = (t : Topology) (raised : List NodeName) (a b : Finding) → IsBurst t raised a → IsBurst t raised b → a ≡ b

-- Where what is raised differs from the code of one group at no more columns than the radius says, lost or spurious, that
-- group alone is listed, and the finding is sure.
abbrev pub BurstFindsTheCause : Type 0
BurstFindsTheCause = (t : Topology) (raised : List NodeName) (finding : Finding) (burst : IsBurst t raised finding) (i : ℕ)
    → i < length burst.groups
    → from_word (all_columns (length burst.columns)) (codes_of burst.groups) (word_of burst.columns raised) i ≤ finding.radius
    → (finding.groups ≡ named_groups burst.groups (i ∷ [])) × IsTrue finding.sure
