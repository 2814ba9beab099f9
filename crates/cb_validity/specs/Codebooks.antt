-- What is written of a topology's codebook: the canonical certificate of its columns, or that two groups are too close for one.
use Rattle.std.specs.Prelude.{◌≡◌, ℕ, List, length, Bool, Option, None, Some}
use Rattle.cb_model.specs.declared.node.NodeName.{NodeName}
use Rattle.cb_model.specs.declared.node.GroupName.{GroupName}
use Rattle.cb_model.specs.declared.node.GroupName.TheVariants.{Quiet, Least}
use Rattle.cb_model.specs.declared.wish.Wish.{Wish}
use Rattle.cb_model.specs.declared.wish.Wish.TheVariants.{Plain, Cap}
use Rattle.cb_coding.specs.declared.book.Pair.{Pair}
use Rattle.cb_coding.specs.declared.group.Group.{Group}
use Rattle.cb_coding.specs.Books.{IsChoice}
use Rattle.cb_coding.specs.Distance.{all_columns}
use Rattle.cb_coding.specs.Groups.{codes_of}
use Rattle.cb_coding.specs.Needs.{need_of}
use Rattle.cb_coding.specs.Pairs.{GoodFor, IsFirstClose}
use Rattle.cb_coding.specs.Radii.{AreRadii}
use Rattle.cb_finding.specs.Finding.{IsCalled}
use Rattle.cb_finding.specs.Matrix.{IsMatrix}
use Rattle.cb_network.specs.Topology.{Topology}
use Rattle.cb_cert.specs.declared.certificate.Certificate.{Certificate}
use Rattle.cb_validity.specs.Canonical.{IsCanonicalBook, IsCanonicalCapped, IsCanonicalThin}
use Rattle.cb_validity.specs.Laws.{HavePlaces}

-- there is a codebook for the wish: over all columns the groups of the topology are as far apart as it asks
abbrev pub HasCodebook : Topology → Wish → Type 0
HasCodebook t wish = (columns : List NodeName) (groups : List Group) → IsMatrix t columns groups
    → GoodFor (codes_of groups) (all_columns (length columns)) (need_of (length columns) (codes_of groups) wish)

-- the codebook of a topology for a wish has the columns of these names
pub record AreBookColumns (t : Topology) (wish : Wish) (columns : List NodeName) : Type 0 where
  pub all : List NodeName
  pub groups : List Group
  pub matrix : IsMatrix t all groups
  pub kept : List ℕ
  pub choice : IsChoice (length all) (codes_of groups) (need_of (length all) (codes_of groups) wish) kept
  pub named : HavePlaces all columns kept

-- the canonical certificate for these columns: for a distance a book, and for a cap one with the radii of these codes
abbrev pub IsCanonicalFor : Topology → ℕ → List (List Bool) → List NodeName → Wish → Certificate → Type 0
IsCanonicalFor t width codes columns (Plain d) c = IsCanonicalBook t columns d c
IsCanonicalFor t width codes columns (Cap cap) c = (radii : List ℕ) × AreRadii width codes cap radii × IsCanonicalCapped t columns cap radii c

-- the canonical certificate of the topology's codebook for a wish
pub record IsCodebook (t : Topology) (wish : Wish) (c : Certificate) : Type 0 where
  pub columns : List NodeName
  pub are_columns : AreBookColumns t wish columns
  pub canonical : IsCanonicalFor t (length are_columns.all) (codes_of are_columns.groups) columns wish c

-- the first two groups that are closer than wanted, by what they are called
pub record AreFirstClose (t : Topology) (wanted : ℕ) (first : GroupName) (second : NodeName) (distance : ℕ) : Type 0 where
  pub columns : List NodeName
  pub groups : List Group
  pub matrix : IsMatrix t columns groups
  pub pair : Pair
  pub is_first : IsFirstClose (all_columns (length columns)) (codes_of groups) wanted pair
  pub first_is : IsCalled groups pair.first first
  pub second_is : IsCalled groups pair.second (Least second)
  pub distance_is : distance ≡ pair.distance

-- the least member of a group; the quiet one is called by none
abbrev pub least_of : GroupName → Option NodeName
least_of Quiet = None
least_of (Least node) = Some node

-- there is no codebook for what is wanted: the canonical certificate that the first two groups are too close
pub record IsShortfall (t : Topology) (wanted : ℕ) (first : GroupName) (second : NodeName) (distance : ℕ) (c : Certificate) : Type 0 where
  pub close : AreFirstClose t wanted first second distance
  pub canonical : IsCanonicalThin t (least_of first) second wanted distance c
