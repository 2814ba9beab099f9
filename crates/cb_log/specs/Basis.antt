-- What a window is diagnosed by: the columns and groups of the topology as it is, and the codebook in use.
use Rattle.std.specs.Prelude.{◌≡◌, ◌⊎◌, ◌++◌, ℕ, List, [], ◌∷◌, length, Bool}
use Rattle.cb_model.specs.declared.node.GroupName.{GroupName}
use Rattle.cb_model.specs.declared.node.NodeName.{NodeName}
use Rattle.cb_model.specs.declared.wish.Wish.{Wish}
use Rattle.cb_model.specs.declared.wish.Wish.TheVariants.{Plain, Cap}
use Rattle.cb_coding.specs.declared.book.Pair.{Pair}
use Rattle.cb_coding.specs.declared.group.Group.{Group}
use Rattle.cb_coding.specs.Answers.{radius}
use Rattle.cb_coding.specs.Books.{IsChoiceInUse}
use Rattle.cb_coding.specs.Distance.{all_columns}
use Rattle.cb_coding.specs.Groups.{codes_of}
use Rattle.cb_coding.specs.Pairs.{IsFirstClose, Good}
use Rattle.cb_coding.specs.Used.{AreLeastAndGreatest}
use Rattle.cb_finding.specs.declared.finding.Finding.{Finding}
use Rattle.cb_finding.specs.Finding.{IsCalled, IsFindingFor}
use Rattle.cb_finding.specs.Matrix.{IsMatrix}
use Rattle.cb_network.specs.Topology.{Topology}
use Rattle.cb_log.specs.declared.closed.Closed.{Closed}
use Rattle.cb_log.specs.declared.event.Event.{Event}
use Rattle.cb_log.specs.declared.event.Event.TheVariants.{Thin, BookMade, CapMade, Diagnosis}

-- how a log is correlated: by codebooks for a wish, which follow the edits, or by given columns and the wish that they meet, with no edit
pub data Mode : Type 0 where
  wanted : Wish → Mode
  fixed : List ℕ → Wish → Mode

-- the columns in use for these codes, and the wish that they meet
abbrev pub IsUsed : Mode → ℕ → List (List Bool) → List ℕ → Wish → Type 0
IsUsed (wanted wish) width codes kept used = IsChoiceInUse width codes wish used kept
IsUsed (fixed given met) width codes kept used = (kept ≡ given) × (used ≡ met)

-- the columns and groups of a topology, with the columns that are kept for them as a codebook, and the wish that these meet
pub record Basis (network : Topology) (mode : Mode) : Type 0 where
  pub columns : List NodeName
  pub groups : List Group
  pub matrix : IsMatrix network columns groups
  pub kept : List ℕ
  pub used : Wish
  pub in_use : IsUsed mode (length columns) (codes_of groups) kept used

-- the window's source and times, with what is found for its nodes
pub record IsDiagnosis {network : Topology} {mode : Mode} (basis : Basis network mode) (c : Closed) (event : Event) : Type 0 where
  pub finding : Finding
  pub found : IsFindingFor basis.columns basis.groups basis.kept basis.used c.nodes finding
  pub is : event ≡ Diagnosis c.from c.opened c.closed finding

-- the first two groups that are closer than wanted, by their names
pub record IsThin {network : Topology} {mode : Mode} (basis : Basis network mode) (d : ℕ) (event : Event) : Type 0 where
  pub pair : Pair
  pub is_first : IsFirstClose (all_columns (length basis.columns)) (codes_of basis.groups) d pair
  pub first : GroupName
  pub first_is : IsCalled basis.groups pair.first first
  pub second : GroupName
  pub second_is : IsCalled basis.groups pair.second second
  pub is : event ≡ Thin d first second pair.distance

-- the numbers of a codebook for a cap, with the least and the greatest radius of its groups
pub record IsCapMade {network : Topology} {mode : Mode} (basis : Basis network mode) (cap : ℕ) (event : Event) : Type 0 where
  pub least : ℕ
  pub greatest : ℕ
  pub radii : AreLeastAndGreatest (length basis.columns) (codes_of basis.groups) (Cap cap) least greatest
  pub is : event ≡ CapMade (length basis.kept) (length basis.columns) cap least greatest (length basis.groups)

-- the numbers of a codebook that meets this wish
abbrev pub IsMadeFor : {network : Topology} {mode : Mode} → Basis network mode → Wish → Event → Type 0
IsMadeFor basis (Plain d) event = event ≡ BookMade (length basis.kept) (length basis.columns) d (radius d) (length basis.groups)
IsMadeFor basis (Cap cap) event = IsCapMade basis cap event

-- the numbers of the codebook in use
abbrev pub IsMadeEvent : {network : Topology} {mode : Mode} → Basis network mode → Event → Type 0
IsMadeEvent basis event = IsMadeFor basis basis.used event

-- what is reported before the codebook: that the groups are closer than wanted, where they are; for a cap nothing
abbrev pub AreWarnings : {network : Topology} {mode : Mode} → Basis network mode → Wish → List Event → Type 0
AreWarnings basis (Plain d) events =
    (Good (codes_of basis.groups) (all_columns (length basis.columns)) d × (events ≡ []))
    ⊎ ((thin : Event) × IsThin basis d thin × (events ≡ thin ∷ []))
AreWarnings basis (Cap cap) events = events ≡ []

-- a codebook that is made anew for a wish is reported, after the warnings
pub record IsAnnounced {network : Topology} {mode : Mode} (basis : Basis network mode) (wish : Wish) (events : List Event) : Type 0 where
  pub warnings : List Event
  pub are_warnings : AreWarnings basis wish warnings
  pub made : Event
  pub is_made : IsMadeEvent basis made
  pub events_are : events ≡ warnings ++ made ∷ []
