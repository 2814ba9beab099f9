-- What windows are diagnosed by, as a session holds it.
use Rattle.std.specs.Prelude.{◌≡◌, ◌<◌, ◌≤◌, ◌+◌, ◌^◌, ℕ, List, length}
use Rattle.cb_model.specs.declared.node.GroupName.{GroupName}
use Rattle.cb_model.specs.declared.node.NodeName.{NodeName}
use Rattle.cb_model.specs.declared.wish.Wish.{Wish}
use Rattle.cb_coding.specs.declared.book.Pair.{Pair}
use Rattle.cb_coding.specs.declared.group.Group.{Group}
use Rattle.cb_coding.specs.Groups.{codes_of}
use Rattle.cb_decode.specs.Decoder.{IsDecoder}
use Rattle.cb_finding.specs.Finding.{IsCalled}
use Rattle.cb_finding.specs.Matrix.{IsMatrix}
use Rattle.cb_log.specs.declared.event.Event.{Event}
use Rattle.cb_log.specs.declared.event.Event.TheVariants.{Thin}
use Rattle.cb_log.specs.Basis.{Mode, wanted, IsUsed, Basis}
use Rattle.cb_network.specs.Sound.{problem_limit, symptom_limit}
use Rattle.cb_topo.specs.Numbered.{Numbered, topology_of, AreNamed}
use Rattle.cb_session.specs.declared.basis.Ready.{Ready}
use Rattle.cb_session.specs.InUse.{in_use_of, HasRadiiOf}

-- the matrix of the topology, with the names of its columns, and the codebook in use for it with its decoder, within their limits
pub record IsReady (n : Numbered) (mode : Mode) (ready : Ready) : Type 0 where
  pub columns : List NodeName
  pub columns_named : AreNamed n ready.matrix.columns columns
  pub matrix : IsMatrix (topology_of n) columns ready.matrix.groups
  pub in_use : IsUsed mode (length ready.matrix.columns) (codes_of ready.matrix.groups) (in_use_of ready.book).kept (in_use_of ready.book).used
  pub radii : HasRadiiOf (length ready.matrix.columns) (codes_of ready.matrix.groups) ready.book
  pub decoder : IsDecoder (in_use_of ready.book).kept (codes_of ready.matrix.groups) ready.decoder
  pub few_columns : length ready.matrix.columns ≤ symptom_limit
  pub few_groups : length ready.matrix.groups ≤ problem_limit + 1
  pub few_kept : length (in_use_of ready.book).kept < 2 ^ 32

-- it is ready for some topology, by the codebook in use for a wish
abbrev pub IsReadyFor : Wish → Ready → Type 0
IsReadyFor wish ready = (n : Numbered) × IsReady n (wanted wish) ready

-- it is ready for the topology, by some codebook
abbrev pub IsReadyBySome : Numbered → Ready → Type 0
IsReadyBySome n ready = (mode : Mode) × IsReady n mode ready

-- it is ready for some topology
abbrev pub IsSomewhereReady : Ready → Type 0
IsSomewhereReady ready = (n : Numbered) × IsReadyBySome n ready

-- the columns and groups of the topology are those of its matrix, and its codebook is in use
pub record HasBasis (n : Numbered) {mode : Mode} (basis : Basis (topology_of n) mode) (ready : Ready) : Type 0 where
  pub columns : AreNamed n ready.matrix.columns basis.columns
  pub groups : basis.groups ≡ ready.matrix.groups
  pub kept : basis.kept ≡ (in_use_of ready.book).kept
  pub used : basis.used ≡ (in_use_of ready.book).used

-- it tells these two groups by their names, with their distance
pub record NamesGroupPair (groups : List Group) (wanted : ℕ) (pair : Pair) (event : Event) : Type 0 where
  pub first : GroupName
  pub first_is : IsCalled groups pair.first first
  pub second : GroupName
  pub second_is : IsCalled groups pair.second second
  pub is : event ≡ Thin wanted first second pair.distance
