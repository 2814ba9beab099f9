-- What the successors of listed nodes show.
use Rattle.std.specs.Prelude.{◌≡◌, ◌≢◌, ◌<◌, ◌≤◌, ◌+◌, ◌↔◌, ◌⊎◌, ℕ, List, Option, None, Some, length, slice_get}
use Rattle.std.specs.declared.cmp.Ordering.TheVariants.{Less}
use Rattle.cb_model.specs.declared.node.NodeName.{NodeName}
use Rattle.cb_model.specs.NodeOrder.{node_cmp}
use Rattle.cb_nodes.specs.declared.id.NodeId.{NodeId}
use Rattle.cb_successors.specs.Rows.{Has}
use Rattle.cb_breadth.specs.Lists.{IsAmong}
use Rattle.cb_breadth.specs.Orders.{rank_at}
use Rattle.cb_topo.specs.Numbered.{Numbered, IsNodeNamed}
use Rattle.cb_graph.specs.Edges.{EdgeAt, number}
use Rattle.cb_levels.specs.declared.levels.LevelEntry.{LevelEntry}
use Rattle.cb_levels.specs.declared.levels.Levels.{Levels}
use Rattle.cb_levels.specs.declared.verdict.LevelFault.{LevelFault}
use Rattle.cb_levels.specs.declared.verdict.LevelFault.TheVariants.{NotClosed, NotShort}
use Rattle.cb_explain.specs.declared.survey.WrongSuccessor.{WrongSuccessor}
use Rattle.cb_explain.specs.declared.survey.Survey.{Survey}
use Rattle.cb_explain.specs.declared.survey.SuccessorFault.{SuccessorFault}
use Rattle.cb_explain.specs.declared.survey.SuccessorFault.TheVariants.{Unlisted, Far}

-- the entry at the position has this parent, and its node is among the successors
pub record IsChildAmong (levels : Levels) (nodes : List NodeId) (parent : ℕ) (successors : List ℕ) (position : ℕ) : Type 0 where
  pub entry : LevelEntry
  pub id : NodeId
  pub is : slice_get levels.entries position ≡ Some entry
  pub parent_is : entry.parent ≡ parent + 1
  pub id_is : slice_get nodes position ≡ Some id
  pub among : IsAmong successors id.0

-- an edge leads to the node of the entry at the position from that of its parent, which is before the bound
pub record IsLedBefore (n : Numbered) (levels : Levels) (nodes : List NodeId) (bound position : ℕ) : Type 0 where
  pub entry : LevelEntry
  pub parent : ℕ
  pub from : NodeId
  pub to : NodeId
  pub is : slice_get levels.entries position ≡ Some entry
  pub parent_is : entry.parent ≡ parent + 1
  pub low : parent < bound
  pub from_is : slice_get nodes parent ≡ Some from
  pub to_is : slice_get nodes position ≡ Some to
  pub edge : EdgeAt n from.0 to.0

-- the node is listed more than one level above
pub record IsFarAbove (levels : Levels) (nodes : List NodeId) (level k : ℕ) : Type 0 where
  pub position : ℕ
  pub entry : LevelEntry
  pub id_is : slice_get nodes position ≡ Some (number k)
  pub is : slice_get levels.entries position ≡ Some entry
  pub far : level + 1 < entry.level

-- the node has this fault, as a successor of one at the level
abbrev pub IsWrongAt : Levels → List NodeId → ℕ → SuccessorFault → ℕ → Type 0
IsWrongAt levels nodes level Unlisted k = (position : ℕ) → slice_get nodes position ≢ Some (number k)
IsWrongAt levels nodes level Far k = IsFarAbove levels nodes level k

-- the least such number, where `Le` says that one is no more than another
pub record IsLeastNumber (P : ℕ → Type 0) (Le : ℕ → ℕ → Type 0) (k : ℕ) : Type 0 where
  pub is : P k
  pub least : (other : ℕ) → P other → Le k other

abbrev pub IsLeastIfSome : (ℕ → Type 0) → (ℕ → ℕ → Type 0) → Option ℕ → Type 0
IsLeastIfSome P Le None = (k : ℕ) → ¬ P k
IsLeastIfSome P Le (Some k) = IsLeastNumber P Le k

-- the rank of the one is no more than that of the other
abbrev pub IsNoHigher : List ℕ → ℕ → ℕ → Type 0
IsNoHigher ranks k other = rank_at ranks k ≤ rank_at ranks other

-- the name of the other doesn't come before that of the one
abbrev pub IsNotAfter : Numbered → ℕ → ℕ → Type 0
IsNotAfter n k other = (name before : NodeName) → IsNodeNamed n (number k) name → IsNodeNamed n (number other) before → node_cmp before name ≢ Less

-- the least of these successors with this fault, where none has the fault that is checked before
abbrev pub IsLeastWrong : (ℕ → Type 0) → (ℕ → ℕ → Type 0) → (SuccessorFault → ℕ → Type 0) → SuccessorFault → ℕ → Type 0
IsLeastWrong E Le P Unlisted k = IsLeastNumber (λ j. E j × P Unlisted j) Le k
IsLeastWrong E Le P Far k = ((j : ℕ) → ¬ (E j × P Unlisted j)) × IsLeastNumber (λ j. E j × P Far j) Le k

-- nothing is wrong with these successors of the entry at the position, or this is the least wrong one
abbrev pub IsLeastWrongIfAny : (ℕ → Type 0) → (ℕ → ℕ → Type 0) → (SuccessorFault → ℕ → Type 0) → ℕ → Option WrongSuccessor → Type 0
IsLeastWrongIfAny E Le P position None = (fault : SuccessorFault) (k : ℕ) → ¬ (E k × P fault k)
IsLeastWrongIfAny E Le P position (Some wrong) = (wrong.position ≡ position) × IsLeastWrong E Le P wrong.fault wrong.successor

-- so it is by ranks, for the level of that entry
abbrev pub IsLeastWrongAmong : List ℕ → Levels → List NodeId → List ℕ → ℕ → Option WrongSuccessor → Type 0
IsLeastWrongAmong ranks levels nodes successors position wrong = (entry : LevelEntry) → slice_get levels.entries position ≡ Some entry
    → IsLeastWrongIfAny (IsAmong successors) (IsNoHigher ranks) (IsWrongAt levels nodes entry.level) position wrong

-- what was known, or else one such that P
abbrev pub IsKnownOr : Option WrongSuccessor → (Option WrongSuccessor → Type 0) → Option WrongSuccessor → Type 0
IsKnownOr None P wrong = P wrong
IsKnownOr (Some known) P wrong = wrong ≡ Some known

-- nothing is wrong with the successors of the entry at the position
abbrev pub HasNoWrong : Numbered → Levels → List NodeId → ℕ → Type 0
HasNoWrong n levels nodes position = (id : NodeId) (entry : LevelEntry) (fault : SuccessorFault) (k : ℕ) → slice_get nodes position ≡ Some id
    → slice_get levels.entries position ≡ Some entry → EdgeAt n id.0 k → ¬ IsWrongAt levels nodes entry.level fault k

-- the first of the entries before a position that has a wrong successor, and the least such one
pub record IsFirstWrongOf (n : Numbered) (levels : Levels) (nodes : List NodeId) (to : ℕ) (wrong : WrongSuccessor) : Type 0 where
  pub id : NodeId
  pub entry : LevelEntry
  pub low : wrong.position < to
  pub id_is : slice_get nodes wrong.position ≡ Some id
  pub entry_is : slice_get levels.entries wrong.position ≡ Some entry
  pub before : (position : ℕ) → position < wrong.position → HasNoWrong n levels nodes position
  pub least : IsLeastWrong (EdgeAt n id.0) (IsNotAfter n) (IsWrongAt levels nodes entry.level) wrong.fault wrong.successor

abbrev pub IsFirstWrongIfAny : Numbered → Levels → List NodeId → ℕ → Option WrongSuccessor → Type 0
IsFirstWrongIfAny n levels nodes to None = (position : ℕ) → position < to → HasNoWrong n levels nodes position
IsFirstWrongIfAny n levels nodes to (Some wrong) = IsFirstWrongOf n levels nodes to wrong

-- to which entries edges lead from their parents, and the first wrong successor
pub record IsSurvey (n : Numbered) (levels : Levels) (nodes : List NodeId) (survey : Survey) : Type 0 where
  pub capacity : length survey.led.items ≡ length nodes
  pub led : (position : ℕ) → Has survey.led.items position ↔ IsLedBefore n levels nodes (length nodes) position
  pub wrong : IsFirstWrongIfAny n levels nodes (length nodes) survey.wrong

-- the one of two numbers with the lower rank, or the second where there is no first
abbrev pub IsLower : List ℕ → Option ℕ → ℕ → ℕ → Type 0
IsLower ranks None k lower = lower ≡ k
IsLower ranks (Some least) k lower =
    ((lower ≡ least) × (rank_at ranks least ≤ rank_at ranks k)) ⊎ ((lower ≡ k) × (rank_at ranks k ≤ rank_at ranks least))

-- what is reported of a wrong successor
abbrev pub wrong_fault : SuccessorFault → ℕ → NodeName → LevelFault
wrong_fault Unlisted entry successor = NotClosed entry successor
wrong_fault Far entry successor = NotShort entry successor

-- this is reported of the wrong successor, by its name
pub record ReportsWrong (n : Numbered) (wrong : WrongSuccessor) (why : LevelFault) : Type 0 where
  pub successor : NodeName
  pub named : IsNodeNamed n (number wrong.successor) successor
  pub is : why ≡ wrong_fault wrong.fault (wrong.position + 1) successor
