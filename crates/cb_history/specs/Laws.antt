-- Laws of histories and of inverses.
use Rattle.std.specs.Prelude.{◌≡◌, ℕ, ◌<◌, ◌≤◌, List, ◌∷◌, ◌++◌, length, map, take, Ok}
use Rattle.std.specs.List.{Contains}
use Rattle.cb_network.specs.declared.edit.Edit.{Edit}
use Rattle.cb_network.specs.declared.edit.Edit.TheVariants.{Delete}
use Rattle.cb_network.specs.Topology.{Topology, Link as TheLink}
use Rattle.cb_network.specs.Sound.{Sound}
use Rattle.cb_network.specs.Regular.{IsRegular}
use Rattle.cb_network.specs.Edits.{IsAfter, without_instance}
use Rattle.cb_network.specs.Laws.{HasGoodName}
use Rattle.cb_history.specs.declared.moves.Move.{Move}
use Rattle.cb_history.specs.declared.moves.Move.TheVariants.{Make}
use Rattle.cb_history.specs.Histories.{History, edited, undone, IsAfterMoves}
use Rattle.cb_history.specs.Inverse.{AllMake, AreLinksOf, AreFirstSides, Rebuilds, Inverts}
use Rattle.cb_history.specs.declared.script.ScriptLine.{ScriptLine}
use Rattle.cb_history.specs.declared.script.LineReport.{LineReport}
use Rattle.cb_history.specs.Scripts.{Rewinds}
use Rattle.cb_history.specs.Records.{StandFor}

-- the inverse of an accepted edit of a sound topology is accepted edit by edit, and makes the topology before that edit
abbrev pub InverseTakesBack : Type 0
InverseTakesBack = (t u : Topology) (edit : Edit) (edits : List Edit) → IsRegular t.model → Sound t → IsAfter t edit (Ok u)
    → Inverts t edit edits → AllMake u edits t

-- each new instance among these edits has a name of the grammar
abbrev pub InverseIsGoodNamed : Type 0
InverseIsGoodNamed = (t u : Topology) (edit : Edit) (edits : List Edit) → Sound t → IsAfter t edit (Ok u) → Inverts t edit edits
    → (one : Edit) → Contains edits one → HasGoodName one

-- a prefix, which is not empty, of the edits that make a deleted instance again, and then a Delete, give what the first Delete gave
abbrev pub PartIsDeletedAgain : Type 0
PartIsDeletedAgain = (t between : Topology) (name : List ℕ) (first : Edit) (prefix rest : List Edit) → IsRegular t.model → Sound t
    → Rebuilds t name (first ∷ (prefix ++ rest)) → AllMake (without_instance t name) (first ∷ prefix) between
    → IsAfter between (Delete name) (Ok (without_instance t name))

-- after a prefix of an inverse, neither empty nor whole, the edit is accepted again and gives what it gave before
abbrev pub PartIsMadeAgain : Type 0
PartIsMadeAgain = (t u between : Topology) (edit first next : Edit) (prefix rest : List Edit) → IsRegular t.model → Sound t → IsAfter t edit (Ok u)
    → Inverts t edit (first ∷ (prefix ++ next ∷ rest)) → AllMake u (first ∷ prefix) between → IsAfter between edit (Ok u)

-- the links from an instance, of those to itself the one of lesser relation, represent all its links, each once
abbrev pub FirstSidesCoverAll : Type 0
FirstSidesCoverAll = (t : Topology) (name : List ℕ) (links : List TheLink) → IsRegular t.model → Sound t → AreFirstSides t name links
    → AreLinksOf t name links

-- the depth bounds the number of earlier topologies
abbrev pub FewAreKept : Type 0
FewAreKept = (depth : ℕ) (h last : History) (moves : List Move) → length h.before ≤ depth → IsAfterMoves depth h moves last
    → length last.before ≤ depth

-- an accepted edit and its undo leave the topology as it was
abbrev pub UndoTakesBack : Type 0
UndoTakesBack = (depth : ℕ) (h : History) (u : Topology) → 0 < depth → (undone (edited depth h u)).now ≡ h.now

-- edits and undos lead to one history
abbrev pub MovesAreOne : Type 0
MovesAreOne = (depth : ℕ) (h : History) (moves : List Move) (x y : History) → IsRegular h.now.model
    → ((t : Topology) → Contains h.before t → IsRegular t.model)
    → IsAfterMoves depth h moves x → IsAfterMoves depth h moves y → x ≡ y

-- each topology of the history is sound, and of a regular model
pub record IsSoundHistory (h : History) : Type 0 where
  pub now : Sound h.now
  pub regular : IsRegular h.now.model
  pub before : (t : Topology) → Contains h.before t → Sound t × IsRegular t.model

-- edits and undos leave all topologies of a history sound
abbrev pub MovesKeepSound : Type 0
MovesKeepSound = (depth : ℕ) (h last : History) (moves : List Move) → IsSoundHistory h
    → ((edit : Edit) → Contains moves (Make edit) → HasGoodName edit) → IsAfterMoves depth h moves last → IsSoundHistory last

-- the inverse of an accepted edit and then the records, cut to the depth, represent the history after the edit
abbrev pub EditIsRecorded : Type 0
EditIsRecorded = (t u : Topology) (records : List (List Edit)) (edits : List Edit) (h : History) (depth : ℕ) → StandFor t records h
    → AllMake u edits t → StandFor u (take depth (edits ∷ records)) (edited depth h u)

-- once the edits of the first record are made, the other records represent the history after the undo
abbrev pub LastIsTaken : Type 0
LastIsTaken = (t u : Topology) (edits : List Edit) (records : List (List Edit)) (h : History) → IsRegular t.model
    → StandFor t (edits ∷ records) h → AllMake t edits u → StandFor u records (undone h)

-- records represent one history
abbrev pub RecordsAreOne : Type 0
RecordsAreOne = (t : Topology) (records : List (List Edit)) (x y : History) → IsRegular t.model → StandFor t records x
    → StandFor t records y → x ≡ y

-- accepted edits make one topology
abbrev pub AllMakeOne : Type 0
AllMakeOne = (t : Topology) (edits : List Edit) (u v : Topology) → IsRegular t.model → AllMake t edits u → AllMake t edits v → u ≡ v

-- a script reports one thing and leaves one history
abbrev pub RewindIsOne : Type 0
RewindIsOne = (depth : ℕ) (h : History) (lines : List ScriptLine) (a b : List LineReport) (x y : History) → IsRegular h.now.model
    → ((t : Topology) → Contains h.before t → IsRegular t.model) → Rewinds depth h lines a x → Rewinds depth h lines b y → (a ≡ b) × (x ≡ y)

-- it leaves what its edits and undos do
abbrev pub RewindMoves : Type 0
RewindMoves = (depth : ℕ) (h : History) (lines : List ScriptLine) (reports : List LineReport) (last : History) → Rewinds depth h lines reports last
    → IsAfterMoves depth h (map (λ l. l.what) lines) last
