-- What holds of the lines of faults, and of those of groups with chains.
use Rattle.std.specs.Prelude.{◌≡◌, ◌<◌, List, [], ◌∷◌, ◌++◌, length, get_or}
use Rattle.cb_model.specs.declared.node.NamedGroup.{NamedGroup}
use Rattle.cb_model.specs.declared.node.NodeName.{NodeName}
use Rattle.cb_report.specs.ChainTexts.{explained_group, explained_groups}
use Rattle.cb_report.specs.declared.fault.Fault.{Fault}
use Rattle.cb_report.specs.declared.status.Status.TheVariants.{Memory}
use Rattle.cb_report.specs.FaultTexts.{fault_text}
use Rattle.cb_report.specs.FaultWords.{memory_text}
use Rattle.cb_report.specs.Faults.{status_of}

-- whatever was out of memory, the line is one constant
abbrev pub MemoryHasOneLine : Type 0
MemoryHasOneLine = (fault : Fault) → status_of fault ≡ Memory → fault_text fault ≡ memory_text

-- with the chains of the next group, the lines of that group and these chains are added
abbrev pub GroupsAreExplainedInOrder : Type 0
GroupsAreExplainedInOrder =
    (groups : List NamedGroup) (chains : List (List (List NodeName))) (next : List (List NodeName)) (other : NamedGroup) → length chains < length groups
    → explained_groups groups (chains ++ next ∷ []) ≡ explained_groups groups chains ++ explained_group (get_or groups (length chains) other, next)
