-- Which commands allow which statuses, whatever the files tell.
use Rattle.std.specs.Prelude.{◌≡◌, ◌≢◌, ◌⊎◌, []}
use Rattle.cb_outcome.specs.Roles.{Wanted, Role}
use Rattle.cb_report.specs.declared.fault.Fault.{Fault}
use Rattle.cb_report.specs.declared.status.Status.{Status}
use Rattle.cb_report.specs.declared.status.Status.TheVariants as statuses
use Rattle.cb_report.specs.Faults.{status_of}
use Rattle.cb_outcome.specs.Contents.{Reads, names_of, HasRole}
use Rattle.cb_outcome.specs.Command.{Command, Task, IsDoing, reads_of, TaskFaults}

-- By its files: with a fault of a text only where it judges such a text, with a limit or a read only where it has a file.
abbrev pub FilesMayEnd : Reads → Status → Type 0
FilesMayEnd reads statuses.Done = Unit {0}
FilesMayEnd reads statuses.Usage = ⊥
FilesMayEnd reads statuses.Model = HasRole reads Role.model
FilesMayEnd reads statuses.Topology = HasRole reads Role.topology ⊎ (HasRole reads Role.symptoms ⊎ HasRole reads Role.script)
FilesMayEnd reads statuses.Certificate = ((wanted : Wanted) × HasRole reads (Role.certificate wanted)) ⊎ HasRole reads Role.levels
FilesMayEnd reads statuses.Distance = ⊥
FilesMayEnd reads statuses.Limit = names_of reads ≢ []
FilesMayEnd reads statuses.ReadFault = names_of reads ≢ []
FilesMayEnd reads statuses.WriteFault = Unit {0}
FilesMayEnd reads statuses.Memory = Unit {0}
FilesMayEnd reads statuses.NoProblem = ⊥
FilesMayEnd reads statuses.Groups = ⊥

-- by its task: with the status of a fault that it may end with
abbrev pub TaskMayEnd : Task → Status → Type 0
TaskMayEnd task status = (fault : Fault) × TaskFaults task fault × (status ≡ status_of fault)

-- a run may end so: by its files, where something is done, or by its task
abbrev pub MayEnd : Command → Status → Type 0
MayEnd c status = (IsDoing c.task × FilesMayEnd (reads_of c) status) ⊎ TaskMayEnd c.task status
