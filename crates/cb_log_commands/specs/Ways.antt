-- How a run ends: files and output are reported before and after it, and `end` is what is wrong, if something is.
use Rattle.std.specs.Prelude.{◌≡◌, ◌⊎◌, [], Option, Some, Result}
use Rattle.cb_io.specs.Outside.{FilesReport, SinkReport, WritesAll}
use Rattle.cb_report.specs.declared.fault.Fault.{Fault}
use Rattle.cb_file_kinds.specs.declared.output.Output.{Output}
use Rattle.cb_outcome.specs.Command.{Command, Task, makes, follows, refuses}
use Rattle.cb_file_kinds.specs.Ending.{Comes, Delivers}
use Rattle.cb_log_commands.specs.Following.{FollowsLog}

-- no file is read and nothing is written, and this is wrong
pub record DoesNothing (old new : FilesReport) (out out' : SinkReport) (end : Option Fault) (fault : Fault) : Type 0 where
  pub same : new ≡ old
  pub written : WritesAll out out' []
  pub end_is : end ≡ Some fault

-- a command made its output, or didn't, and then wrote it
pub record EndsMade (c : Command) (old new : FilesReport) (out out' : SinkReport) (end : Option Fault) : Type 0 where
  pub made : Result Output Fault
  pub comes : Comes c old new made
  pub delivers : Delivers made end out out'

-- by its task: an output was made before it was written, or a log was followed; or nothing was done
abbrev pub EndsFor : Task → Command → FilesReport → FilesReport → SinkReport → SinkReport → Option Fault → Type 0
EndsFor (makes making) c old new out out' end = EndsMade c old new out out' end
EndsFor (follows name watches) c old new out out' end = EndsMade c old new out out' end ⊎ FollowsLog c old new out out' end
EndsFor (refuses fault) c old new out out' end = DoesNothing old new out out' end fault

-- how a run of a command ends
abbrev pub Ends : Command → FilesReport → FilesReport → SinkReport → SinkReport → Option Fault → Type 0
Ends c old new out out' end = EndsFor c.task c old new out out' end
