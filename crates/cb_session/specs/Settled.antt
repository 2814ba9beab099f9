-- What always holds of the parts of a session.
use Rattle.std.specs.Prelude.{List, Option, IfSome}
use Rattle.cb_model.specs.declared.wish.Wish.{Wish}
use Rattle.cb_log.specs.declared.record.Record.{Record}
use Rattle.cb_log.specs.Basis.{wanted}
use Rattle.cb_log.specs.Kept.{Kept, StandsForRecords}
use Rattle.cb_topo.specs.Numbered.{Numbered}
use Rattle.cb_session.specs.declared.basis.Ready.{Ready}
use Rattle.cb_session.specs.declared.course.Course.{Course}
use Rattle.cb_session.specs.declared.course.Course.TheVariants.{Wanted, Fixed}
use Rattle.cb_session.specs.Course.{mode_by}
use Rattle.cb_session.specs.Ready.{IsReady}

-- the windows are those over some records
abbrev pub IsOverSome : Kept → Type 0
IsOverSome windows = (records : List Record) × StandsForRecords windows records

-- the windows are over some records, and what is ready is so for the topology
pub record IsSessionSettled (n : Numbered) (wish : Wish) (windows : Kept) (ready : Option Ready) : Type 0 where
  pub over : IsOverSome windows
  pub ready_is : IfSome ready (IsReady n (wanted wish))

-- the windows are over some records, and what is ready is so for the topology, by its own codebook
pub record IsFixed (n : Numbered) (windows : Kept) (ready : Ready) : Type 0 where
  pub over : IsOverSome windows
  pub ready_is : IsReady n (mode_by ready) ready

-- one or the other, by what the log is correlated by
abbrev pub FitsCourse : Numbered → Kept → Course → Type 0
FitsCourse n windows (Wanted wish ready) = IsSessionSettled n wish windows ready
FitsCourse n windows (Fixed ready) = IsFixed n windows ready
